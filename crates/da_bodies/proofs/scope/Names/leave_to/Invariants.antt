use Rattle.std.proofs.Common.{◌≡◌, ◌-◌, ◌≤◌, drop, length}
use Rattle.da_bodies.specs.ScopeView.{scope_of, IsIndexed}
use Rattle.da_bodies.proofs.scope.Names.leave_to.Given as goal

abbrev pub invariant-loop-self : goal.invariant-loop-self
invariant-loop-self l = record {
  indexed : IsIndexed l.self-inside.roles l.self-inside.entries;
  left : scope_of l.self-inside.entries ≡ drop (length l.initial.self-inside.entries - length l.self-inside.entries) (scope_of l.initial.self-inside.entries);
  fewer : length l.self-inside.entries ≤ length l.initial.self-inside.entries;
  not_too_few : length l.initial.self-inside.entries - length l.self-inside.entries ≤ length l.initial.self-inside.entries - l.len;
}

abbrev pub decreases-loop-self : goal.decreases-loop-self
decreases-loop-self l = length l.self-inside.entries
