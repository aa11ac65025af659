use Rattle.std.proofs.Common.{◌≡◌}
use Rattle.da_values.specs.Value.{vals}
use Rattle.da_core.proofs.Binding.{Binds}
use Rattle.da_core.proofs.known.bind.Given as goal

abbrev pub invariant-loop-slot : goal.invariant-loop-slot
invariant-loop-slot l =
    Binds l.slots l.row l.slot-iterator.a.rest.now (vals l.slot-iterator.b.rest.now) l.initial.known l.known
    × (l.known.actions ≡ l.initial.known.actions)
