use Rattle.std.proofs.Common.{◌≡◌, ◌-◌, ◌<◌, length}
use Rattle.type_choice.specs.Roots.{root_in, root_of}
use Rattle.type_choice.proofs.ends.root.Given as goal

abbrev pub invariant-loop-i : goal.invariant-loop-i
invariant-loop-i l = (root_in (l.number - l._i) l.forms l.at ≡ root_of l.forms l.number) × (l.at < length l.forms)
