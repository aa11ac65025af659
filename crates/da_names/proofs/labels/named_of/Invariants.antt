use Rattle.std.proofs.Common.{◌≡◌, take}
use Rattle.da_names.specs.ClassRules.{names_at}
use Rattle.da_bodies.specs.Repeats.{declared_in}
use Rattle.da_names.proofs.labels.named_of.Given as goal

abbrev pub invariant-loop-name : goal.invariant-loop-name
invariant-loop-name l = declared_in l.list ≡ names_at l.line (take l.name-index l.names)
