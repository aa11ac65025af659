use Rattle.std.proofs.Common.{take}
use Rattle.class_demands.specs.Marks.{Puts}
use Rattle.class_demands.specs.Prefix.{seen, upto}
use Rattle.class_demands.proofs.prefix.put_upto.Given as goal

abbrev pub invariant-loop-one : goal.invariant-loop-one
invariant-loop-one l = Puts l.initial.used (seen l.initial.found) l.used (seen l.found) (upto l.line (take l.one-index l.listed))
