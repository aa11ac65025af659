use Rattle.std.proofs.Common.{◌≡◌, ◌++◌, take}
use Rattle.std.specs.Prelude.{flat_map}
use Rattle.class_demands.specs.Prefix.{class_upto, seen}
use Rattle.class_demands.proofs.prefix.put_classes.Given as goal

abbrev pub invariant-loop-class : goal.invariant-loop-class
invariant-loop-class l = seen l.found ≡ seen l.initial.found ++ flat_map (class_upto l.line) (take l.class-index l.classes)
