use Rattle.std.proofs.Common.{◌≡◌, take, true}
use Rattle.std.specs.List.{list_all}
use Rattle.da_infer.specs.Known.{class_known}
use Rattle.da_infer.proofs.known.classes_known.Given as goal

abbrev pub invariant-loop-class : goal.invariant-loop-class
invariant-loop-class l = list_all (class_known l.count) (take l.class-index l.classes) ≡ true
