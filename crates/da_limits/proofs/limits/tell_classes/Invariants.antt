use Rattle.std.proofs.Common.{◌≡◌, drop}
use Rattle.da_limits.specs.LimitTree.{NoneLeadBack, classes_told}
use Rattle.da_limits.proofs.limits.tell_classes.Given as goal

abbrev pub invariant-loop-class : goal.invariant-loop-class
invariant-loop-class l = record {
  back : NoneLeadBack (drop l.class-index l.classes);
  told : classes_told (drop l.class-index l.classes) l.least ≡ classes_told l.classes l.initial.least;
}
