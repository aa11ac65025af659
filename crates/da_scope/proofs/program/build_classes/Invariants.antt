use Rattle.std.proofs.Common.{◌≡◌, map, take}
use Rattle.da_lang.specs.Resolution.{resolved_class}
use Rattle.da_scope.proofs.program.build_classes.Given as goal

abbrev pub invariant-loop-class : goal.invariant-loop-class
invariant-loop-class l = l.found ≡ map resolved_class (take l.class-index l.classes)
