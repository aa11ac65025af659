use Rattle.std.proofs.Common.{◌≡◌, take, flat_map}
use Rattle.da_lang.specs.NameRules.{class_refusals}
use Rattle.da_bodies.specs.Telling.{telling}
use Rattle.da_names.proofs.tree.check_classes.Given as goal

abbrev pub invariant-loop-class : goal.invariant-loop-class
invariant-loop-class l = l.least ≡ telling l.initial.least (flat_map class_refusals (take l.class-index l.classes))
