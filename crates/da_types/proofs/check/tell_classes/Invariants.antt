use Rattle.std.proofs.Common.{◌≡◌, drop}
use Rattle.std.specs.Prelude.{flat_map}
use Rattle.da_lang.specs.Typing.{class_breaks}
use Rattle.da_types.specs.Telling.{telling}
use Rattle.da_types.proofs.check.tell_classes.Given as goal

abbrev pub invariant-loop-class : goal.invariant-loop-class
invariant-loop-class l = telling l.least (flat_map (class_breaks l.messages) (drop l.class-index l.classes)) ≡ telling l.initial.least (flat_map (class_breaks l.messages) l.classes)
