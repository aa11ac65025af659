use Rattle.std.proofs.Common.{◌≡◌, ◌++◌, take, flat_map}
use Rattle.da_unparse.specs.ProgramTexts.{class_text}
use Rattle.da_unparse.proofs.programs.put_classes.Given as goal

abbrev pub invariant-loop-class : goal.invariant-loop-class
invariant-loop-class l = l.out ≡ l.fn.out ++ flat_map class_text (take l.class-index l.classes)
