use Rattle.std.proofs.Common.{◌≡◌, ◌++◌, take, flat_map}
use Rattle.added_names.specs.StmtTags.{class_tags}
use Rattle.added_names.proofs.statements.put_classes.Given as goal

abbrev pub invariant-loop-class : goal.invariant-loop-class
invariant-loop-class l = l.out ≡ l.initial.out ++ flat_map class_tags (take l.class-index l.classes)
