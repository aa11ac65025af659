use Rattle.std.proofs.Common.{[]}
use Rattle.added_names.specs.Filled.{class_filled, class_left, left_of}
use Rattle.added_names.proofs.FillLaws.{Filling}
use Rattle.added_names.proofs.filled.fill_classes.Given as goal

abbrev pub invariant-loop-at : goal.invariant-loop-at
invariant-loop-at l = Filling class_filled class_left l.classes (left_of l.initial.rest) [] l.at l.filled (left_of l.rest)
