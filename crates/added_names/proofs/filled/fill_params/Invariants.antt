use Rattle.std.proofs.Common.{[]}
use Rattle.added_names.specs.Filled.{param_filled, param_left, left_of}
use Rattle.added_names.proofs.FillLaws.{Filling}
use Rattle.added_names.proofs.filled.fill_params.Given as goal

abbrev pub invariant-loop-at : goal.invariant-loop-at
invariant-loop-at l = Filling (param_filled l.class l.member) (param_left l.class l.member) l.params (left_of l.initial.rest) [] l.at l.filled (left_of l.rest)
