use Rattle.added_names.specs.Filled.{member_filled, member_left, left_of}
use Rattle.added_names.proofs.FillLaws.{Filling}
use Rattle.added_names.proofs.filled.fill_members.Given as goal

abbrev pub invariant-loop-at : goal.invariant-loop-at
invariant-loop-at l = Filling (member_filled l.class) (member_left l.class) l.members (left_of l.initial.rest) l.initial.out l.at l.out (left_of l.rest)
