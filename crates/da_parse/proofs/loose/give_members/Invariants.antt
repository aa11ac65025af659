use Rattle.da_parse.specs.Loose.{given_member, open_members}
use Rattle.da_parse.proofs.GivenTypes.{Given}
use Rattle.da_parse.proofs.loose.give_members.Given as goal

abbrev pub invariant-loop-at : goal.invariant-loop-at
invariant-loop-at l = Given given_member (open_members l.class) l.fn.members l.members l.fn.untyped l.untyped l.at
