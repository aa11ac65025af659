use Rattle.da_parse.specs.Loose.{given_param, open_params}
use Rattle.da_parse.proofs.GivenTypes.{Given}
use Rattle.da_parse.proofs.loose.give_params.Given as goal

abbrev pub invariant-loop-at : goal.invariant-loop-at
invariant-loop-at l = Given given_param (open_params l.class l.member) l.fn.params l.params l.fn.untyped l.untyped l.at
