use Rattle.da_parse.proofs.OpenParams.{others_kept, others_noted, setup_given, setup_noted, method_given, method_noted}
use Rattle.da_parse.proofs.loose.give_member.Goals as goal

pub returns-in_ok-give_params-in-Setup-clause-member : goal.returns-in_ok-give_params-in-Setup-clause-member
returns-in_ok-give_params-in-Setup-clause-member c = setup_given c.args.member _ _ _ _ c.in-Setup.is c.in_ok-give_params-in-Setup.ensures.params

pub returns-in_ok-give_params-in-Setup-clause-noted : goal.returns-in_ok-give_params-in-Setup-clause-noted
returns-in_ok-give_params-in-Setup-clause-noted c = setup_noted c.args.class c.args.at c.args.member _ _ _ _ _ c.in-Setup.is c.in_ok-give_params-in-Setup.ensures.noted

pub returns-in_ok-give_params-in-Method-clause-member : goal.returns-in_ok-give_params-in-Method-clause-member
returns-in_ok-give_params-in-Method-clause-member c = method_given c.args.member _ _ _ _ _ c.in-Method.is c.in_ok-give_params-in-Method.ensures.params

pub returns-in_ok-give_params-in-Method-clause-noted : goal.returns-in_ok-give_params-in-Method-clause-noted
returns-in_ok-give_params-in-Method-clause-noted c = method_noted c.args.class c.args.at c.args.member _ _ _ _ _ _ c.in-Method.is c.in_ok-give_params-in-Method.ensures.noted

pub returns-in_default-clause-member : goal.returns-in_default-clause-member
returns-in_default-clause-member c = others_kept c.args.member c.in_default.not-Setup c.in_default.not-Method

pub returns-in_default-clause-noted : goal.returns-in_default-clause-noted
returns-in_default-clause-noted c = others_noted c.args.class c.args.at c.args.member c.args.untyped.now c.in_default.not-Setup c.in_default.not-Method
