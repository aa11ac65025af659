use Rattle.da_parse.proofs.OpenParams.{class_given}
use Rattle.da_parse.proofs.loose.give_class.Goals as goal

pub returns-clause-class : goal.returns-clause-class
returns-clause-class c = class_given c.args.class _ c.in_ok-give_members.ensures.members
