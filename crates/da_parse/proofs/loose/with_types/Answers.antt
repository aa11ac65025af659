use Rattle.da_parse.proofs.OpenParams.{tree_given}
use Rattle.da_parse.proofs.loose.with_types.Goals as goal

pub returns : goal.returns
returns c = tree_given c.args.tree _ _ _ c.new-untyped.ensures c.in_ok-give_classes.ensures.classes c.in_ok-give_classes.ensures.noted
