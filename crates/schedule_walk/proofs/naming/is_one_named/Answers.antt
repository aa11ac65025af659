use Rattle.schedule_walk.proofs.NameLemmas.{is_first_named}
use Rattle.schedule_walk.proofs.naming.is_one_named.Goals as goal

pub returns : goal.returns
returns c = is_first_named _ c.args.n c.is_named.ensures
