use Rattle.da_core.proofs.LocalLaws.{count_is}
use Rattle.da_core.proofs.local.has_alternatives.Goals as goal

pub returns : goal.returns
returns c = λ is compiled w local. count_is compiled c.args.state.now c.args.count (c.has_count.ensures is) w local
