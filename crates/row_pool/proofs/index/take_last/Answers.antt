use Rattle.row_pool.proofs.NumberLaws.{last_goes}
use Rattle.row_pool.proofs.index.take_last.Goals as goal

pub returns : goal.returns
returns c = last_goes c.args.index.now c.swap_remove.new.self c.args.mark c.requires c.swap_remove.ensures.updates
