use Rattle.da_core.proofs.Moving.{holds_cells}
use Rattle.da_core.proofs.process.Core.held.Goals as goal

pub returns : goal.returns
returns c = λ w s. holds_cells c.args.self.now w s c.live.result c.live.ensures.in_use c.live.ensures.counted c.live.ensures.held
