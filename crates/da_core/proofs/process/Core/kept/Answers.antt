use Rattle.da_core.proofs.Moving.{keeps_rows}
use Rattle.da_core.proofs.process.Core.kept.Goals as goal

pub returns : goal.returns
returns c = λ w s. keeps_rows c.args.self.now w s c.kept.result c.kept.ensures
