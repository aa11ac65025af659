use Rattle.std.proofs.Common.{ap, arith, length}
use Rattle.da_system.proofs.counts.Row.len.Goals as goal

pub returns : goal.returns
returns c = omega (arith, c.len.ensures, ap length c.self.view_is)
