use Rattle.std.proofs.Common.{ap, arith, length}
use Rattle.da_system.specs.Counted.{Counted}
use Rattle.da_system.proofs.counts.Counts.movers.Goals as goal

pub returns : goal.returns
returns c = omega (arith, c.len.ensures, ap (λ (counts : Counted). length counts.moves) c.self.view_is)
