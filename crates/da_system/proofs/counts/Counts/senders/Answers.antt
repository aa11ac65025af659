use Rattle.std.proofs.Common.{ap, arith, length}
use Rattle.da_system.specs.Counted.{Counted}
use Rattle.da_system.proofs.counts.Counts.senders.Goals as goal

pub returns : goal.returns
returns c = omega (arith, c.len.ensures, c.self.inside.deliveries.ok.0, ap (λ (counts : Counted). length counts.deliveries) c.self.view_is)
