use Rattle.std.proofs.Common.{◌∙◌, ap}
use Rattle.std.specs.Prelude.{sum}
use Rattle.da_system.proofs.CountLaws.{tally_few}
use Rattle.da_system.proofs.counts.Row.total.Goals as goal

pub returns-clause-value : goal.returns-clause-value
returns-clause-value c = c.self.invariant.total_is ∙ ap sum c.self.view_is

pub returns-clause-few : goal.returns-clause-few
returns-clause-few c = tally_few c.self.inside.counts c.self.inside.total c.self.invariant
