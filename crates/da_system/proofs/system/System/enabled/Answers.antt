use Rattle.std.proofs.Common.{◌∙◌, sym}
use Rattle.std.proofs.lemmas.Bool.{false≢true}
use Rattle.da_system.proofs.system.System.enabled.Goals as goal

pub returns-then-spent-clause-allowed : goal.returns-then-spent-clause-allowed
returns-then-spent-clause-allowed c = λ s stands. absurd (false≢true (sym stands.runs.unspent ∙ c.if-spent.true))

pub returns-clause-spent : goal.returns-clause-spent
returns-clause-spent c = λ is. absurd (false≢true (sym c.if-spent.false ∙ is))

pub returns-clause-allowed : goal.returns-clause-allowed
returns-clause-allowed c = λ s stands. c.may_step.ensures s stands.runs
