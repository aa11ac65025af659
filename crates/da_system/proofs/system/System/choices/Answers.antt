use Rattle.std.proofs.Common.{◌∙◌, sym}
use Rattle.std.proofs.lemmas.Bool.{false≢true}
use Rattle.da_system.proofs.system.System.choices.Goals as goal

pub returns-then-spent-clause-number : goal.returns-then-spent-clause-number
returns-then-spent-clause-number c = λ s stands. absurd (false≢true (sym stands.runs.unspent ∙ c.if-spent.true))
