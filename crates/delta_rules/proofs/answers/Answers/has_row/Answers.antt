use Rattle.std.proofs.Common.{ap, sym, ◌∙◌}
use Rattle.query_plan.specs.Told.{has_row}
use Rattle.delta_rules.proofs.ReadingLaws.{one_told}
use Rattle.delta_rules.proofs.answers.Answers.has_row.Goals as goal

pub returns-in-Some : goal.returns-in-Some
returns-in-Some c pool = one_told _ c.len.result (c.len.ensures pool) ∙ ap has_row (sym (c.in-Some.ensures pool))

pub returns-in-None : goal.returns-in-None
returns-in-None c pool = ap has_row (sym (c.in-None.ensures pool))
