use Rattle.std.proofs.Common.{ap, sym, ◌∙◌}
use Rattle.query_plan.specs.Told.{has_row}
use Rattle.delta_rules.proofs.ReadingLaws.{one_told}
use Rattle.delta_rules.proofs.SeenLaws.{seen_told}
use Rattle.delta_rules.proofs.answers.Answers.flag.Goals as goal

pub returns-in-Some : goal.returns-in-Some
returns-in-Some c pool nodes d sees =
    one_told _ c.len.result (c.len.ensures pool) ∙ ap has_row (sym (c.in-Some.ensures pool)) ∙ ap has_row (seen_told c.args.self.now pool c.args.stored.now nodes d sees c.args.node)

pub returns-in-None : goal.returns-in-None
returns-in-None c pool nodes d sees =
    ap has_row (sym (c.in-None.ensures pool)) ∙ ap has_row (seen_told c.args.self.now pool c.args.stored.now nodes d sees c.args.node)
