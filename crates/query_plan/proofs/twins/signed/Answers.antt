use Rattle.std.proofs.Common.{ap, sym, ◌∙◌}
use Rattle.std.specs.Prelude.{if◌then◌else◌, not}
use Rattle.query_plan.specs.Seen.{is_met}
use Rattle.query_plan.proofs.EntryLaws.{turned_met}
use Rattle.query_plan.proofs.twins.signed.Goals as goal

pub returns-then-filled-clause-met : goal.returns-then-filled-clause-met
returns-then-filled-clause-met c = λ rows. ap (λ b. if b then is_met rows c.args.test else not (is_met rows c.args.test)) (sym c.if-filled.true)

pub returns-else-filled-clause-met : goal.returns-else-filled-clause-met
returns-else-filled-clause-met c = λ rows. turned_met rows c.args.test ∙ ap (λ b. if b then is_met rows c.args.test else not (is_met rows c.args.test)) (sym c.if-filled.false)
