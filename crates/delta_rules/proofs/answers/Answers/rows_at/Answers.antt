use Rattle.std.proofs.Common.{◌≡◌, ◌∙◌, sym}
use Rattle.std.proofs.lemmas.Result.{IfOk-weaker}
use Rattle.answer_index.specs.Answers.{rows_of}
use Rattle.delta_rules.specs.Told.{kept_rows}
use Rattle.delta_rules.proofs.answers.Answers.rows_at.Goals as goal

pub returns-in-Some : goal.returns-in-Some
returns-in-Some c =
    IfOk-weaker c.all_rows.result (λ rows. rows ≡ rows_of c.in-Some.set.now c.args.pool.now) (λ rows. rows ≡ kept_rows c.args.self.now c.args.pool.now c.args.stored.now c.args.node)
    (λ rows read. read ∙ sym (c.in-Some.ensures c.args.pool.now)) c.all_rows.ensures

pub returns-in-None : goal.returns-in-None
returns-in-None c = c.new.ensures ∙ sym (c.in-None.ensures c.args.pool.now)
