use Rattle.std.proofs.Common.{◌≡◌, ◌∙◌, ap, sym, take}
use Rattle.std.proofs.lemmas.Result.{IfOk-weaker}
use Rattle.answer_index.specs.Answers.{rows_of}
use Rattle.delta_rules.specs.Told.{kept_rows}
use Rattle.delta_rules.proofs.answers.Answers.front_at.Goals as goal

pub returns-in-Some : goal.returns-in-Some
returns-in-Some c =
    IfOk-weaker c.front_row.result (λ rows. rows ≡ take 1 (rows_of c.in-Some.set.now c.args.pool.now)) (λ rows. rows ≡ take 1 (kept_rows c.args.self.now c.args.pool.now c.args.stored.now c.args.node))
    (λ rows read. read ∙ ap (take 1) (sym (c.in-Some.ensures c.args.pool.now))) c.front_row.ensures

pub returns-in-None : goal.returns-in-None
returns-in-None c = c.new.ensures ∙ ap (take 1) (sym (c.in-None.ensures c.args.pool.now))
