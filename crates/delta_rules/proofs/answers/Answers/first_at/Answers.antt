use Rattle.std.proofs.Common.{◌≡◌, ◌∙◌, ap, sym}
use Rattle.std.proofs.lemmas.Result.{IfOk-weaker}
use Rattle.da_lang.specs.Queries.{first}
use Rattle.answer_index.specs.Answers.{rows_of}
use Rattle.delta_rules.specs.Told.{kept_rows}
use Rattle.delta_rules.proofs.answers.Answers.first_at.Goals as goal

pub returns-in-Some : goal.returns-in-Some
returns-in-Some c =
    IfOk-weaker c.least_row.result (λ row. row ≡ first (rows_of c.in-Some.set.now c.args.pool.now)) (λ row. row ≡ first (kept_rows c.args.self.now c.args.pool.now c.args.stored.now c.args.node))
    (λ row read. read ∙ ap first (sym (c.in-Some.ensures c.args.pool.now))) c.least_row.ensures

pub returns-in-None : goal.returns-in-None
returns-in-None c = ap first (sym (c.in-None.ensures c.args.pool.now))
