use Rattle.std.proofs.Common.{◌≡◌, ap, take}
use Rattle.std.proofs.lemmas.Result.{IfOk-weaker}
use Rattle.da_lang.specs.World.{Data}
use Rattle.query_plan.specs.Told.{told_value}
use Rattle.delta_rules.specs.Told.{kept_rows}
use Rattle.delta_rules.proofs.SeenLaws.{each_by_first, one_by_first, some_by_first}
use Rattle.delta_rules.proofs.answers.Answers.rows_for.Goals as goal

pub returns-in-Exists : goal.returns-in-Exists
returns-in-Exists c =
    IfOk-weaker c.front_at.result (λ rows. rows ≡ take 1 (kept_rows c.args.self.now c.args.pool.now c.args.stored.now c.args.query.now.node))
    (λ rows. (d : Data) → told_value d c.args.query.now.shape rows ≡ told_value d c.args.query.now.shape (kept_rows c.args.self.now c.args.pool.now c.args.stored.now c.args.query.now.node))
    (λ rows is. some_by_first c.args.query.now.shape (kept_rows c.args.self.now c.args.pool.now c.args.stored.now c.args.query.now.node) rows c.in-Exists.is is) c.front_at.ensures

pub returns-in-Each : goal.returns-in-Each
returns-in-Each c =
    IfOk-weaker c.front_at-in-Each.result (λ rows. rows ≡ take 1 (kept_rows c.args.self.now c.args.pool.now c.args.stored.now c.args.query.now.node))
    (λ rows. (d : Data) → told_value d c.args.query.now.shape rows ≡ told_value d c.args.query.now.shape (kept_rows c.args.self.now c.args.pool.now c.args.stored.now c.args.query.now.node))
    (λ rows is. each_by_first c.args.query.now.shape (kept_rows c.args.self.now c.args.pool.now c.args.stored.now c.args.query.now.node) rows c.in-Each.is is) c.front_at-in-Each.ensures

pub returns-in-Comp : goal.returns-in-Comp
returns-in-Comp c =
    IfOk-weaker c.rows_at.result (λ rows. rows ≡ kept_rows c.args.self.now c.args.pool.now c.args.stored.now c.args.query.now.node)
    (λ rows. (d : Data) → told_value d c.args.query.now.shape rows ≡ told_value d c.args.query.now.shape (kept_rows c.args.self.now c.args.pool.now c.args.stored.now c.args.query.now.node))
    (λ rows is d. ap (told_value d c.args.query.now.shape) is) c.rows_at.ensures

pub returns-in-Agg : goal.returns-in-Agg
returns-in-Agg c =
    IfOk-weaker c.front_at-in-Agg.result (λ rows. rows ≡ take 1 (kept_rows c.args.self.now c.args.pool.now c.args.stored.now c.args.query.now.node))
    (λ rows. (d : Data) → told_value d c.args.query.now.shape rows ≡ told_value d c.args.query.now.shape (kept_rows c.args.self.now c.args.pool.now c.args.stored.now c.args.query.now.node))
    (λ rows is. one_by_first c.args.query.now.shape (kept_rows c.args.self.now c.args.pool.now c.args.stored.now c.args.query.now.node) rows c.in-Agg.is is) c.front_at-in-Agg.ensures
