use Rattle.std.proofs.Common.{◌≡◌}
use Rattle.std.proofs.lemmas.Result.{IfOk-weaker}
use Rattle.da_lang.specs.World.{Data}
use Rattle.query_plan.specs.Told.{told_least}
use Rattle.delta_rules.specs.Keeping.{Sees}
use Rattle.delta_rules.specs.Told.{kept_rows, least_found}
use Rattle.delta_rules.proofs.SeenLaws.{least_seen}
use Rattle.delta_rules.proofs.answers.Answers.found.Goals as goal

pub returns-in-Some : goal.returns-in-Some
returns-in-Some c =
    IfOk-weaker c.least_at.result
    (λ row. row ≡ told_least c.in-Some.query.now.shape (kept_rows c.args.self.now c.args.pool.now c.args.stored.now c.in-Some.query.now.node))
    (λ row. (d : Data) → Sees c.args.self.now c.args.pool.now c.args.stored.now c.args.plan.now.nodes d → row ≡ least_found d c.args.plan.now c.args.q)
    (λ row told d sees. least_seen c.args.self.now c.args.pool.now c.args.stored.now c.args.plan.now c.args.q c.in-Some.query.now c.in-Some.ensures d sees row told)
    c.least_at.ensures
