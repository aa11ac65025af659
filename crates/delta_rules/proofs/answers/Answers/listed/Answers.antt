use Rattle.std.proofs.Common.{◌≡◌, map}
use Rattle.std.proofs.lemmas.Result.{IfOk-weaker}
use Rattle.da_values.specs.declared.val.Val.TheVariants as val
use Rattle.da_lang.specs.World.{Data}
use Rattle.query_plan.specs.Told.{told_shown}
use Rattle.delta_rules.specs.Keeping.{Sees}
use Rattle.delta_rules.specs.Told.{kept_rows, set_listed}
use Rattle.delta_rules.proofs.SeenLaws.{set_seen}
use Rattle.delta_rules.proofs.answers.Answers.listed.Goals as goal

pub returns-in-Some : goal.returns-in-Some
returns-in-Some c =
    IfOk-weaker c.set_at.result
    (λ set. (e : Data) → e.me ≡ c.args.self.now.me → e.slots ≡ c.args.self.now.values
    → set ≡ map val.Tuple (told_shown e c.in-Some.query.now.shape (kept_rows c.args.self.now c.args.pool.now c.args.stored.now c.in-Some.query.now.node)))
    (λ set. (d : Data) → Sees c.args.self.now c.args.pool.now c.args.stored.now c.args.plan.now.nodes d → set ≡ set_listed d c.args.plan.now c.args.q)
    (λ set told d sees. set_seen c.args.self.now c.args.pool.now c.args.stored.now c.args.plan.now c.args.q c.in-Some.query.now c.in-Some.ensures d sees set told)
    c.set_at.ensures
