use Rattle.std.proofs.Common.{◌≡◌}
use Rattle.std.proofs.lemmas.Result.{IfOk-weaker}
use Rattle.da_lang.specs.World.{Data}
use Rattle.da_values.specs.Value.{val_of}
use Rattle.query_plan.specs.Told.{told_value}
use Rattle.delta_rules.specs.Keeping.{Sees}
use Rattle.delta_rules.specs.Told.{asked, kept_rows}
use Rattle.delta_rules.proofs.SeenLaws.{value_seen}
use Rattle.delta_rules.proofs.answers.Answers.ask.Goals as goal

pub returns-in-Some : goal.returns-in-Some
returns-in-Some c =
    IfOk-weaker c.value_at.result
    (λ v. (e : Data) → e.me ≡ c.args.self.now.me → e.slots ≡ c.args.self.now.values
    → val_of v ≡ told_value e c.in-Some.query.now.shape (kept_rows c.args.self.now c.args.pool.now c.args.stored.now c.in-Some.query.now.node))
    (λ v. (d : Data) → Sees c.args.self.now c.args.pool.now c.args.stored.now c.args.plan.now.nodes d → val_of v ≡ asked d c.args.plan.now c.args.q)
    (λ v told d sees. value_seen c.args.self.now c.args.pool.now c.args.stored.now c.args.plan.now c.args.q c.in-Some.query.now c.in-Some.ensures d sees (val_of v) told)
    c.value_at.ensures
