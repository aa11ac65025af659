use Rattle.std.proofs.Common.{ap, sym}
use Rattle.std.specs.Prelude.{if◌then◌else◌, suc}
use Rattle.query_plan.proofs.storing.number_after.Goals as goal

pub returns-then-not-stays : goal.returns-then-not-stays
returns-then-not-stays c = ap (λ b. if b then suc c.args.number else c.args.number) (sym c.if-not-stays.true)
