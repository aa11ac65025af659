use Rattle.std.proofs.Common.{◌∙◌, arith, refl, sym}
use Rattle.delta_rules.specs.Told.{stored_rows}
use Rattle.delta_rules.proofs.SeenLaws.{all_met, met_so_far, one_fails}
use Rattle.delta_rules.proofs.answers.Answers.are_met.Goals as goal

pub loop-one-init : goal.loop-one-init
loop-one-init c = λ pool. refl

pub returns-then-not-is_met : goal.returns-then-not-is_met
returns-then-not-is_met c = λ pool. one_fails (stored_rows c.args.self.now pool) c.args.tests.now c.loop-one.one-index _ c.loop-one-test.true (sym c.if-not-is_met.true ∙ c.is_met.ensures pool)

pub loop-one-preserved : goal.loop-one-preserved
loop-one-preserved c = λ pool.
    met_so_far (stored_rows c.args.self.now pool) c.args.tests.now c.loop-one.one-index _ c.loop-one-test.true (sym c.if-not-is_met.false ∙ c.is_met.ensures pool) (c.loop-one.invariant pool)

pub returns : goal.returns
returns c = λ pool. all_met (stored_rows c.args.self.now pool) c.args.tests.now c.loop-one.one-index (omega (arith, c.loop-one-test.false)) (c.loop-one.invariant pool)
