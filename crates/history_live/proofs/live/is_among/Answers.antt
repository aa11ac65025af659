use Rattle.std.proofs.Common.{◌∙◌, refl, subst, sym}
use Rattle.std.proofs.lemmas.Bool.{false≢true}
use Rattle.da_values.specs.Sets.{Has}
use Rattle.history_live.proofs.FrontsAt.{has_here, not_more}
use Rattle.history_live.proofs.live.is_among.Goals as goal

pub returns-then-same_live : goal.returns-then-same_live
returns-then-same_live c = (
  (λ e. subst (Has c.args.patterns.now) (sym (c.same_live.ensures.equal.0 c.if-same_live.true)) (has_here c.args.patterns.now c.loop-pattern.pattern-index c.pattern-item.result c.loop-pattern-test.true c.pattern-item.is)),
  (λ h. refl),
)

pub loop-pattern-preserved : goal.loop-pattern-preserved
loop-pattern-preserved c =
    not_more c.args.patterns.now c.loop-pattern.pattern-index c.pattern-item.result c.args.live.now c.loop-pattern-test.true c.pattern-item.is
    (λ e. false≢true (sym c.if-same_live.false ∙ c.same_live.ensures.equal.1 e)) c.loop-pattern.invariant
