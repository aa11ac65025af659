use Rattle.da_meaning.proofs.PatternsAt.{patterns_step, scope_step}
use Rattle.da_meaning.proofs.patterns.+patterns.Goals as goal

pub patterns-loop-p-preserved : goal.patterns-loop-p-preserved
patterns-loop-p-preserved t c = record {
  found = patterns_step _ _ _ c.args.scope.now _ _ _ _ c.loop-p-test.true c.p-item.is c.loop-p.invariant.found c.loop-p.invariant.scope c.in_ok-pattern.ensures.pattern c.in_ok-push.ensures.ok;
  scope = scope_step _ _ _ c.args.scope.now _ _ c.loop-p-test.true c.p-item.is c.loop-p.invariant.scope c.in_ok-pattern.ensures.scope;
}
