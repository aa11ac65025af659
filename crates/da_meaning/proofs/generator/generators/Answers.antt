use Rattle.da_meaning.proofs.GensAt.{gens_step, behind_step}
use Rattle.da_meaning.proofs.generator.generators.Goals as goal

pub loop-g-preserved : goal.loop-g-preserved
loop-g-preserved c = record {
  found = gens_step _ _ _ c.args.scope.now _ _ _ _ c.loop-g-test.true c.g-item.is c.loop-g.invariant.found c.loop-g.invariant.scope c.in_ok-generator.ensures.gen_ c.in_ok-push.ensures.ok;
  scope = behind_step _ _ _ c.args.scope.now _ _ c.loop-g-test.true c.g-item.is c.loop-g.invariant.scope c.in_ok-generator.ensures.scope;
}
