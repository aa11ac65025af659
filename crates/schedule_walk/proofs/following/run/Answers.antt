use Rattle.std.proofs.Common.{refl, rules}
use Rattle.std.specs.Prelude.{None}
use Rattle.replay_run.proofs.RunLemmas.{came_first, came_on, ran_all}
use Rattle.schedule_walk.proofs.NextLemmas.{come_of}
use Rattle.schedule_walk.proofs.following.run.Goals as goal

pub loop-place-init : goal.loop-place-init
loop-place-init c = record { ready = c.requires; program = refl; came = λ s stands. came_first _ _ _ _ None stands }

pub loop-place-preserved : goal.loop-place-preserved
loop-place-preserved c = record {
  ready = search rules;
  program = search rules;
  came = λ s stands.
      let came = c.loop-place.invariant.came s stands in
      came_on _ _ _ _ _ _ _ came _ c.loop-place.invariant.program _ c.loop-place-test.true _ _ _ (c.in-Ok-true.ensures.tried came.now came.stands) c.in-Ok-true.field-0-test;
}

pub returns-clause-ran : goal.returns-clause-ran
returns-clause-ran c = λ ended s stands. come_of _ _ _ _ _ None None (ran_all _ _ _ _ _ _ _ (c.loop-place.invariant.came s stands) c.loop-place-test.false)
