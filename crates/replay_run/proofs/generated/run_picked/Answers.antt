use Rattle.std.proofs.Common.{refl, rules}
use Rattle.replay_run.proofs.CountLemmas.{room_first, room_on}
use Rattle.replay_run.proofs.StressLemmas.{came_first, came_on, comes_early, comes_last}
use Rattle.replay_run.proofs.generated.run_picked.Goals as goal

pub loop-events-init : goal.loop-events-init
loop-events-init c = record {
  ready = c.requires;
  program = refl;
  came = λ s stands. came_first _ s _ _ _ _ c.new-counts.ensures stands;
  room = room_first c.new-counts.result c.args.n c.new-counts.ensures (search rules);
}

pub returns-in_default-clause-ran : goal.returns-in_default-clause-ran
returns-in_default-clause-ran c = λ s stands.
    let came = c.loop-events.invariant.came s stands in
    comes_early _ _ _ _ _ _ _ _ came _ c.loop-events.invariant.program _ _ ((rw c.in_default.is at c.in_ok-next.ensures.next) came.now came.stands)

pub loop-events-preserved : goal.loop-events-preserved
loop-events-preserved c = record {
  ready = search rules;
  program = search rules;
  came = λ s stands.
      let came = c.loop-events.invariant.came s stands in
      came_on _ _ _ _ _ _ _ _ came _ c.loop-events.invariant.program _ _ _ c.loop-events-test.true ((rw c.in-Some.is at c.in_ok-next.ensures.next) came.now came.stands);
  room = room_on _ _ _ _ c.loop-events-test.true c.in_ok-next.ensures.room c.loop-events.invariant.room;
}

pub returns-clause-ran : goal.returns-clause-ran
returns-clause-ran c = λ s stands. comes_last _ _ _ _ _ _ _ _ (c.loop-events.invariant.came s stands) c.loop-events-test.false c.loop-events.auto.events-end
