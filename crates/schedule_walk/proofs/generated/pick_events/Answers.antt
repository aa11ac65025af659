use Rattle.std.proofs.Common.{◌+◌, refl, rules, subst, sym}
use Rattle.schedule_walk.proofs.WalkLemmas.{CameBy, came_first, came_on, comes_early, comes_last}
use Rattle.schedule_walk.proofs.generated.pick_events.Goals as goal

pub loop-turn-init : goal.loop-turn-init
loop-turn-init c = record { ready = c.requires.ready; program = refl; came = λ s stands. subst (CameBy _ s _ _ 0 _ _) (sym c.new-events.ensures) (came_first _ s _ _ _ stands) }

pub returns-in_default-clause-events : goal.returns-in_default-clause-events
returns-in_default-clause-events c = λ s stands.
    let came = c.loop-turn.invariant.came s stands in
    comes_early _ _ _ _ _ _ _ _ came _ c.loop-turn.invariant.program _ ((rw c.in_default.is at c.in_ok-next.ensures.next) came.now came.stands)

pub loop-turn-preserved : goal.loop-turn-preserved
loop-turn-preserved c = record {
  ready = search rules;
  program = search rules;
  came = λ s stands.
      let came = c.loop-turn.invariant.came s stands in
      subst (CameBy _ s _ _ (c.loop-turn._turn + 1) _ c.in-Some.pick.number) (sym c.in_ok-push.ensures.ok)
      (came_on _ _ _ _ _ _ _ _ came _ c.loop-turn.invariant.program _ _ c.loop-turn-test.true ((rw c.in-Some.is at c.in_ok-next.ensures.next) came.now came.stands));
}

pub returns-clause-events : goal.returns-clause-events
returns-clause-events c = λ s stands. comes_last _ _ _ _ _ _ _ _ (c.loop-turn.invariant.came s stands) c.loop-turn-test.false
