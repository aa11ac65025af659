use Rattle.std.proofs.Common.{◌∙◌}
use Rattle.run_watch.proofs.TellLemmas.{told_ends, told_first, told_on, told_stops}
use Rattle.run_watch.proofs.telling.tell_events.Goals as goal

pub loop-place-init : goal.loop-place-init
loop-place-init c = record { program = c.requires.program; told = λ s stands watch w come. told_first _ watch s w _ _ _ _ stands come }

pub tell_event-requires : goal.tell_event-requires
tell_event-requires c =
    let (s, stands) = c.requires.stands in
    let (watch, w, come) = c.requires.there in
    let so = c.loop-place.invariant.told s stands watch w come in
    record { ready = λ unspent. (_, so.stands); there = (watch, _, so.come) }

pub loop-place-preserved : goal.loop-place-preserved
loop-place-preserved c = record {
  program = c.tell_event.ensures.program ∙ c.loop-place.invariant.program;
  told = λ s stands watch w come.
      let so = c.loop-place.invariant.told s stands watch w come in
      told_on _ _ _ _ _ _ _ _ _ _ so _ c.loop-place.invariant.program _ c.loop-place-test.true c.in_ok-told.told _ _ _ (c.in_ok-told.ensures.told so.now so.stands watch so.at so.come) c.if-not-told.false;
}

pub returns-then-not-told : goal.returns-then-not-told
returns-then-not-told c = λ s stands watch w come.
    let so = c.loop-place.invariant.told s stands watch w come in
    told_stops _ _ _ _ _ _ _ _ _ _ so _ c.loop-place.invariant.program _ c.loop-place-test.true c.in_ok-told.told _ _ _ _ (c.in_ok-told.ensures.told so.now so.stands watch so.at so.come) c.if-not-told.true c.in_ok-put_actions.ensures

pub tell_end-requires : goal.tell_end-requires
tell_end-requires c =
    let (s, stands) = c.requires.stands in
    let (watch, w, come) = c.requires.there in
    let so = c.loop-place.invariant.told s stands watch w come in
    record { compiled = c.requires.compiled; program = c.loop-place.invariant.program; stands = (_, so.stands); there = (watch, _, so.come) }

pub returns : goal.returns
returns c = λ s stands watch w come.
    let so = c.loop-place.invariant.told s stands watch w come in
    told_ends _ _ _ _ _ _ _ _ _ _ so _ _ c.loop-place.invariant.program c.loop-place-test.false (c.in_ok-tell_end.ensures so.now so.stands watch so.at so.come)
