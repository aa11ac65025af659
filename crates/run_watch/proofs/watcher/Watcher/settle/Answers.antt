use Rattle.std.proofs.Common.{◌<◌, ◌≤◌, subst, sym}
use Rattle.da_lang.specs.Runs.{max_turns}
use Rattle.run_watch.proofs.MoveLemmas.{settles_first, settles_here, settles_last, settles_on, turns_are}
use Rattle.run_watch.proofs.watcher.Watcher.settle.Goals as goal

pub loop-turn-init : goal.loop-turn-init
loop-turn-init c = record { unworn = c.requires.unworn; so = λ program w come. settles_first program max_turns w _ _ come }

pub make_first_move-requires : goal.make_first_move-requires
make_first_move-requires c =
    let (program, w, come) = c.requires.there in
    record { there = (program, _, (c.loop-turn.invariant.so program w come).come); unworn = c.loop-turn.invariant.unworn }

pub returns-then-not-moved : goal.returns-then-not-moved
returns-then-not-moved c = λ program w come.
    let so = c.loop-turn.invariant.so program w come in
    settles_here _ _ _ _ _ _ _ so c.in_ok-moved.moved _ _ (c.in_ok-moved.ensures.moved program so.now so.come) c.if-not-moved.true

pub loop-turn-preserved : goal.loop-turn-preserved
loop-turn-preserved c = record {
  unworn = c.in_ok-moved.ensures.unworn;
  so = λ program w come.
      let so = c.loop-turn.invariant.so program w come in
      settles_on _ _ _ _ _ _ _ so c.in_ok-moved.moved _ _ (subst (λ n. c.loop-turn._turn < n) (sym turns_are) c.loop-turn-test.true) (c.in_ok-moved.ensures.moved program so.now so.come) c.if-not-moved.false;
}

pub wear_out-requires : goal.wear_out-requires
wear_out-requires c = c.loop-turn.invariant.unworn

pub returns : goal.returns
returns c = λ program w come.
    let so = c.loop-turn.invariant.so program w come in
    settles_last _ _ _ _ _ _ _ so _ _ (subst (λ n. n ≤ c.loop-turn._turn) (sym turns_are) c.loop-turn-test.false) (c.in_ok-wear_out.ensures program so.now so.come)
