use Rattle.std.proofs.Common.{◌≡◌, refl, rules, subst, sym}
use Rattle.da_outside.specs.Outside.{Appends, AppendsPrefix, HasCause}
use Rattle.da_outside.proofs.OutsideLemmas.{no_cause}
use Rattle.replay_run.specs.declared.outcome.Outcome.TheVariants.{Memory, WriteFault}
use Rattle.replay_run.proofs.RunLemmas.{stops_exactly}
use Rattle.replay_run.proofs.WaitLemmas.{come_first, come_on, none_written, passed_on, ran_whole, some_written, stop_begun, stop_written}
use Rattle.replay_run.proofs.run.replay.Goals as goal

pub loop-place-init : goal.loop-place-init
loop-place-init g c = record { ready = c.requires.ready; program = refl; come = λ s stands. come_first _ _ _ _ _ _ c.new-text.ensures stands; faults = refl }

pub loop-place-preserved : goal.loop-place-preserved
loop-place-preserved g c = record {
  ready = search rules;
  program = search rules;
  come = λ s stands.
      let come = c.loop-place.invariant.come s stands in
      passed_on _ _ _ _ _ _ _ _
      (come_on _ _ _ _ _ _ _ _ come _ c.loop-place.invariant.program _ c.loop-place-test.true _ _ _ (c.in-Ok-true.ensures.tried come.came.now come.came.stands) c.in-Ok-true.field-0-test)
      _ _ c.in-Ok.ensures.waits;
  faults = search rules;
}

pub returns-in-Ok-false-clause-ran : goal.returns-in-Ok-false-clause-ran
returns-in-Ok-false-clause-ran g c = λ ended s stands.
    let come = c.loop-place.invariant.come s stands in
    stop_written _ _ _ _ _ _ _ _ come _ c.loop-place.invariant.program _ c.loop-place-test.true _ _ _ (c.in-Ok-false.ensures.tried come.came.now come.came.stands) c.in-Ok-false.field-0-test
    _ (c.stop_at.ensures.stopped ended).0 _ (c.stop_at.ensures.stopped ended).1

pub returns-in-Ok-false-clause-prefix : goal.returns-in-Ok-false-clause-prefix
returns-in-Ok-false-clause-prefix g c = λ s stands.
    let come = c.loop-place.invariant.come s stands in
    stop_begun _ _ _ _ _ _ _ _ come _ c.loop-place.invariant.program _ c.loop-place-test.true _ _ _ (c.in-Ok-false.ensures.tried come.came.now come.came.stands) c.in-Ok-false.field-0-test
    _ c.stop_at.ensures.prefix

-- WHAT WAITS IS NOT WRITTEN

pub returns-in-Err-clause-prefix : goal.returns-in-Err-clause-prefix
returns-in-Err-clause-prefix g c = λ s stands. none_written _ _ _ _ _ _ _ _ (c.loop-place.invariant.come s stands)

pub returns-in-Err-clause-write : goal.returns-in-Err-clause-write
returns-in-Err-clause-write g c =
    subst (λ n. HasCause (g.K.Sink.faults c.args.sink.now) n (Memory ≡ WriteFault)) (sym c.loop-place.invariant.faults)
    (no_cause (g.K.Sink.faults c.args.sink.now) (λ e. let clash : Memory ≡ WriteFault = e in cc))

pub returns-in-Err-Failed-clause-prefix : goal.returns-in-Err-Failed-clause-prefix
returns-in-Err-Failed-clause-prefix g c = λ s stands.
    let come = c.loop-place.invariant.come s stands in
    some_written _ _ _ _ _ _ _ _
    (come_on _ _ _ _ _ _ _ _ come _ c.loop-place.invariant.program _ c.loop-place-test.true _ _ _ (c.in-Ok-true.ensures.tried come.came.now come.came.stands) c.in-Ok-true.field-0-test)
    _ c.in-Err-Failed.ensures.prefix

pub returns-in-Err-Memory-clause-prefix : goal.returns-in-Err-Memory-clause-prefix
returns-in-Err-Memory-clause-prefix g c = λ s stands.
    let come = c.loop-place.invariant.come s stands in
    some_written _ _ _ _ _ _ _ _
    (come_on _ _ _ _ _ _ _ _ come _ c.loop-place.invariant.program _ c.loop-place-test.true _ _ _ (c.in-Ok-true.ensures.tried come.came.now come.came.stands) c.in-Ok-true.field-0-test)
    _ c.in-Err-Memory.ensures.prefix

-- THE END

pub returns-clause-ran : goal.returns-clause-ran
returns-clause-ran g c = λ ended s stands.
    ran_whole _ _ _ _ _ _ _ _ (c.loop-place.invariant.come s stands) _ (c.finish.ensures.done ended).0 c.loop-place-test.false _
    (subst (λ z. Appends (g.K.Sink.taken c.loop-place.sink) (g.K.Sink.taken c.finish.new.sink) z) c.as_slice.ensures (c.finish.ensures.done ended).1)

pub returns-clause-prefix : goal.returns-clause-prefix
returns-clause-prefix g c = λ s stands.
    some_written _ _ _ _ _ _ _ _ (c.loop-place.invariant.come s stands) _
    (subst (λ z. AppendsPrefix (g.K.Sink.taken c.loop-place.sink) (g.K.Sink.taken c.finish.new.sink) z) c.as_slice.ensures c.finish.ensures.prefix)

-- WHERE IT STOPS

pub returns-in-Ok-false-clause-stops : goal.returns-in-Ok-false-clause-stops
returns-in-Ok-false-clause-stops g c = λ ended s stands.
    let come = c.loop-place.invariant.come s stands in
    stops_exactly _ _ _ _ _ _ _
    (stop_written _ _ _ _ _ _ _ _ come _ c.loop-place.invariant.program _ c.loop-place-test.true _ _ _ (c.in-Ok-false.ensures.tried come.came.now come.came.stands) c.in-Ok-false.field-0-test
    _ (c.stop_at.ensures.stopped ended).0 _ (c.stop_at.ensures.stopped ended).1)

pub returns-clause-stops : goal.returns-clause-stops
returns-clause-stops g c = λ ended s stands.
    stops_exactly _ _ _ _ _ _ _
    (ran_whole _ _ _ _ _ _ _ _ (c.loop-place.invariant.come s stands) _ (c.finish.ensures.done ended).0 c.loop-place-test.false _
    (subst (λ z. Appends (g.K.Sink.taken c.loop-place.sink) (g.K.Sink.taken c.finish.new.sink) z) c.as_slice.ensures (c.finish.ensures.done ended).1))
