use Rattle.std.proofs.Common.{◌∙◌, ◌<◌, ◌≤◌, subst}
use Rattle.da_core.specs.StandsFor.{program_of}
use Rattle.da_system.proofs.ChoiceLemmas.{alternatives_are}
use Rattle.run_watch.proofs.MoveLemmas.{goes_first, left_first, left_here, left_none, left_on}
use Rattle.run_watch.proofs.watcher.first_move.Goals as goal

pub returns-then-goes : goal.returns-then-goes
returns-then-goes c = λ w stands. goes_first (program_of c.args.core.now) w _ (c.can_move-goes.ensures.allowed w stands) c.if-goes.true

pub loop-turn-init : goal.loop-turn-init
loop-turn-init c = λ w stands. left_first (program_of c.args.core.now) w _ (c.can_move-goes.ensures.allowed w stands) c.if-goes.false

pub returns-then-takes : goal.returns-then-takes
returns-then-takes c = λ w stands.
    left_here (program_of c.args.core.now) w _ (c.loop-turn.invariant w stands) _
    (subst (λ n. c.loop-turn.turn < n) (c.alternatives-count.ensures ∙ alternatives_are w.todo c.place.result w.phase (c.place.ensures.place w stands)) c.loop-turn-test.true) (c.can_move-takes.ensures.allowed w stands) c.if-takes.true

pub loop-turn-preserved : goal.loop-turn-preserved
loop-turn-preserved c = λ w stands.
    left_on (program_of c.args.core.now) w _ (c.loop-turn.invariant w stands) _
    (subst (λ n. c.loop-turn.turn < n) (c.alternatives-count.ensures ∙ alternatives_are w.todo c.place.result w.phase (c.place.ensures.place w stands)) c.loop-turn-test.true) (c.can_move-takes.ensures.allowed w stands) c.if-takes.false

pub returns : goal.returns
returns c = λ w stands.
    left_none (program_of c.args.core.now) w _ (c.loop-turn.invariant w stands) (subst (λ n. n ≤ c.loop-turn.turn) (c.alternatives-count.ensures ∙ alternatives_are w.todo c.place.result w.phase (c.place.ensures.place w stands)) c.loop-turn-test.false)
