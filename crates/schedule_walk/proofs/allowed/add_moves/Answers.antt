use Rattle.std.proofs.Common.{◌∙◌, ◌≤◌, subst, sym}
use Rattle.da_system.specs.Choices.{choices}
use Rattle.da_system.specs.State.{program_of}
use Rattle.schedule_walk.proofs.AllowedLemmas.{fronts_on, moves_end, moves_over}
use Rattle.schedule_walk.proofs.allowed.add_moves.Goals as goal

pub returns-then-not-is_move : goal.returns-then-not-is_move
returns-then-not-is_move c = λ s stands.
    moves_end (program_of c.args.system.now) s c.loop-place.place c.args.out.now c.loop-place.out (c.loop-place.invariant s stands) c.choice-event.result (c.choice-event.ensures.event s stands) (sym c.is_move.ensures ∙ c.if-not-is_move.true)

pub loop-place-preserved : goal.loop-place-preserved
loop-place-preserved c = λ s stands.
    fronts_on (choices (program_of c.args.system.now) s) c.loop-place.place c.args.out.now c.loop-place.out (c.loop-place.invariant s stands) c.choice-event.result c.push.new.self (c.choice-event.ensures.event s stands)
    (sym c.is_move.ensures ∙ c.if-not-is_move.false) c.in_ok-push.ensures.ok

pub returns : goal.returns
returns c = λ s stands.
    moves_over (program_of c.args.system.now) s c.loop-place.place c.args.out.now c.loop-place.out (c.loop-place.invariant s stands) (subst (λ n. n ≤ c.loop-place.place) (c.choices-place-end.ensures.number s stands) c.loop-place-test.false)
