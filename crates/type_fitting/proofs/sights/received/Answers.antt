use Rattle.std.proofs.Common.{◌≡◌, ◌+◌, ◌++◌, List, ℕ, drop, subst, ap, sym, arith}
use Rattle.type_fitting.specs.Sights.{receives, numbers_where}
use Rattle.type_fitting.proofs.LoopLaws.{next_comes, next_passes, where_ends}
use Rattle.type_fitting.proofs.sights.received.Goals as goal
use Rattle.type_fitting.proofs.sights.received.Goals.{then-is_received+in_ok-push, else-is_received}

pub loop-note-init : goal.loop-note-init
loop-note-init c = ap (λ z. z ++ numbers_where receives c.args.notes.now) c.new-numbers.ensures

pub loop-note-preserved : goal.loop-note-preserved
loop-note-preserved c =
    let next : List ℕ → Type 0 = λ numbers. numbers ++ numbers_where receives (drop (c.loop-note.note-index + 1) c.args.notes.now) ≡ numbers_where receives c.args.notes.now in
    elim c.if-is_received.branch [
      | then-is_received+in_ok-push w ↦ subst next (sym w.numbers-is) (next_comes receives c.args.notes.now c.loop-note.note-index _ c.loop-note-test.true c.loop-note.numbers c.loop-note.invariant _ (sym w.if-is_received.ensures) w.in_ok-push.ensures.ok)
      | else-is_received w ↦ subst next (sym w.numbers-is) (next_passes receives c.args.notes.now c.loop-note.note-index _ c.loop-note-test.true c.loop-note.numbers c.loop-note.invariant (sym w.if-is_received.ensures))
    ]

pub returns : goal.returns
returns c = where_ends receives c.args.notes.now c.loop-note.note-index c.loop-note.numbers (omega (arith, c.loop-note-test.false)) c.loop-note.invariant
