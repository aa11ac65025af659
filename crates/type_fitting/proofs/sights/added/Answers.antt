use Rattle.std.proofs.Common.{◌≡◌, ◌+◌, ◌++◌, List, ℕ, drop, subst, ap, sym, arith}
use Rattle.type_fitting.specs.Sights.{adds, numbers_where}
use Rattle.type_fitting.proofs.LoopLaws.{next_comes, next_passes, where_ends}
use Rattle.type_fitting.proofs.sights.added.Goals as goal
use Rattle.type_fitting.proofs.sights.added.Goals.{then-is_added+in_ok-push, else-is_added}

pub loop-note-init : goal.loop-note-init
loop-note-init c = ap (λ z. z ++ numbers_where adds c.args.notes.now) c.new-numbers.ensures

pub loop-note-preserved : goal.loop-note-preserved
loop-note-preserved c =
    let next : List ℕ → Type 0 = λ numbers. numbers ++ numbers_where adds (drop (c.loop-note.note-index + 1) c.args.notes.now) ≡ numbers_where adds c.args.notes.now in
    elim c.if-is_added.branch [
      | then-is_added+in_ok-push w ↦ subst next (sym w.numbers-is) (next_comes adds c.args.notes.now c.loop-note.note-index _ c.loop-note-test.true c.loop-note.numbers c.loop-note.invariant _ (sym w.if-is_added.ensures) w.in_ok-push.ensures.ok)
      | else-is_added w ↦ subst next (sym w.numbers-is) (next_passes adds c.args.notes.now c.loop-note.note-index _ c.loop-note-test.true c.loop-note.numbers c.loop-note.invariant (sym w.if-is_added.ensures))
    ]

pub returns : goal.returns
returns c = where_ends adds c.args.notes.now c.loop-note.note-index c.loop-note.numbers (omega (arith, c.loop-note-test.false)) c.loop-note.invariant
