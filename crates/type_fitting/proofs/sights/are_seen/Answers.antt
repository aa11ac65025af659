use Rattle.std.proofs.Common.{refl, arith}
use Rattle.type_fitting.proofs.LoopLaws.{next_seen, next_fails, seen_ends}
use Rattle.type_fitting.proofs.sights.are_seen.Goals as goal

pub loop-note-init : goal.loop-note-init
loop-note-init c = λ forms are inside. refl

pub returns-then-not-is_right : goal.returns-then-not-is_right
returns-then-not-is_right c = next_fails c.args.looks.now c.args.notes.now c.loop-note.note-index _ c.loop-note-test.true c.loop-note.invariant c.is_right.result c.is_right.ensures c.if-not-is_right.true

pub loop-note-preserved : goal.loop-note-preserved
loop-note-preserved c = next_seen c.args.looks.now c.args.notes.now c.loop-note.note-index _ c.loop-note-test.true c.loop-note.invariant c.is_right.result c.is_right.ensures c.if-not-is_right.false

pub returns : goal.returns
returns c = seen_ends c.args.looks.now c.args.notes.now c.loop-note.note-index (omega (arith, c.loop-note-test.false)) c.loop-note.invariant
