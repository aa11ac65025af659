-- One action more is known.
use Rattle.std.proofs.Common.{◌-◌, ◌+◌, ◌≡◌, arith}
use Rattle.trace_join.proofs.RepeatLaws.{known_before}
use Rattle.trace_join.proofs.repeats.repeats.Goals as goal

pub loop-place-preserved : goal.loop-place-preserved
loop-place-preserved c = known_before c.args.trace.now c.loop-place.place
    (c.loop-place.place - 1) c.loop-place.repeats c.push.new.self c.loop-place.later c.note_key.new.keys c.index-trace-place.result c.is_got_again.result
    c.loop-place.invariant (let same : c.loop-place.place - 1 + 1 ≡ c.loop-place.place = omega
    (arith, c.loop-place-test.true) in same) c.index-trace-place.is c.is_got_again.ensures c.in_ok-push.ensures.ok c.in_ok-note_key.ensures.has
    c.in_ok-note_key.ensures.keeps
