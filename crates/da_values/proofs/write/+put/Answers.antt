use Rattle.std.proofs.Common.{rules, arith, append_assoc, ◌∙◌}
use Rattle.da_values.proofs.TextLemmas.{value_text_of, closing-one, closing-other, wrote_first, wrote_next}
use Rattle.da_values.proofs.write.+put.Goals as goal
use Rattle.da_values.proofs.write.+put.Goals.{put_values-then-place-gt0+in_ok-append, put_values-else-place-gt0}

pub put_value-returns-in_ok-append-in-Text-2-clause-ok : goal.put_value-returns-in_ok-append-in-Text-2-clause-ok
put_value-returns-in_ok-append-in-Text-2-clause-ok t c = grind (arith, append_assoc, value_text_of c.args.v.now, c.in-Text.is, c.in_ok-append-in-Text.ensures.ok, c.in_ok-append-in-Text-2.ensures.ok, c.append-in-Text-3.ensures.ok)

pub put_value-returns-in_ok-append-in-Proc-clause-ok : goal.put_value-returns-in_ok-append-in-Proc-clause-ok
put_value-returns-in_ok-append-in-Proc-clause-ok t c = search (rules, append_assoc, value_text_of)

pub put_value-returns-then-len-eq1-clause-ok : goal.put_value-returns-then-len-eq1-clause-ok
put_value-returns-then-len-eq1-clause-ok t c = search (rules, append_assoc, value_text_of, closing-one)

pub put_value-returns-else-len-eq1-clause-ok : goal.put_value-returns-else-len-eq1-clause-ok
put_value-returns-else-len-eq1-clause-ok t c = search (rules, append_assoc, value_text_of, closing-other)

pub put_value-returns-in_ok-put_values-in-Set-clause-ok : goal.put_value-returns-in_ok-put_values-in-Set-clause-ok
put_value-returns-in_ok-put_values-in-Set-clause-ok t c = search (rules, append_assoc, value_text_of)

pub put_values-loop-place-preserved : goal.put_values-loop-place-preserved
put_values-loop-place-preserved t c =
    elim c.if-place-gt0.branch [
      | put_values-then-place-gt0+in_ok-append w ↦ wrote_next _ _ _ _ _ _ _ c.index-values-place.is c.loop-place-test.true w.if-place-gt0.true c.loop-place.invariant (w.out-is ∙ w.in_ok-append.ensures.ok) c.in_ok-put_value.ensures.ok
      | put_values-else-place-gt0 w ↦ wrote_first _ _ _ _ _ _ _ c.index-values-place.is c.loop-place-test.true (omega (arith, w.if-place-gt0.false)) c.loop-place.invariant w.out-is c.in_ok-put_value.ensures.ok
    ]
