use Rattle.std.proofs.Common.{◌<◌, ◌∙◌, ap, arith, length}
use Rattle.std.proofs.lemmas.List.{take_all}
use Rattle.answer_index.specs.Answers.{rows_of}
use Rattle.answer_index.specs.Rows.{row_of}
use Rattle.delta_rules.proofs.ReadingLaws.{read_none, read_one}
use Rattle.delta_rules.proofs.reading.counted_rows.Goals.{in-Some+in_ok-row_values+in_ok-push, in_default}
use Rattle.delta_rules.proofs.reading.counted_rows.Goals as goal

pub loop-i-preserved : goal.loop-i-preserved
loop-i-preserved g c =
    let all = rows_of c.args.set.now c.args.pool.now in
    let within : c.loop-i.i < length (rows_of c.args.set.now c.args.pool.now) = omega (arith, c.loop-i-test.true, c.len-i-end.ensures c.args.pool.now) in
    elim c.match-rows.branch [
      | in-Some+in_ok-row_values+in_ok-push w ↦ w.rows-is ∙ read_one all c.loop-i.i c.loop-i.rows w.push.new.self _ w.in_ok-row_values.field-0 (w.in-Some.ensures.row c.args.pool.now) (w.in_ok-row_values.ensures ∙ ap (row_of c.args.pool.now) w.as_slice.ensures) w.in_ok-push.ensures.ok c.loop-i.invariant
      | in_default w ↦ absurd (read_none all c.loop-i.i (w.in_default.ensures.row c.args.pool.now) within)
    ]

pub returns : goal.returns
returns g c =
    c.loop-i.invariant
    ∙ take_all c.loop-i.i (rows_of c.args.set.now c.args.pool.now) (omega (arith, c.len-i-end.ensures c.args.pool.now, c.loop-i-test.false))
