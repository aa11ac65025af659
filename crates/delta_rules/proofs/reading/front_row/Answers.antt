use Rattle.std.proofs.Common.{◌∙◌, ap}
use Rattle.answer_index.specs.Answers.{rows_of}
use Rattle.answer_index.specs.Rows.{row_of}
use Rattle.delta_rules.proofs.ReadingLaws.{no_prefix, read_one}
use Rattle.delta_rules.proofs.reading.front_row.Goals.{in-Some+in_ok-row_values+in_ok-push, in_default}
use Rattle.delta_rules.proofs.reading.front_row.Goals as goal

pub returns : goal.returns
returns c =
    let all = rows_of c.args.set.now c.args.pool.now in
    elim c.match-least.branch [
      | in-Some+in_ok-row_values+in_ok-push w ↦ w.rows-is
          ∙ read_one all 0 c.new-rows.result w.push.new.self _ w.in_ok-row_values.field-0 (w.in-Some.ensures.row c.args.pool.now) (w.in_ok-row_values.ensures ∙ ap (row_of c.args.pool.now) w.as_slice.ensures)
          w.in_ok-push.ensures.ok c.new-rows.ensures
      | in_default w ↦ w.rows-is ∙ c.new-rows.ensures ∙ no_prefix all (w.in_default.ensures.row c.args.pool.now)
    ]
