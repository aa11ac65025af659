use Rattle.std.proofs.Common.{◌+◌, refl, sym, subst, ◌∙◌}
use Rattle.type_table.proofs.TableLaws.{read_at}
use Rattle.type_choice.specs.Marks.{Filled}
use Rattle.type_choice.proofs.FillLaws.{filled_more, filled_past}
use Rattle.type_choice.proofs.filled.fill.Goals as goal
use Rattle.type_choice.proofs.filled.fill.Goals.{then-is_open_at, else-is_open_at}

pub loop-number-preserved : goal.loop-number-preserved
loop-number-preserved c =
    let at = read_at c.args.numbers.now c.loop-number.number-index _ 0 c.loop-number-test.true refl in
    elim c.if-is_open_at.branch [
      | then-is_open_at w ↦ subst (Filled c.args.forms.now c.args.numbers.now (c.loop-number.number-index + 1)) (sym (w.forms-is ∙ w.set.ensures)) (filled_more c.args.forms.now c.args.numbers.now c.loop-number.forms c.loop-number.number-index _ c.loop-number.invariant at (c.is_open_at.ensures.unset w.if-is_open_at.true))
      | else-is_open_at w ↦ subst (Filled c.args.forms.now c.args.numbers.now (c.loop-number.number-index + 1)) (sym w.forms-is) (filled_past c.args.forms.now c.args.numbers.now c.loop-number.forms c.loop-number.number-index _ c.loop-number.invariant at (c.is_open_at.ensures.told w.if-is_open_at.false))
    ]
