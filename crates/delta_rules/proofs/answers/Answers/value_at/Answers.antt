use Rattle.std.proofs.Common.{◌∙◌, sym}
use Rattle.delta_rules.proofs.ReadingLaws.{value_told}
use Rattle.delta_rules.proofs.answers.Answers.value_at.Goals as goal

pub returns : goal.returns
returns c d me slots =
    value_told c.locals-locals.result d c.args.query.now.shape _ c.in_ok-rows.rows c.as_slice.result.now _ c.in_ok-v.ensures c.as_slice.ensures (c.in_ok-rows.ensures d) (me ∙ sym c.locals-locals.ensures.me) (slots ∙ sym c.locals-locals.ensures.slots)
