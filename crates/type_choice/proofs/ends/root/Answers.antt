use Rattle.std.proofs.Common.{sym, ◌∙◌}
use Rattle.type_choice.proofs.EndLaws.{end_step, next_inside}
use Rattle.type_choice.proofs.ends.root.Goals as goal

pub loop-i-preserved : goal.loop-i-preserved
loop-i-preserved c = (
  sym (end_step c.args.forms.now c.args.number c.loop-i._i c.loop-i.at c.in-Some.next _ c.loop-i-test.true c.form_at.ensures (sym c.link.ensures ∙ c.in-Some.is)) ∙ c.loop-i.invariant.0,
  next_inside c.args.forms.now c.loop-i.at c.in-Some.next _ c.requires.table c.form_at.ensures (sym c.link.ensures ∙ c.in-Some.is),
)
