use Rattle.std.proofs.Common.{◌∙◌, ap, sym}
use Rattle.da_lang.specs.declared.refusal.LimitKind.TheVariants as limit
use Rattle.da_limits.proofs.LimitTreeAt.{line_of_class}
use Rattle.da_limits.specs.LimitLines.{told_at}
use Rattle.da_limits.proofs.LimitLinesAt.{told_none_yet, told-one, told_step, told_end}
use Rattle.da_limits.proofs.LimitTreeAt.{class_lines}
use Rattle.da_limits.proofs.tree.tell_lines.Goals as goal

pub loop-class-init : goal.loop-class-init
loop-class-init c = told_none_yet limit.Classes _

pub loop-class-preserved : goal.loop-class-preserved
loop-class-preserved c = told_step limit.Classes line_of_class _ _ c.class-item.result _ _ _ c.loop-class-test.true c.class-item.is c.loop-class.invariant (c.tell.ensures ∙ sym (told-one limit.Classes c.loop-class.least _))

pub returns : goal.returns
returns c = told_end limit.Classes line_of_class _ _ _ _ c.loop-class-test.false c.loop-class.invariant ∙ ap (told_at limit.Classes c.args.least.now) (class_lines c.args.classes.now)
