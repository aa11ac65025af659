use Rattle.std.proofs.Common.{◌∙◌, ap}
use Rattle.da_lang.specs.declared.refusal.LimitKind.TheVariants as limit
use Rattle.da_lang.specs.Limits.{parts_in_main}
use Rattle.da_limits.specs.LimitLines.{told_at}
use Rattle.da_limits.proofs.LimitLinesAt.{told_none_yet, told_step, told_end}
use Rattle.da_limits.proofs.LimitTreeAt.{main_lines-is}
use Rattle.da_limits.proofs.tree.tell_main.Goals as goal

pub loop-line-init : goal.loop-line-init
loop-line-init c = told_none_yet limit.Parts _

pub loop-line-preserved : goal.loop-line-preserved
loop-line-preserved c = told_step limit.Parts parts_in_main _ _ c.line-item.result _ _ _ c.loop-line-test.true c.line-item.is c.loop-line.invariant c.tell_line.ensures

pub returns : goal.returns
returns c = told_end limit.Parts parts_in_main _ _ _ _ c.loop-line-test.false c.loop-line.invariant ∙ ap (told_at limit.Parts c.args.least.now) (main_lines-is c.args.main.now)
