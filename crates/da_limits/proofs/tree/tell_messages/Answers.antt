use Rattle.std.proofs.Common.{◌∙◌, ap}
use Rattle.da_lang.specs.declared.refusal.LimitKind.TheVariants as limit
use Rattle.da_lang.specs.Limits.{parts_in_message}
use Rattle.da_limits.specs.LimitLines.{told_at}
use Rattle.da_limits.proofs.LimitLinesAt.{told_none_yet, told_step, told_end}
use Rattle.da_limits.proofs.LimitTreeAt.{message_lines-is}
use Rattle.da_limits.proofs.tree.tell_messages.Goals as goal

pub loop-message-init : goal.loop-message-init
loop-message-init c = told_none_yet limit.Parts _

pub loop-message-preserved : goal.loop-message-preserved
loop-message-preserved c = told_step limit.Parts parts_in_message _ _ c.message-item.result _ _ _ c.loop-message-test.true c.message-item.is c.loop-message.invariant c.tell_message.ensures

pub returns : goal.returns
returns c = told_end limit.Parts parts_in_message _ _ _ _ c.loop-message-test.false c.loop-message.invariant ∙ ap (told_at limit.Parts c.args.least.now) (message_lines-is c.args.messages.now)
