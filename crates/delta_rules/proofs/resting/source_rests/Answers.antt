use Rattle.std.proofs.Common.{ap, sym, ◌∙◌}
use Rattle.delta_rules.specs.Resting.{source_rests}
use Rattle.delta_rules.proofs.resting.source_rests.Goals as goal

pub returns-in-Received : goal.returns-in-Received
returns-in-Received c = c.rests.ensures ∙ sym (ap (source_rests c.args.passing.now c.args.rule.now) c.in-Received.is)

pub returns-in-Sent : goal.returns-in-Sent
returns-in-Sent c = c.rests-in-Sent.ensures ∙ sym (ap (source_rests c.args.passing.now c.args.rule.now) c.in-Sent.is)

pub returns-in-Slot : goal.returns-in-Slot
returns-in-Slot c = c.stands_still.ensures ∙ sym (ap (source_rests c.args.passing.now c.args.rule.now) c.in-Slot.is)
