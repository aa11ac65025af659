use Rattle.da_core.proofs.MessageForms.{values_end}
use Rattle.da_core.proofs.messages.+typed.Goals as goal

pub are_of-returns : goal.are_of-returns
are_of-returns t c = values_end c.args.types.now c.loop-value.rest.now c.args.values.now c.loop-value.value-index _ c.loop-value-test.false c.loop-value.invariant c.is_empty.ensures
