use Rattle.da_types.proofs.SlotLaws.{bind_short}
use Rattle.da_typing.proofs.Walks.{nothing_left}
use Rattle.da_types.proofs.flow.give_types.Goals as goal

pub returns-in-empty : goal.returns-in-empty
returns-in-empty c = bind_short _ c.loop-bind.rest.now _ _ (nothing_left c.loop-bind.rest.now c.in-empty.len_below) c.loop-bind.invariant
