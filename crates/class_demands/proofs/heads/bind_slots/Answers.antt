use Rattle.da_typing.proofs.Walks.{nothing_left}
use Rattle.class_demands.proofs.WalkForms.{bind_short}
use Rattle.class_demands.proofs.heads.bind_slots.Goals as goal

pub returns-in-empty : goal.returns-in-empty
returns-in-empty c = bind_short _ c.loop-bind.rest.now _ _ (nothing_left c.loop-bind.rest.now c.in-empty.len_below) c.loop-bind.invariant
