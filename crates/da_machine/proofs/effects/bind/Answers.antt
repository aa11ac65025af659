use Rattle.std.proofs.Common.{sym}
use Rattle.da_machine.proofs.Bindings.{may_put, binding_on, bound_values}
use Rattle.da_machine.proofs.effects.bind.Goals as goal

pub set_slot-requires : goal.set_slot-requires
set_slot-requires g c =
    may_put _ _ _ _ _ _ _ c.slots.invariant _ _ (sym c.in-Some.ensures.value) (rw c.in_ok-copy_value-in-Some-get.ensures (sym c.in-Some-get.ensures))

pub slots-preserved : goal.slots-preserved
slots-preserved g c =
    binding_on _ _ _ _ _ _ _ c.slots.invariant _ _ _ (sym c.in-Some.ensures.value) (rw c.in_ok-copy_value-in-Some-get.ensures (sym c.in-Some-get.ensures)) c.in_ok-set_slot-in-Some-get.ensures.stands _ c.in_ok-set_slot-in-Some-get.ensures.actions

pub returns-in-None-clause-stands : goal.returns-in-None-clause-stands
returns-in-None-clause-stands g c = bound_values _ _ _ _ _ _ _ c.slots.invariant (sym c.in-None.ensures)
