use Rattle.std.proofs.Common.{ap, sym, ◌∙◌}
use Rattle.da_values.specs.Value.{val_of}
use Rattle.da_values.specs.Views.{elements_of}
use Rattle.da_lang.specs.World.{or_nothing}
use Rattle.delta_rules.proofs.SlotIds.{slot_there}
use Rattle.delta_rules.proofs.SlotLaws.{assigned_swap, put_none}
use Rattle.delta_rules.proofs.slots.assign.Goals as goal

pub returns-then-not-is_slot-clause-slots : goal.returns-then-not-is_slot-clause-slots
returns-then-not-is_slot-clause-slots c = sym (put_none _ _ _ (c.if-not-is_slot.ensures c.args.pool.now))

pub returns-clause-swap : goal.returns-clause-swap
returns-clause-swap c =
    assigned_swap _ _ (slot_there c.args.pool.now c.args.slots.now.ids c.args.s c.if-not-is_slot.ensures) (val_of c.args.v.now) _ _ _ _ _ c.in_ok-put.ensures.slots
    (c.set_of-old.ensures ∙ ap (λ o. elements_of (or_nothing o)) c.in_ok-found.ensures)
    (c.set_in-new.ensures ∙ ap (λ w. elements_of (val_of w)) c.in_ok-copy_value.ensures) c.in_ok-moved.ensures.came c.in_ok-moved.ensures.left
