use Rattle.std.specs.Prelude.{refl}
use Rattle.std.proofs.Common.{sym}
use Rattle.da_values.specs.Value.{val_of}
use Rattle.answer_index.specs.Rows.{row_of}
use Rattle.delta_rules.proofs.ElementIds.{slots_exchanged, trades_exchanged}
use Rattle.delta_rules.proofs.SlotIds.{slot_there}
use Rattle.delta_rules.proofs.SlotLaws.{put_none, removed_swap}
use Rattle.delta_rules.proofs.slots.take_from.Goals as goal

pub returns-then-not-is_slot-clause-slots : goal.returns-then-not-is_slot-clause-slots
returns-then-not-is_slot-clause-slots c = sym (put_none _ _ _ (c.if-not-is_slot.ensures c.args.pool.now))

pub returns-clause-slots : goal.returns-clause-slots
returns-clause-slots c =
    slots_exchanged c.args.pool.now c.parted.new.pool c.args.slots.now.ids c.exchange.new.ids c.args.s c.in_ok-to.to.id c.exchange.result c.if-not-is_slot.ensures c.in_ok-to.ensures.trades _ c.requires.held c.in_ok-to.ensures.value
    (c.exchange.ensures.values c.parted.new.pool)

pub returns-clause-swap : goal.returns-clause-swap
returns-clause-swap c =
    removed_swap (row_of c.args.pool.now c.args.slots.now.ids) c.args.s (slot_there c.args.pool.now c.args.slots.now.ids c.args.s c.if-not-is_slot.ensures) _ refl (val_of c.args.v.now) c.in_ok-to.to.moved
    (row_of c.parted.new.pool c.exchange.new.ids) c.in_ok-to.ensures.ascends c.in_ok-to.ensures.there (returns-clause-slots c)

pub returns-clause-trades : goal.returns-clause-trades
returns-clause-trades c =
    trades_exchanged c.args.pool.now c.parted.new.pool c.args.slots.now.ids c.exchange.new.ids c.args.s c.in_ok-to.to.id c.exchange.result c.if-not-is_slot.ensures c.in_ok-to.ensures.trades c.exchange.ensures.same
    c.exchange.ensures.out
