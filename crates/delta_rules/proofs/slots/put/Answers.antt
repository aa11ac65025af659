use Rattle.da_values.specs.Value.{val_of}
use Rattle.delta_rules.proofs.SlotIds.{slots_put, slots_trade}
use Rattle.delta_rules.proofs.slots.put.Goals as goal

pub returns-clause-slots : goal.returns-clause-slots
returns-clause-slots c =
    slots_put c.args.pool.now c.intern.new.self c.args.slots.now.ids c.exchange-old.new.ids c.in_ok-id.id c.exchange-old.result c.requires.held c.in_ok-id.ensures.ok c.exchange-old.ensures.same
    c.give_back.new.self c.give_back.ensures c.args.s (val_of c.args.v.now) c.in_ok-id.ensures.value (c.exchange-old.ensures.values c.intern.new.self)

pub returns-clause-trades : goal.returns-clause-trades
returns-clause-trades c =
    slots_trade c.args.pool.now c.intern.new.self c.args.slots.now.ids c.exchange-old.new.ids c.in_ok-id.id c.exchange-old.result c.requires.held c.in_ok-id.ensures.ok c.exchange-old.ensures.same
    c.give_back.new.self c.give_back.ensures
