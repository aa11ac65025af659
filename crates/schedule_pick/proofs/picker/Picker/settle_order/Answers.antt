use Rattle.std.proofs.Common.{refl}
use Rattle.schedule_pick.proofs.PickLemmas.{order_falls, order_stays}
use Rattle.schedule_pick.proofs.picker.Picker.settle_order.Goals as goal

pub returns-then-not-falls_here-clause-settled : goal.returns-then-not-falls_here-clause-settled
returns-then-not-falls_here-clause-settled c = order_stays c.args.self.now c.args.events.now _ c.falls_here.ensures c.if-not-falls_here.true

pub returns-clause-settled : goal.returns-clause-settled
returns-clause-settled c = order_falls c.args.self.now c.args.events.now _ c.falls_here.ensures _ c.fall.new.order refl c.if-not-falls_here.false c.in_ok-fall.ensures
