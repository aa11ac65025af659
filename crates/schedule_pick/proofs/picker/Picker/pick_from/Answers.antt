use Rattle.std.proofs.Common.{refl, sym, ◌∙◌}
use Rattle.schedule_pick.proofs.PickLemmas.{none_some, picked_after, picks}
use Rattle.schedule_pick.proofs.picker.Picker.pick_from.Goals as goal

pub returns-in_default-clause-picked : goal.returns-in_default-clause-picked
returns-in_default-clause-picked c =
    sym c.in_default.is ∙ picks c.args.self.now c.settle_order.new.self c.args.events.now c.in_ok-settle_order.ensures.settled c.next_number-number.result c.next_number-number.ensures _ _ c.as_slice.ensures c.in_ok-found.ensures

pub returns-in_default-clause-after : goal.returns-in_default-clause-after
returns-in_default-clause-after c = λ e is. absurd (none_some e is)

pub returns-clause-picked : goal.returns-clause-picked
returns-clause-picked c =
    sym c.in-Some.is ∙ picks c.args.self.now c.settle_order.new.self c.args.events.now c.in_ok-settle_order.ensures.settled c.next_number-number.result c.next_number-number.ensures _ _ c.as_slice.ensures c.in_ok-found.ensures

pub returns-clause-after : goal.returns-clause-after
returns-clause-after c = λ e is.
    picked_after c.args.self.now c.settle_order.new.self c.args.events.now c.in_ok-settle_order.ensures.settled c.next_number-number.result c.next_number-number.ensures e c.in-Some.event c.after-self.result _ _ refl c.after-self.ensures c.in-Some.is (c.in-Some.is ∙ is)
