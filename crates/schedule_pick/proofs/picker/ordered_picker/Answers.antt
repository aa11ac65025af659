use Rattle.std.proofs.Common.{refl}
use Rattle.schedule_pick.proofs.PickLemmas.{ordered_is}
use Rattle.schedule_pick.proofs.picker.ordered_picker.Goals as goal

pub returns : goal.returns
returns c =
    ordered_is c.args.processes c.args.falls c.args.most c.args.number c.args.budget _ _ _ _ _ c.in_ok-all.ensures c.in_ok-shuffled.ensures.order c.in_ok-shuffled.ensures.last c.in_ok-chosen.ensures.places c.in_ok-chosen.ensures.last _ refl
