use Rattle.std.proofs.Common.{refl}
use Rattle.schedule_pick.proofs.PickLemmas.{picked_none, picked_one}
use Rattle.schedule_pick.proofs.picker.one_of_all.Goals as goal

pub returns-then-count-eq0 : goal.returns-then-count-eq0
returns-then-count-eq0 c = picked_none c.args.events.now c.args.number _ refl c.if-count-eq0.true

pub returns : goal.returns
returns c = picked_one c.args.events.now c.args.number c.place_in-place.result _ _ refl c.place_in-place.ensures.place c.place_in-place.ensures.within
