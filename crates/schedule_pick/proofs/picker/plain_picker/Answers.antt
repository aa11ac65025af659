use Rattle.std.proofs.Common.{refl}
use Rattle.schedule_pick.proofs.PickLemmas.{plain_is}
use Rattle.schedule_pick.proofs.picker.plain_picker.Goals as goal

pub returns : goal.returns
returns c = λ count most. plain_is c.args.number c.args.budget c.new-order.result c.new-falls.result _ refl c.new-order.ensures c.new-falls.ensures count most
