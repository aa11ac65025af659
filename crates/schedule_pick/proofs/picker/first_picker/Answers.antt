use Rattle.schedule_pick.proofs.PickLemmas.{first_is}
use Rattle.schedule_pick.proofs.picker.first_picker.Goals as goal

pub returns-in_default : goal.returns-in_default
returns-in_default c = first_is c.args.setting c.args.processes c.args.most c.args.number _ _ _ c.falls-falls.ensures c.in_default.is (c.plain_picker.ensures c.args.processes c.args.most)

pub returns : goal.returns
returns c = first_is c.args.setting c.args.processes c.args.most c.args.number _ _ _ c.falls-falls.ensures c.in-Some.is c.in_ok-picker.ensures
