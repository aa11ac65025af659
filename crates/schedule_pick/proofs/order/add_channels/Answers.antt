use Rattle.schedule_pick.proofs.ShuffleLemmas.{unwanted_way, wanted_way}
use Rattle.schedule_pick.proofs.order.add_channels.Goals as goal

pub returns-then-not-wanted : goal.returns-then-not-wanted
returns-then-not-wanted c = unwanted_way c.args.wanted c.args.way c.args.count c.args.out.now c.if-not-wanted.true

pub returns : goal.returns
returns c = wanted_way c.args.wanted c.args.way c.args.count c.args.out.now c.add_way.new.out c.if-not-wanted.false c.in_ok-add_way.ensures
