use Rattle.std.proofs.Common.{◌≡◌, append-nil, arith, sym}
use Rattle.schedule_pick.specs.Orders.{channels_from}
use Rattle.schedule_pick.proofs.ShuffleLemmas.{flat_all, flat_next}
use Rattle.schedule_pick.proofs.order.add_way.Goals as goal

pub loop-place-init : goal.loop-place-init
loop-place-init c = sym (append-nil c.args.out.now)

pub loop-place-preserved : goal.loop-place-preserved
loop-place-preserved c = flat_next (channels_from c.args.way c.args.count) c.loop-place.place c.args.out.now c.loop-place.out c.add_channels_from.new.out c.loop-place.invariant c.in_ok-add_channels_from.ensures

pub returns : goal.returns
returns c =
    let all : c.loop-place.place ≡ c.args.count = omega (arith, c.loop-place-test.false, c.loop-place.auto.place-end) in
    flat_all (channels_from c.args.way c.args.count) c.loop-place.place c.args.count c.args.out.now c.loop-place.out all c.loop-place.invariant
