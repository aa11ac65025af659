use Rattle.std.proofs.Common.{◌≡◌, ◌∙◌, ap, append-nil, arith, sym, ◌++◌, ◌∷◌, []}
use Rattle.schedule_pick.specs.Orders.{channel}
use Rattle.schedule_pick.specs.declared.order.Actor.{Actor}
use Rattle.schedule_pick.proofs.ShuffleLemmas.{map_all, map_next}
use Rattle.schedule_pick.proofs.order.add_channels_from.Goals as goal

pub loop-place-init : goal.loop-place-init
loop-place-init c = sym (append-nil c.args.out.now)

pub loop-place-preserved : goal.loop-place-preserved
loop-place-preserved c =
    map_next (channel c.args.way c.args.p) c.loop-place.place c.args.out.now c.loop-place.out c.push.new.self c.loop-place.invariant
    (c.in_ok-push.ensures.ok ∙ ap (λ (actor : Actor). c.loop-place.out ++ actor ∷ []) c.channel.ensures)

pub returns : goal.returns
returns c =
    let all : c.loop-place.place ≡ c.args.count = omega (arith, c.loop-place-test.false, c.loop-place.auto.place-end) in
    map_all (channel c.args.way c.args.p) c.loop-place.place c.args.count c.args.out.now c.loop-place.out all c.loop-place.invariant
