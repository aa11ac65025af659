use Rattle.std.proofs.Common.{◌≡◌, arith}
use Rattle.da_system.specs.Choices.{is_allowed}
use Rattle.da_system.specs.State.{program_of}
use Rattle.schedule_walk.proofs.AllowedLemmas.{deed_added, deeds_added}
use Rattle.schedule_walk.proofs.allowed.add_deeds_to.Goals as goal

pub loop-place-preserved : goal.loop-place-preserved
loop-place-preserved c = λ s stands.
    deed_added (is_allowed (program_of c.args.system.now) s) c.args.deed c.args.p c.args.q c.loop-place.place c.event.result c.args.out.now c.loop-place.out c.add_one.new.out (c.loop-place.invariant s stands) c.event.ensures (c.in_ok-add_one.ensures s stands)

pub returns : goal.returns
returns c = λ s stands.
    let all : c.loop-place.place ≡ c.in_flight-count.result = omega (arith, c.loop-place-test.false, c.loop-place.auto.place-end) in
    deeds_added (is_allowed (program_of c.args.system.now) s) c.args.deed s c.args.p c.args.q c.loop-place.place c.in_flight-count.result c.args.out.now c.loop-place.out all (c.in_flight-count.ensures s stands) (c.loop-place.invariant s stands)
