use Rattle.std.proofs.Common.{◌≡◌, ◌≤◌, ◌∙◌, arith, length, sym}
use Rattle.da_system.specs.Network.{program_of}
use Rattle.da_system.specs.Queues.{count_of}
use Rattle.da_system.proofs.RenewLaws.{counting_all, counting_first, counting_next}
use Rattle.da_system.proofs.renewal.renew_all.Goals as goal

pub loop-place-init : goal.loop-place-init
loop-place-init c = λ s stands sizes. counting_first (program_of c.args.network.now) s c.args.counts.now sizes

pub loop-place-preserved : goal.loop-place-preserved
loop-place-preserved c = λ s stands sizes.
    counting_next (program_of c.args.network.now) s c.loop-place.counts c.loop-place.place (c.loop-place.invariant s stands sizes) c.renew_process.new.counts (c.renew_process.ensures.keeps s stands)
    (c.renew_process.ensures.made s stands)

pub returns : goal.returns
returns c = λ s stands sizes.
    let same : length s.worlds ≡ count_of c.args.network.now.channels = stands.sound.each ∙ sym stands.count in
    let past : length s.worlds ≤ c.loop-place.place = omega (arith, same, c.loop-place-test.false, c.processes-place-end.ensures.value) in
    counting_all (program_of c.args.network.now) s c.loop-place.counts c.loop-place.place (c.loop-place.invariant s stands sizes) past
