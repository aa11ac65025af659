use Rattle.std.proofs.Common.{◌≡◌, ◌≤◌, ◌∙◌, arith, length, subst, sym}
use Rattle.da_system.specs.Counted.{Counted}
use Rattle.da_system.specs.Network.{program_of}
use Rattle.da_system.specs.Queues.{count_of}
use Rattle.da_system.proofs.RenewLaws.{Renewing, renewing_all, renewing_first, renewing_next}
use Rattle.da_system.proofs.renewal.renew_process.Goals as goal

pub loop-place-init : goal.loop-place-init
loop-place-init c = λ s stands.
    subst (λ (now : Counted). Renewing (program_of c.args.network.now) s c.args.counts.now now c.args.p 0) (sym c.put_moves.ensures)
    (renewing_first (program_of c.args.network.now) s c.args.counts.now c.args.p c.moves-count.result (c.moves-count.ensures.number s stands))

pub loop-place-preserved : goal.loop-place-preserved
loop-place-preserved c = λ s stands.
    renewing_next (program_of c.args.network.now) s c.args.counts.now c.args.p c.loop-place.counts c.loop-place.place (c.loop-place.invariant s stands) c.renew_channel.new.counts
    (c.renew_channel.ensures.keeps s stands) (c.renew_channel.ensures.made s stands)

pub returns-clause-keeps : goal.returns-clause-keeps
returns-clause-keeps c = λ s stands. (c.loop-place.invariant s stands).keeps

pub returns-clause-made : goal.returns-clause-made
returns-clause-made c = λ s stands sizes.
    let same : length s.worlds ≡ count_of c.args.network.now.channels = stands.sound.each ∙ sym stands.count in
    let past : length s.worlds ≤ c.loop-place.place = omega (arith, same, c.loop-place-test.false, c.processes-place-end.ensures.value) in
    renewing_all (program_of c.args.network.now) s c.args.counts.now c.args.p c.loop-place.counts c.loop-place.place (c.loop-place.invariant s stands) past sizes
