use Rattle.std.proofs.Common.{sym, subst}
use Rattle.da_system.specs.Queued.{Queued}
use Rattle.da_system.specs.Queues.{StandsFor}
use Rattle.da_system.proofs.QueueLaws.{IsPlaceOf, stands_pushed}
use Rattle.da_system.proofs.Tested.{on_ok}
use Rattle.da_system.proofs.channels.Channels.push.Goals as goal

pub returns-clause-stands : goal.returns-clause-stands
returns-clause-stands c =
    let pair = subst (λ (queues : Queued). IsPlaceOf queues c.args.p c.args.q c.in-Some.place) (sym c.self.view_is) c.in-Some.ensures in
    on_ok c.push.result
    (λ more channels stands. stands_pushed _ channels (subst (λ (queues : Queued). StandsFor queues channels) (sym c.self.view_is) stands) c.args.p c.args.q c.in-Some.place pair.0 pair.1 pair.2 pair.3 c.index_mut.result.now c.index_mut.ensures.value c.push.new.self c.args.message more)
    c.push.ensures.ok
