use Rattle.std.proofs.Common.{◌≡◌, ◌+◌, ◌-◌, ◌∙◌, ap, arith, sym, subst}
use Rattle.std.specs.Prelude.{option_map}
use Rattle.da_system.specs.Queued.{Queued}
use Rattle.da_system.specs.Queues.{StandsFor, message_of}
use Rattle.da_system.proofs.QueueLaws.{IsPlaceOf, message_is, stands_removed, there_is}
use Rattle.da_system.proofs.channels.Channels.remove.Goals as goal

pub returns-clause-value : goal.returns-clause-value
returns-clause-value c = λ channels stands.
    let pair = subst (λ (queues : Queued). IsPlaceOf queues c.args.p c.args.q c.in-Some.place) (sym c.self.view_is) c.in-Some.ensures in
    let counted : c.args.i ≡ c.args.i - 1 + 1 = omega (arith, c.requires.2) in
    let these = subst (λ (queues : Queued). StandsFor queues channels) (sym c.self.view_is) stands in
    ap (option_map message_of) c.remove.ensures.value
    ∙ message_is _ channels these c.args.p c.args.q c.in-Some.place pair.0 pair.1 pair.2 c.args.i (c.args.i - 1) counted c.index_mut.result.now
    (there_is _ channels these c.args.p c.args.q c.in-Some.place pair.0 pair.1 pair.2 pair.3 c.index_mut.result.now c.index_mut.ensures.value)

pub returns-clause-stands : goal.returns-clause-stands
returns-clause-stands c = λ channels stands.
    let pair = subst (λ (queues : Queued). IsPlaceOf queues c.args.p c.args.q c.in-Some.place) (sym c.self.view_is) c.in-Some.ensures in
    let counted : c.args.i ≡ c.args.i - 1 + 1 = omega (arith, c.requires.2) in
    stands_removed _ channels (subst (λ (queues : Queued). StandsFor queues channels) (sym c.self.view_is) stands) c.args.p c.args.q c.in-Some.place pair.0 pair.1 pair.2 pair.3 c.index_mut.result.now c.index_mut.ensures.value c.remove.new.self c.args.i (c.args.i - 1) counted c.remove.ensures.items
