use Rattle.std.proofs.Common.{◌≡◌, ◌∙◌, List, ap, length, subst, sym}
use Rattle.std.proofs.lemmas.List.{length-map}
use Rattle.da_system.specs.Channels.{MessageInFlight}
use Rattle.da_system.specs.Queued.{Queued}
use Rattle.da_system.specs.Queues.{StandsFor, message_of}
use Rattle.da_system.proofs.QueueLaws.{IsPlaceOf, channel_is, no_channel, there_is}
use Rattle.da_system.proofs.channels.Channels.in_flight.Goals as goal

pub returns-in-Some : goal.returns-in-Some
returns-in-Some c = λ channels stands.
    let pair = subst (λ (queues : Queued). IsPlaceOf queues c.args.p c.args.q c.in-Some.place) (sym c.self.view_is) c.in-Some.ensures in
    let these = subst (λ (queues : Queued). StandsFor queues channels) (sym c.self.view_is) stands in
    let there = there_is _ channels these c.args.p c.args.q c.in-Some.place pair.0 pair.1 pair.2 pair.3 c.index.result.now c.index.ensures in
    c.len.ensures ∙ sym (ap length (channel_is _ channels these c.args.p c.args.q c.in-Some.place pair.0 pair.1 pair.2 c.index.result.now there) ∙ length-map c.index.result.now message_of)

pub returns-in-None : goal.returns-in-None
returns-in-None c = λ channels stands. sym (ap (λ (messages : List MessageInFlight). length messages) (no_channel _ c.args.p c.args.q channels stands.square c.in-None.ensures))
