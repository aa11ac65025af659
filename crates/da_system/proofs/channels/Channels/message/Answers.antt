use Rattle.std.proofs.Common.{◌≡◌, ◌∙◌, Some, ap, arith, sym}
use Rattle.std.specs.Prelude.{option_map, slice_get}
use Rattle.da_system.specs.Queued.{Queued}
use Rattle.da_system.specs.Queues.{message_of}
use Rattle.da_system.proofs.PlaceLemmas.{lent_at}
use Rattle.da_system.proofs.QueueLaws.{message_is}
use Rattle.da_system.proofs.channels.Channels.message.Goals as goal

pub returns-clause-value : goal.returns-clause-value
returns-clause-value c = λ channels stands.
    let pair = c.in_ok-place.ensures in
    let there : slice_get c.args.self.now.queues c.in_ok-place.place ≡ Some c.in_ok-get.field-0.now =
    ap (λ (queues : Queued). slice_get queues.queues c.in_ok-place.place) (sym c.self.view_is)
    ∙ ap (λ xs. slice_get xs c.in_ok-place.place) (sym c.deref.ensures.value) ∙ sym (lent_at c.deref.result.now c.in_ok-place.place (Some c.in_ok-get.field-0) c.in_ok-get.ensures.lookup) in
    ap (option_map message_of) c.get-2.ensures
    ∙ message_is c.args.self.now channels stands c.args.p c.args.q c.in_ok-place.place pair.0 pair.1 pair.2 c.args.i c.in_ok-at.at (omega (arith, c.in_ok-at.ensures.0, c.in_ok-at.ensures.1)) c.in_ok-get.field-0.now there
