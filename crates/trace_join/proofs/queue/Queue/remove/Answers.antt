-- The messages without one are those of the actions without one.
use Rattle.std.proofs.Common.{◌∙◌, ◌≡◌, ◌<◌, ap, arith, length, sym}
use Rattle.std.specs.VecDeque.{deque_len}
use Rattle.std.specs.Prelude.{map, remove}
use Rattle.std.proofs.lemmas.List.{length-map}
use Rattle.trace_join.specs.Fetching.{message_in}
use Rattle.trace_join.proofs.QueueLaws.{map_remove, on_some_by}
use Rattle.trace_join.proofs.queue.Queue.remove.Goals as goal

pub returns : goal.returns
returns c =
    let size : length c.args.self.now ≡ length c.self.inside.sent.items = ap length (sym c.self.view_is)
    ∙ length-map c.self.inside.sent.items (λ a. message_in a.now) in
    let within : c.args.place < deque_len c.self.inside.sent = omega (arith, c.requires, size, c.self.inside.sent.ok.0) in
    ap (map (λ a. message_in a.now)) (on_some_by c.remove.result (c.remove.ensures.variant.1 within) c.remove.ensures.items)
    ∙ map_remove (λ a. message_in a.now) c.self.inside.sent.items c.args.place ∙ ap (λ ls. remove ls c.args.place) c.self.view_is
