use Rattle.std.proofs.Common.{◌≡◌, ◌∙◌, ap, sym, take, true}
use Rattle.std.proofs.lemmas.Bool.{and_from}
use Rattle.da_core.specs.StandsFor.{program_of as core_program}
use Rattle.node_run.specs.Hearing.{held_in, held_of}
use Rattle.node_run.specs.HeldPackets.{goes_first, may_come}
use Rattle.node_run.proofs.HeldLaws.{finds_here, there_at}
use Rattle.node_run.proofs.holding.next_place.Goals as goal

pub returns-then-can_take : goal.returns-then-can_take
returns-then-can_take c = λ w stands same.
    let program = core_program c.args.core.now in
    let packet = c.index-held-place.result in
    let before = held_in (take c.loop-place.place c.args.held.now) in
    let first : goes_first program.kind before (held_of packet) ≡ true = ap (λ k. goes_first k before (held_of packet)) (sym same) ∙ sym c.goes_first.ensures ∙ c.if-goes_first.true in
    let may : may_come program w (held_of packet) ≡ true = (c.can_take.ensures.allowed w stands packet.clock).0 c.if-can_take.true in
    finds_here program w c.args.held.now c.loop-place.place packet (there_at c.args.held.now c.loop-place.place packet c.loop-place-test.true c.index-held-place.is)
    (c.loop-place.invariant w stands same) (and_from (goes_first program.kind before (held_of packet)) (may_come program w (held_of packet)) first may)
