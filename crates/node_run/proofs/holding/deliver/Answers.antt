use Rattle.std.proofs.Common.{rules}
use Rattle.da_core.specs.Arrivals.{arrival}
use Rattle.node_run.proofs.DeliveryLaws.{next_allowed, next_arrives, next_cut, next_delivered, next_refused}
use Rattle.node_run.proofs.HearingLaws.{has_stepped, step_given}
use Rattle.node_run.proofs.HeldLaws.{place_inside}
use Rattle.node_run.proofs.holding.deliver.Goals as goal

pub remove-sender-requires : goal.remove-sender-requires
remove-sender-requires g c =
    let (node, stood) = c.requires.standing in
    let (packet, there, found) = c.requires.next node stood in
    place_inside c.args.running.now.held c.args.place packet there

pub take-requires-clause-arrives : goal.take-requires-clause-arrives
take-requires-clause-arrives g c = next_arrives c.args.running.now c.args.place c.remove-sender.result c.remove-sender.ensures.value c.requires.standing

pub returns-in-Err-Memory-clause-cut : goal.returns-in-Err-Memory-clause-cut
returns-in-Err-Memory-clause-cut g c = λ node stood. next_refused c.args.running.now c.args.place c.remove-sender.result c.remove-sender.ensures.value c.requires.next node stood _ _

pub unreachable-requires : goal.unreachable-requires
unreachable-requires g c =
    next_allowed c.args.running.now c.args.place c.remove-sender.result c.remove-sender.ensures.value c.requires.standing c.requires.next (c.in-Err-Forbidden.ensures.forbidden (search rules))

pub tell-requires : goal.tell-requires
tell-requires g c =
    let packet = c.remove-sender.result in
    let stepped = has_stepped c.args.running.now (arrival packet.value packet.sender packet.clock) c.take.new.self c.in-Ok.stopped c.new-actions.result c.take.new.out c.as_slice.result.now
    c.new-actions.ensures c.as_slice.ensures c.take.ensures.program c.in-Ok.ensures.delivers in
    step_given c.args.running.now _ _ _ c.as_slice.result.now stepped c.requires.standing
    (next_arrives c.args.running.now c.args.place packet c.remove-sender.ensures.value c.requires.standing) _ c.requires.bound

pub returns-clause-delivered : goal.returns-clause-delivered
returns-clause-delivered g c =
    let packet = c.remove-sender.result in
    let stepped = has_stepped c.args.running.now (arrival packet.value packet.sender packet.clock) c.take.new.self c.in-Ok.stopped c.new-actions.result c.take.new.out c.as_slice.result.now
    c.new-actions.ensures c.as_slice.ensures c.take.ensures.program c.in-Ok.ensures.delivers in
    next_delivered c.args.running.now c.args.place packet c.remove-sender.ensures.value _ _ c.remove-sender.new.self c.remove-sender.ensures.rest c.as_slice.result.now stepped c.requires.next
    _ _ _ _ c.tell.result c.tell.ensures.given c.tell.ensures.written

pub returns-clause-cut : goal.returns-clause-cut
returns-clause-cut g c =
    let packet = c.remove-sender.result in
    let stepped = has_stepped c.args.running.now (arrival packet.value packet.sender packet.clock) c.take.new.self c.in-Ok.stopped c.new-actions.result c.take.new.out c.as_slice.result.now
    c.new-actions.ensures c.as_slice.ensures c.take.ensures.program c.in-Ok.ensures.delivers in
    next_cut c.args.running.now c.args.place packet c.remove-sender.ensures.value _ _ c.remove-sender.new.self c.remove-sender.ensures.rest c.as_slice.result.now stepped c.requires.next
    _ _ _ _ c.tell.result c.tell.ensures.cut
