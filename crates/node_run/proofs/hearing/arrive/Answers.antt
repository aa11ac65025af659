use Rattle.std.proofs.Common.{ap, rules}
use Rattle.da_core.specs.Compiled.{program_of}
use Rattle.da_lang.specs.declared.program.Program.{Program}
use Rattle.da_outside.specs.declared.link.LinkAnswer.TheVariants.{Datagram}
use Rattle.node_run.proofs.HearingLaws.{NoMessage, any_err, drop_acted, held_acted, no_packet, not_held, refused}
use Rattle.node_run.proofs.hearing.arrive.Goals as goal
use Rattle.node_run.proofs.hearing.arrive.Goals.{in-Ok+else-is_sendable+in-Text-1, in-Ok+else-is_sendable+in-Tuple-1, in-Ok+else-is_sendable+in-Set-1, in-Ok+else-is_sendable+in-Int-1, in-Err-NotAPacket}

pub returns-then-is_sendable-clause-acted : goal.returns-then-is_sendable-clause-acted
returns-then-is_sendable-clause-acted c =
    held_acted (program_of c.args.c.now) c.args.running.now c.args.bytes.now c.in-Ok.packet _ (ap (λ (p : Program). p.kind) c.program.ensures) c.is_sendable.result c.in-Ok.ensures.packet c.is_sendable.ensures c.if-is_sendable.true
    _ c.hold.result c.hold.ensures.held c.hold.ensures.arrive

pub returns-then-is_sendable-clause-cut : goal.returns-then-is_sendable-clause-cut
returns-then-is_sendable-clause-cut c = any_err c.hold.result (λ told taken node stood. refused _ c.args.running.now node stood told taken c.requires.waits (Datagram c.args.bytes.now))

pub returns-in-Err-Memory-clause-cut : goal.returns-in-Err-Memory-clause-cut
returns-in-Err-Memory-clause-cut c = λ told taken node stood. refused _ c.args.running.now node stood told taken c.requires.waits (Datagram c.args.bytes.now)

pub returns-clause-acted : goal.returns-clause-acted
returns-clause-acted c = λ told taken node stood.
    let none : NoMessage (program_of c.args.c.now) c.args.bytes.now = elim c.match-decode.branch [
      | in-Ok+else-is_sendable+in-Text-1 w ↦ not_held _ _ _ _ _ _ w.in-Ok.ensures.packet w.is_sendable.ensures w.if-is_sendable.false
      | in-Ok+else-is_sendable+in-Tuple-1 w ↦ not_held _ _ _ _ _ _ w.in-Ok.ensures.packet w.is_sendable.ensures w.if-is_sendable.false
      | in-Ok+else-is_sendable+in-Set-1 w ↦ not_held _ _ _ _ _ _ w.in-Ok.ensures.packet w.is_sendable.ensures w.if-is_sendable.false
      | in-Ok+else-is_sendable+in-Int-1 w ↦ not_held _ _ _ _ _ _ w.in-Ok.ensures.packet w.is_sendable.ensures w.if-is_sendable.false
      | in-Err-NotAPacket w ↦ no_packet _ _ (w.in-Err-NotAPacket.ensures.none (search rules))
    ] in
    drop_acted _ c.args.running.now node stood told taken c.args.bytes.now none
