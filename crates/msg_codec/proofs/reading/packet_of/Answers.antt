use Rattle.std.specs.Prelude.{◌≡◌, length}
use Rattle.std.proofs.Common.{ap, arith}
use Rattle.std.proofs.lemmas.Result.{err_from_is_err_and}
use Rattle.da_values.specs.Value.{val_of}
use Rattle.msg_codec.specs.Packets.{value_bytes}
use Rattle.msg_codec.specs.declared.packet.CodecFault.TheVariants.{Memory}
use Rattle.msg_codec.proofs.PacketLaws.{head_of, none_left, packet_failed, packet_only, packet_there}
use Rattle.msg_codec.proofs.reading.packet_of.Goals as goal

pub returns-in_default-clause-only : goal.returns-in_default-clause-only
returns-in_default-clause-only c s clock v packet = absurd (c.in_default.ensures s clock (value_bytes v) (head_of s clock v c.args.bytes.now packet))

pub returns-in_err-value-clause-only : goal.returns-in_err-value-clause-only
returns-in_err-value-clause-only c s clock v packet =
    let fault = err_from_is_err_and c.from_residual.result c.from_residual.ensures.1 in
    rw (fault.1, fault.2) (packet_failed c.in-Some.sender c.in-Some.clock c.args.bytes.now c.in-Some.rest.now c.in-Some.ensures (c.in_err-value.field-0.0 ≡ Memory) c.in_err-value.ensures.only s clock v packet)

pub returns-then-rest-gt0-clause-only : goal.returns-then-rest-gt0-clause-only
returns-then-rest-gt0-clause-only c s clock v packet =
    let found =
    packet_only c.in-Some.sender c.in-Some.clock c.args.bytes.now c.in-Some.rest.now c.in-Some.ensures (val_of c.in_ok-value.value) c.in_ok-value.rest.now c.in_ok-value.ensures.only s clock v packet in
    absurd (omega (arith, ap length found.3, c.if-rest-gt0.true))

pub returns-clause-packet : goal.returns-clause-packet
returns-clause-packet c =
    packet_there c.in-Some.sender c.in-Some.clock c.args.bytes.now c.in-Some.rest.now c.in-Some.ensures (val_of c.in_ok-value.value) c.in_ok-value.rest.now (omega (arith, c.if-bytes-gt-MAX_PACKET.false)) c.in_ok-value.ensures.front
    (none_left c.in_ok-value.rest.now (omega (arith, c.if-rest-gt0.false)))

pub returns-clause-only : goal.returns-clause-only
returns-clause-only c s clock v packet =
    let found =
    packet_only c.in-Some.sender c.in-Some.clock c.args.bytes.now c.in-Some.rest.now c.in-Some.ensures (val_of c.in_ok-value.value) c.in_ok-value.rest.now c.in_ok-value.ensures.only s clock v packet in
    (found.0, found.1, found.2)
