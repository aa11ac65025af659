use Rattle.msg_codec.proofs.PacketLaws.{none_of, whole_of}
use Rattle.msg_codec.proofs.reading.decode.Goals as goal

pub returns-clause-none : goal.returns-clause-none
returns-clause-none c = none_of c.args.bytes.now c.packet_of.result c.packet_of.ensures.only

pub returns-clause-whole : goal.returns-clause-whole
returns-clause-whole c = whole_of c.args.bytes.now c.packet_of.result c.packet_of.ensures.packet
