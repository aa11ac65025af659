use Rattle.std.proofs.Common.{ap, arith, length, length-append}
use Rattle.da_values.specs.Value.{val_of}
use Rattle.msg_codec.specs.Packets.{packet_bytes}
use Rattle.msg_codec.proofs.SizeLaws.{packet_size}
use Rattle.msg_codec.proofs.writing.encode.Goals as goal

pub returns-in-Ok-clause-size : goal.returns-in-Ok-clause-size
returns-in-Ok-clause-size c =
    let v = val_of c.args.v.now in
    omega (arith, ap length c.in-Ok.ensures.ok, length-append c.args.out.now (packet_bytes c.args.sender c.args.clock v), packet_size c.args.sender c.args.clock v)
