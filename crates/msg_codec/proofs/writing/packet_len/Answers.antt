use Rattle.std.proofs.Common.{arith}
use Rattle.da_values.specs.Value.{val_of}
use Rattle.msg_codec.proofs.SizeLaws.{value_size}
use Rattle.msg_codec.proofs.writing.packet_len.Goals as goal

pub returns : goal.returns
returns c sender clock = omega (arith, value_size (val_of c.args.v.now), c.encoded_len.ensures, c.saturating_add.ensures)
