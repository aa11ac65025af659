use Rattle.std.proofs.Common.{arith, refl}
use Rattle.msg_codec.proofs.Numbers.{short_read}
use Rattle.msg_codec.proofs.front.short_at.Goals as goal

pub returns : goal.returns
returns c = let read = c.in_ok-digits.ensures.cases in short_read _ _ _ _ 2 c.type_inv.bytes (omega (arith, read.2)) read.0 read.1 refl c.from_be_bytes.ensures
