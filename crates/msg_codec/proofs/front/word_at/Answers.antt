use Rattle.std.proofs.Common.{arith, refl}
use Rattle.msg_codec.proofs.Numbers.{word_read}
use Rattle.msg_codec.proofs.front.word_at.Goals as goal

pub returns : goal.returns
returns c = let read = c.in_ok-digits.ensures.cases in word_read _ _ _ _ 4 c.type_inv.bytes (omega (arith, read.2)) read.0 read.1 refl c.from_be_bytes.ensures
