use Rattle.std.proofs.Common.{arith}
use Rattle.place_blocks.proofs.join.are_short.Goals as goal

pub length_of-first-requires : goal.length_of-first-requires
length_of-first-requires c = omega (arith, c.requires, c.if-next-blocks.false)

pub returns : goal.returns
returns c short = c.if-next-blocks.false
