use Rattle.std.proofs.Common.{arith}
use Rattle.place_blocks.proofs.block.put_into.Goals as goal

pub insert-requires : goal.insert-requires
insert-requires c = omega (arith, c.requires.begun, c.requires.ended)
