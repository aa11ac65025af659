use Rattle.std.proofs.Common.{arith}
use Rattle.place_blocks.proofs.block.put_over.Goals as goal

pub set-requires : goal.set-requires
set-requires c = omega (arith, c.requires.begun, c.requires.inside)
