use Rattle.std.proofs.Common.{arith}
use Rattle.place_blocks.proofs.block.take_from.Goals as goal

pub remove-requires : goal.remove-requires
remove-requires c = omega (arith, c.requires.begun, c.requires.inside)
