use Rattle.std.proofs.Common.{arith}
use Rattle.place_blocks.proofs.join.take_block.Goals as goal

pub remove-requires : goal.remove-requires
remove-requires c = omega (arith, c.requires, c.args.blocks.now.ok.0)
