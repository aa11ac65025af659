use Rattle.std.proofs.Common.{arith}
use Rattle.place_blocks.proofs.join.put_block.Goals as goal

pub insert-requires : goal.insert-requires
insert-requires c = omega (arith, c.requires, c.args.blocks.now.ok.0)
