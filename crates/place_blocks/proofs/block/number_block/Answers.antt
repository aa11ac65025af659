use Rattle.std.proofs.Common.{arith}
use Rattle.place_blocks.proofs.block.number_block.Goals as goal

pub overflow_add-next : goal.overflow_add-next
overflow_add-next c = omega (arith, c.requires, c.len.ensures)
