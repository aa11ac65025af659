use Rattle.std.specs.Prelude.{nat_le}
use Rattle.std.proofs.Common.{rules}
use Rattle.std.proofs.lemmas.List.Sorted.{IsPartitionPoint-from_clause}
use Rattle.place_blocks.specs.declared.block.Block.{Block}
use Rattle.place_blocks.proofs.BlockLaws.{block_there, parted_blocks}
use Rattle.place_blocks.proofs.block.block_of.Goals as goal

-- the closure tells of a block whether it begins there or before, and changes nothing
pub returns : goal.returns
returns c =
    block_there c.args.blocks.now c.args.at c.partition_point-begun.result c.saturating_sub.result c.requires.blocks c.requires.some c.requires.at c.partition_point-begun.ensures.bound
    (IsPartitionPoint-from_clause (λ (block : Block). nat_le block.before c.args.at) c.args.blocks.now c.partition_point-begun.result c.partition_point-begun.ensures.partitioned
    (parted_blocks c.args.blocks.now 0 c.args.at c.requires.blocks) (λ a r f called. search rules))
    c.saturating_sub.ensures
