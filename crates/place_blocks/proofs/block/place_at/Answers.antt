use Rattle.std.proofs.Common.{ap, arith, length}
use Rattle.place_blocks.proofs.BlockLaws.{place_read, some_blocks}
use Rattle.place_blocks.proofs.block.place_at.Goals as goal

pub block_of-k-requires-clause-some : goal.block_of-k-requires-clause-some
block_of-k-requires-clause-some c = some_blocks c.args.blocks.now c.args.at c.requires.at

pub block_of-k-requires-clause-at : goal.block_of-k-requires-clause-at
block_of-k-requires-clause-at c = omega (arith, c.requires.at)

pub overflow_sub-inner : goal.overflow_sub-inner
overflow_sub-inner c = c.block_of-k.ensures.begun c.index-blocks-k.result c.index-blocks-k.is

pub bounds-places-inner : goal.bounds-places-inner
bounds-places-inner c = omega (
  arith,
  ap length c.as_slice-places.ensures,
  c.block_of-k.ensures.begun c.index-blocks-k.result c.index-blocks-k.is,
  c.block_of-k.ensures.inside c.requires.at c.index-blocks-k.result c.index-blocks-k.is,
)

pub returns : goal.returns
returns c =
    place_read c.args.blocks.now c.args.at c.block_of-k.result c.index-blocks-k.result c.as_slice-places.result.now c.requires.blocks c.requires.at c.block_of-k.ensures
    c.index-blocks-k.is c.as_slice-places.ensures
