use Rattle.std.proofs.Common.{List, ap, arith, length, subst, sym}
use Rattle.place_blocks.specs.Blocks.{AreBlocks, in_blocks}
use Rattle.place_blocks.specs.declared.block.Block.{Block}
use Rattle.place_blocks.proofs.places.Places.new.Goals as goal

pub invariant_of-result : goal.invariant_of-result
invariant_of-result c = record {
  blocks_are = subst (AreBlocks 0) (sym c.new-blocks.ensures.items) tt;
  whole = ap (λ (blocks : List Block). length (in_blocks blocks)) c.new-blocks.ensures.items;
  room = omega arith;
}

pub returns : goal.returns
returns c = ap in_blocks c.new-blocks.ensures.items
