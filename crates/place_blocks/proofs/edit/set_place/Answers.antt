use Rattle.std.specs.Prelude.{◌-◌, length}
use Rattle.std.proofs.Common.{List, ap, arith, subst, sym, ◌∙◌}
use Rattle.std.proofs.lemmas.List.{length-set}
use Rattle.place_blocks.specs.Blocks.{AreBlocks, in_blocks}
use Rattle.place_blocks.specs.declared.block.Block.{Block}
use Rattle.place_blocks.proofs.BlockLaws.{kept_blocks, set_in_blocks, some_blocks}
use Rattle.place_blocks.proofs.EditLaws.{seen_at}
use Rattle.place_blocks.proofs.edit.set_place.Goals as goal

pub block_of-k-requires-clause-blocks : goal.block_of-k-requires-clause-blocks
block_of-k-requires-clause-blocks c = subst (AreBlocks 0) (sym c.as_slice.ensures.value) c.requires.blocks

pub block_of-k-requires-clause-some : goal.block_of-k-requires-clause-some
block_of-k-requires-clause-some c = omega (arith, some_blocks c.args.blocks.now.items c.args.at c.requires.at, ap length c.as_slice.ensures.value)

pub block_of-k-requires-clause-at : goal.block_of-k-requires-clause-at
block_of-k-requires-clause-at c = omega (arith, c.requires.at, ap (λ (blocks : List Block). length (in_blocks blocks)) c.as_slice.ensures.value)

pub index_mut-requires : goal.index_mut-requires
index_mut-requires c = omega (arith, c.block_of-k.ensures.within, ap length c.as_slice.ensures.value, c.args.blocks.now.ok.0)

pub put_over-requires-clause-begun : goal.put_over-requires-clause-begun
put_over-requires-clause-begun c =
    (seen_at c.args.blocks.now.items c.as_slice.result.now c.as_slice.ensures.value c.args.at c.block_of-k.result c.block_of-k.ensures).begun c.index_mut.result.now c.index_mut.ensures.value

pub put_over-requires-clause-inside : goal.put_over-requires-clause-inside
put_over-requires-clause-inside c =
    (seen_at c.args.blocks.now.items c.as_slice.result.now c.as_slice.ensures.value c.args.at c.block_of-k.result c.block_of-k.ensures).inside c.requires.at c.index_mut.result.now c.index_mut.ensures.value

pub returns-clause-places : goal.returns-clause-places
returns-clause-places c =
    let there = seen_at c.args.blocks.now.items c.as_slice.result.now c.as_slice.ensures.value c.args.at c.block_of-k.result c.block_of-k.ensures in
    set_in_blocks c.args.blocks.now.items c.args.at c.block_of-k.result c.index_mut.result.now c.requires.blocks there c.index_mut.ensures.value c.requires.at
    c.put_over.new.block c.args.place c.put_over.ensures.places

pub returns-clause-blocks : goal.returns-clause-blocks
returns-clause-blocks c =
    kept_blocks c.args.blocks.now.items 0 c.block_of-k.result c.index_mut.result.now c.put_over.new.block c.requires.blocks c.index_mut.ensures.value c.put_over.ensures.before
    (ap length c.put_over.ensures.places ∙ length-set c.index_mut.result.now.places (c.args.at - c.index_mut.result.now.before) c.args.place)
