use Rattle.std.specs.Prelude.{◌≡◌, ◌<◌, ℕ, zero, suc, length, slice_index_or}
use Rattle.std.proofs.Common.{List, ap, arith, refl, subst, sym, ◌∙◌}
use Rattle.place_blocks.specs.Blocks.{AreBlocks, in_blocks}
use Rattle.place_blocks.specs.declared.block.Block.{Block}
use Rattle.place_blocks.proofs.BlockLaws.{all_filled, some_blocks}
use Rattle.place_blocks.proofs.EditLaws.{length_there, seen_at}
use Rattle.place_blocks.proofs.edit.take_place.Goals as goal

more_than_one : (n : ℕ) → 0 < n → (n ≡ 1 → ⊥) → 1 < n
more_than_one zero some other = absurd (omega (arith, some))
more_than_one (suc zero) some other = absurd (other refl)
more_than_one (suc (suc n)) some other = omega arith

pub block_of-k-requires-clause-blocks : goal.block_of-k-requires-clause-blocks
block_of-k-requires-clause-blocks c = subst (AreBlocks 0) (sym c.as_slice.ensures.value) c.requires.blocks

pub block_of-k-requires-clause-some : goal.block_of-k-requires-clause-some
block_of-k-requires-clause-some c = omega (arith, some_blocks c.args.blocks.now.items c.args.at c.requires.at, ap length c.as_slice.ensures.value)

pub block_of-k-requires-clause-at : goal.block_of-k-requires-clause-at
block_of-k-requires-clause-at c = omega (arith, c.requires.at, ap (λ (blocks : List Block). length (in_blocks blocks)) c.as_slice.ensures.value)

pub length_of-long-requires : goal.length_of-long-requires
length_of-long-requires c = omega (arith, c.block_of-k.ensures.within, ap length c.as_slice.ensures.value, ap length c.as_slice-2.ensures.value)

pub drop_block-requires-clause-k : goal.drop_block-requires-clause-k
drop_block-requires-clause-k c = omega (arith, c.block_of-k.ensures.within, ap length c.as_slice.ensures.value)

pub drop_block-requires-clause-single : goal.drop_block-requires-clause-single
drop_block-requires-clause-single c other =
    sym (length_there c.args.blocks.now.items c.as_slice-2.result.now c.as_slice-2.ensures.value c.block_of-k.result c.length_of-long.result c.length_of-long.ensures other)
    ∙ c.if-long-eq1.true

pub returns-then-long-eq1-clause-rest : goal.returns-then-long-eq1-clause-rest
returns-then-long-eq1-clause-rest c =
    c.drop_block.ensures.rest c.args.at (seen_at c.args.blocks.now.items c.as_slice.result.now c.as_slice.ensures.value c.args.at c.block_of-k.result c.block_of-k.ensures) c.requires.at

pub take_within-requires-clause-there : goal.take_within-requires-clause-there
take_within-requires-clause-there c = seen_at c.args.blocks.now.items c.as_slice.result.now c.as_slice.ensures.value c.args.at c.block_of-k.result c.block_of-k.ensures

pub take_within-requires-clause-others : goal.take_within-requires-clause-others
take_within-requires-clause-others c other =
    let there = seen_at c.args.blocks.now.items c.as_slice.result.now c.as_slice.ensures.value c.args.at c.block_of-k.result c.block_of-k.ensures in
    let long = length_there c.args.blocks.now.items c.as_slice-2.result.now c.as_slice-2.ensures.value c.block_of-k.result c.length_of-long.result c.length_of-long.ensures other in
    let filled : 0 < length (slice_index_or c.args.blocks.now.items c.block_of-k.result other).places =
    all_filled c.args.blocks.now.items 0 c.requires.blocks c.block_of-k.result other there.within in
    let some : 0 < c.length_of-long.result = omega (arith, long, filled) in
    omega (arith, long, more_than_one c.length_of-long.result some c.if-long-eq1.false)
