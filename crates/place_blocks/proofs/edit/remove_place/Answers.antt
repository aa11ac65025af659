use Rattle.std.specs.Prelude.{slice_get}
use Rattle.std.proofs.Common.{List, ap, arith, length, subst, sym, ◌∙◌}
use Rattle.place_blocks.specs.Blocks.{AreBlocks, in_blocks}
use Rattle.place_blocks.specs.declared.block.Block.{Block}
use Rattle.place_blocks.proofs.NumberedLaws.{counted_less}
use Rattle.place_blocks.proofs.edit.remove_place.Goals as goal

pub overflow_sub-less : goal.overflow_sub-less
overflow_sub-less c = omega (arith, c.requires.at, c.requires.counted.whole)

pub place_at-place-requires-clause-blocks : goal.place_at-place-requires-clause-blocks
place_at-place-requires-clause-blocks c = subst (AreBlocks 0) (sym c.as_slice.ensures.value) c.requires.counted.blocks_are

pub place_at-place-requires-clause-at : goal.place_at-place-requires-clause-at
place_at-place-requires-clause-at c = omega (arith, c.requires.at, ap (λ (blocks : List Block). length (in_blocks blocks)) c.as_slice.ensures.value)

pub take_place-requires-clause-blocks : goal.take_place-requires-clause-blocks
take_place-requires-clause-blocks c = c.requires.counted.blocks_are

pub take_place-requires-clause-room : goal.take_place-requires-clause-room
take_place-requires-clause-room c = omega (arith, c.requires.counted.whole, c.requires.counted.room)

pub returns-clause-value : goal.returns-clause-value
returns-clause-value c = ap (λ (blocks : List Block). slice_get (in_blocks blocks) c.args.at) (sym c.as_slice.ensures.value) ∙ c.place_at-place.ensures

pub returns-clause-counted : goal.returns-clause-counted
returns-clause-counted c =
    counted_less c.args.count.now c.args.blocks.now.items c.take_place.new.blocks.items c.requires.counted c.take_place.ensures.blocks c.args.at c.requires.at
    c.take_place.ensures.rest
