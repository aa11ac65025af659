use Rattle.std.specs.Prelude.{◌-◌, List, length}
use Rattle.std.proofs.Common.{ap, arith, subst, sym, ◌∙◌}
use Rattle.std.proofs.lemmas.List.{length-set}
use Rattle.std.proofs.lemmas.List.Edits.{length-insert}
use Rattle.place_blocks.specs.Blocks.{AreBlocks, in_blocks}
use Rattle.place_blocks.specs.declared.block.Block.{Block}
use Rattle.place_blocks.proofs.BlockLaws.{begun_put, put_in_blocks, same_blocks}
use Rattle.place_blocks.proofs.EditLaws.{at_err, before_seen, seen_at}
use Rattle.place_blocks.proofs.edit.put_among.Goals as goal

pub block_of-k-requires-clause-blocks : goal.block_of-k-requires-clause-blocks
block_of-k-requires-clause-blocks c = subst (AreBlocks 0) (sym c.as_slice.ensures.value) c.requires.blocks

pub block_of-k-requires-clause-some : goal.block_of-k-requires-clause-some
block_of-k-requires-clause-some c = omega (arith, c.requires.some, ap length c.as_slice.ensures.value)

pub block_of-k-requires-clause-at : goal.block_of-k-requires-clause-at
block_of-k-requires-clause-at c = omega (arith, c.requires.at, ap (λ (blocks : List Block). length (in_blocks blocks)) c.as_slice.ensures.value)

pub before_of-before-requires : goal.before_of-before-requires
before_of-before-requires c = omega (arith, c.block_of-k.ensures.within, ap length c.as_slice.ensures.value, ap length c.as_slice-2.ensures.value)

pub index_mut-requires : goal.index_mut-requires
index_mut-requires c = omega (arith, c.block_of-k.ensures.within, ap length c.as_slice.ensures.value, c.args.blocks.now.ok.0)

pub put_into-requires-clause-begun : goal.put_into-requires-clause-begun
put_into-requires-clause-begun c =
    (seen_at c.args.blocks.now.items c.as_slice.result.now c.as_slice.ensures.value c.args.at c.block_of-k.result c.block_of-k.ensures).begun c.index_mut.result.now c.index_mut.ensures.value

pub put_into-requires-clause-ended : goal.put_into-requires-clause-ended
put_into-requires-clause-ended c =
    (seen_at c.args.blocks.now.items c.as_slice.result.now c.as_slice.ensures.value c.args.at c.block_of-k.result c.block_of-k.ensures).ended c.index_mut.result.now c.index_mut.ensures.value

pub returns-in_err-put_into-clause-err : goal.returns-in_err-put_into-clause-err
returns-in_err-put_into-clause-err c =
    at_err _ _ (ap in_blocks (same_blocks c.args.blocks.now.items c.block_of-k.result c.index_mut.result.now c.put_into.new.block c.index_mut.ensures.value c.in_err-put_into.ensures.err))

pub returns-in_err-put_into-clause-blocks : goal.returns-in_err-put_into-clause-blocks
returns-in_err-put_into-clause-blocks c =
    subst (AreBlocks 0) (sym (same_blocks c.args.blocks.now.items c.block_of-k.result c.index_mut.result.now c.put_into.new.block c.index_mut.ensures.value c.in_err-put_into.ensures.err))
    c.requires.blocks

pub renumber-requires-clause-first : goal.renumber-requires-clause-first
renumber-requires-clause-first c = omega (
  arith,
  c.block_of-k.ensures.within,
  ap length c.as_slice.ensures.value,
  length-set c.args.blocks.now.items c.block_of-k.result c.put_into.new.block,
)

pub renumber-requires-clause-begun : goal.renumber-requires-clause-begun
renumber-requires-clause-begun c =
    let there = seen_at c.args.blocks.now.items c.as_slice.result.now c.as_slice.ensures.value c.args.at c.block_of-k.result c.block_of-k.ensures in
    let begun = there.begun c.index_mut.result.now c.index_mut.ensures.value in
    let ended = there.ended c.index_mut.result.now c.index_mut.ensures.value in
    begun_put c.args.blocks.now.items c.block_of-k.result c.before_of-before.result c.index_mut.result.now c.requires.blocks there.within c.index_mut.ensures.value
    (before_seen c.args.blocks.now.items c.as_slice-2.result.now c.as_slice-2.ensures.value c.block_of-k.result c.before_of-before.result c.before_of-before.ensures c.index_mut.result.now c.index_mut.ensures.value)
    c.put_into.new.block
    (omega (arith, ap length c.in_ok-put_into.ensures.ok, length-insert c.index_mut.result.now.places (c.args.at - c.index_mut.result.now.before) c.args.place (omega (arith, begun, ended))))

pub renumber-requires-clause-room : goal.renumber-requires-clause-room
renumber-requires-clause-room c =
    let there = seen_at c.args.blocks.now.items c.as_slice.result.now c.as_slice.ensures.value c.args.at c.block_of-k.result c.block_of-k.ensures in
    let put = put_in_blocks c.args.blocks.now.items c.args.at c.block_of-k.result c.index_mut.result.now c.requires.blocks there c.index_mut.ensures.value
    c.put_into.new.block c.args.place c.in_ok-put_into.ensures.ok in
    omega (arith, ap length put, length-insert (in_blocks c.args.blocks.now.items) c.args.at c.args.place c.requires.at, c.requires.room)

pub split_long-requires-clause-blocks : goal.split_long-requires-clause-blocks
split_long-requires-clause-blocks c = c.renumber.ensures.blocks

pub split_long-requires-clause-k : goal.split_long-requires-clause-k
split_long-requires-clause-k c = omega (
  arith,
  c.block_of-k.ensures.within,
  ap length c.as_slice.ensures.value,
  length-set c.args.blocks.now.items c.block_of-k.result c.put_into.new.block,
  c.renumber.ensures.long,
)

pub split_long-requires-clause-room : goal.split_long-requires-clause-room
split_long-requires-clause-room c =
    let there = seen_at c.args.blocks.now.items c.as_slice.result.now c.as_slice.ensures.value c.args.at c.block_of-k.result c.block_of-k.ensures in
    let put = put_in_blocks c.args.blocks.now.items c.args.at c.block_of-k.result c.index_mut.result.now c.requires.blocks there c.index_mut.ensures.value
    c.put_into.new.block c.args.place c.in_ok-put_into.ensures.ok in
    omega (arith, ap length (c.renumber.ensures.places ∙ put), length-insert (in_blocks c.args.blocks.now.items) c.args.at c.args.place c.requires.at, c.requires.room)

pub returns-clause-ok : goal.returns-clause-ok
returns-clause-ok c =
    let there = seen_at c.args.blocks.now.items c.as_slice.result.now c.as_slice.ensures.value c.args.at c.block_of-k.result c.block_of-k.ensures in
    c.split_long.ensures.places ∙ c.renumber.ensures.places
    ∙ put_in_blocks c.args.blocks.now.items c.args.at c.block_of-k.result c.index_mut.result.now c.requires.blocks there c.index_mut.ensures.value
    c.put_into.new.block c.args.place c.in_ok-put_into.ensures.ok
