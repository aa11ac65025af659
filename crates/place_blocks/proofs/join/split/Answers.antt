use Rattle.std.specs.Prelude.{◌+◌, suc, ◌≡◌, length}
use Rattle.std.proofs.Common.{ap, arith, subst, sym}
use Rattle.std.proofs.lemmas.List.Edits.{length-insert}
use Rattle.place_blocks.specs.Blocks.{AreBlocks, in_blocks}
use Rattle.place_blocks.proofs.BlockLaws.{many_blocks}
use Rattle.place_blocks.proofs.EditLaws.{places_there}
use Rattle.place_blocks.proofs.JoinLaws.{parted_are, parted_same, room_there}
use Rattle.place_blocks.proofs.join.split.Goals as goal

pub overflow_add-next : goal.overflow_add-next
overflow_add-next c = omega (arith, c.requires.k, many_blocks c.args.blocks.now.items 0 c.requires.blocks, c.requires.room)

pub upper_block-requires-clause-k : goal.upper_block-requires-clause-k
upper_block-requires-clause-k c = omega (arith, c.requires.k, ap length c.as_slice.ensures.value)

pub upper_block-requires-clause-lower : goal.upper_block-requires-clause-lower
upper_block-requires-clause-lower c other =
    omega (arith, c.requires.upper other, ap length (places_there c.args.blocks.now.items c.as_slice.result.now c.as_slice.ensures.value c.args.k other))

pub upper_block-requires-clause-room : goal.upper_block-requires-clause-room
upper_block-requires-clause-room c other = omega (
  arith,
  room_there c.args.blocks.now.items c.as_slice.result.now c.args.k c.args.lower c.as_slice.ensures.value c.requires.blocks c.requires.k c.requires.upper other,
  c.requires.room,
)

pub put_block-requires : goal.put_block-requires
put_block-requires c = omega (arith, c.requires.k)

pub index_mut-requires : goal.index_mut-requires
index_mut-requires c = omega (
  arith,
  c.requires.k,
  ap length c.in_ok-put_block.ensures.ok,
  length-insert c.args.blocks.now.items (c.args.k + 1) c.in_ok-upper.upper (omega (arith, c.requires.k)),
  c.put_block.new.blocks.ok.0,
)

pub returns-in_err-put_block-clause-blocks : goal.returns-in_err-put_block-clause-blocks
returns-in_err-put_block-clause-blocks c = subst (AreBlocks 0) (sym c.in_err-put_block.ensures.err) c.requires.blocks

pub returns-in_err-put_block-clause-places : goal.returns-in_err-put_block-clause-places
returns-in_err-put_block-clause-places c = ap in_blocks c.in_err-put_block.ensures.err

pub returns-clause-blocks : goal.returns-clause-blocks
returns-clause-blocks c =
    let next : c.args.k + 1 ≡ suc c.args.k = omega arith in
    parted_are c.args.blocks.now.items c.as_slice.result.now c.args.k c.args.lower c.as_slice.ensures.value c.requires.blocks c.requires.k c.requires.upper
    c.put_block.new.blocks.items (c.args.k + 1) c.in_ok-upper.upper c.index_mut.result.now c.cut_off.new.block c.requires.lower next c.in_ok-upper.ensures.before
    c.in_ok-upper.ensures.places c.in_ok-put_block.ensures.ok c.index_mut.ensures.value c.cut_off.ensures.places c.cut_off.ensures.before

pub returns-clause-places : goal.returns-clause-places
returns-clause-places c =
    let next : c.args.k + 1 ≡ suc c.args.k = omega arith in
    parted_same c.args.blocks.now.items c.as_slice.result.now c.args.k c.args.lower c.as_slice.ensures.value c.requires.blocks c.requires.k c.requires.upper
    c.put_block.new.blocks.items (c.args.k + 1) c.in_ok-upper.upper c.index_mut.result.now c.cut_off.new.block c.requires.lower next c.in_ok-upper.ensures.before
    c.in_ok-upper.ensures.places c.in_ok-put_block.ensures.ok c.index_mut.ensures.value c.cut_off.ensures.places c.cut_off.ensures.before
