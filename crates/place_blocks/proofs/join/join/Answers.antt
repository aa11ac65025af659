use Rattle.std.proofs.Common.{ap, arith, length}
use Rattle.std.proofs.lemmas.List.{length-set}
use Rattle.place_blocks.proofs.JoinLaws.{made_one_are, made_one_same}
use Rattle.place_blocks.proofs.join.join.Goals as goal

pub joined-requires-clause-k : goal.joined-requires-clause-k
joined-requires-clause-k c = omega (arith, c.requires.next, c.requires.there, ap length c.as_slice.ensures.value)

pub joined-requires-clause-next : goal.joined-requires-clause-next
joined-requires-clause-next c = omega (arith, c.requires.there, ap length c.as_slice.ensures.value)

pub index_mut-requires : goal.index_mut-requires
index_mut-requires c = omega (arith, c.requires.next, c.requires.there, c.args.blocks.now.ok.0)

pub take_block-requires : goal.take_block-requires
take_block-requires c = omega (arith, c.requires.there, length-set c.args.blocks.now.items c.args.k c.put_places.new.block)

pub returns-clause-blocks : goal.returns-clause-blocks
returns-clause-blocks c =
    made_one_are c.args.blocks.now.items c.as_slice.result.now c.take_block.new.blocks.items c.args.k c.args.next c.in_ok-both.both c.index_mut.result.now c.put_places.new.block
    c.as_slice.ensures.value c.requires.next c.requires.there c.in_ok-both.ensures c.index_mut.ensures.value c.put_places.ensures.places c.put_places.ensures.before c.take_block.ensures
    c.requires.blocks

pub returns-clause-places : goal.returns-clause-places
returns-clause-places c =
    made_one_same c.args.blocks.now.items c.as_slice.result.now c.take_block.new.blocks.items c.args.k c.args.next c.in_ok-both.both c.index_mut.result.now c.put_places.new.block
    c.as_slice.ensures.value c.requires.next c.requires.there c.in_ok-both.ensures c.index_mut.ensures.value c.put_places.ensures.places c.put_places.ensures.before c.take_block.ensures
