use Rattle.std.proofs.Common.{rules}
use Rattle.place_blocks.proofs.NumberedLaws.{numbered_all, numbered_more, numbered_room, numbered_start}
use Rattle.place_blocks.proofs.edit.renumber.Goals as goal

pub loop-k-init : goal.loop-k-init
loop-k-init c = numbered_start c.args.blocks.now.items c.args.first c.args.before c.requires.begun

pub number_block-next-requires : goal.number_block-next-requires
number_block-next-requires c =
    numbered_room c.args.blocks.now.items c.loop-k.blocks.items c.loop-k.k c.loop-k.next c.loop-k.invariant _ (search rules) c.index_mut.ensures.value c.requires.room

pub loop-k-preserved : goal.loop-k-preserved
loop-k-preserved c =
    numbered_more c.args.blocks.now.items c.loop-k.blocks.items c.loop-k.k c.loop-k.next c.loop-k.invariant _ _ _ (search rules) c.index_mut.ensures.value
    c.number_block-next.ensures.before c.number_block-next.ensures.places c.number_block-next.ensures.next

pub returns-clause-blocks : goal.returns-clause-blocks
returns-clause-blocks c = numbered_all c.args.blocks.now.items c.loop-k.blocks.items c.loop-k.k c.loop-k.next c.loop-k.invariant (search rules)

pub returns-clause-places : goal.returns-clause-places
returns-clause-places c = c.loop-k.invariant.same

pub returns-clause-long : goal.returns-clause-long
returns-clause-long c = c.loop-k.invariant.long
