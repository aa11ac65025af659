use Rattle.std.proofs.Common.{arith}
use Rattle.place_blocks.proofs.NumberedLaws.{counted_more, counted_same}
use Rattle.place_blocks.proofs.edit.insert_place.Goals as goal

pub put_place-requires-clause-blocks : goal.put_place-requires-clause-blocks
put_place-requires-clause-blocks c = c.requires.counted.blocks_are

pub put_place-requires-clause-room : goal.put_place-requires-clause-room
put_place-requires-clause-room c = omega (arith, c.in_ok-more.ensures.room, c.requires.counted.whole)

pub returns-in_err-put_place-clause-counted : goal.returns-in_err-put_place-clause-counted
returns-in_err-put_place-clause-counted c =
    counted_same c.args.count.now c.args.blocks.now.items c.put_place.new.blocks.items c.requires.counted c.put_place.ensures.blocks c.in_err-put_place.ensures.err

pub returns-clause-counted : goal.returns-clause-counted
returns-clause-counted c =
    counted_more c.args.count.now c.args.blocks.now.items c.put_place.new.blocks.items c.requires.counted c.put_place.ensures.blocks
    c.in_ok-more.more c.args.at c.args.place c.requires.at c.in_ok-more.ensures.more c.in_ok-more.ensures.room c.in_ok-put_place.ensures.ok
