use Rattle.std.proofs.Common.{ap, arith, length}
use Rattle.place_blocks.proofs.EditLaws.{length_there}
use Rattle.place_blocks.proofs.join.split_long.Goals as goal

pub length_of-long-requires : goal.length_of-long-requires
length_of-long-requires c = omega (arith, c.requires.k, ap length c.as_slice.ensures.value)

pub overflow_sub-behind : goal.overflow_sub-behind
overflow_sub-behind c = omega (arith, c.requires.k, c.len.ensures, c.args.blocks.now.ok.0)

pub lower_share-lower-requires : goal.lower_share-lower-requires
lower_share-lower-requires c = omega (arith, c.if-long-lt-MOST.false)

pub split-requires-clause-lower : goal.split-requires-clause-lower
split-requires-clause-lower c = c.lower_share-lower.ensures.some

pub split-requires-clause-upper : goal.split-requires-clause-upper
split-requires-clause-upper c other = omega (
  arith,
  c.lower_share-lower.ensures.less,
  length_there c.args.blocks.now.items c.as_slice.result.now c.as_slice.ensures.value c.args.k c.length_of-long.result c.length_of-long.ensures other,
)
