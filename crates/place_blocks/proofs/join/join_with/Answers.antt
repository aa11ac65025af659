use Rattle.std.proofs.Common.{ap, arith, length}
use Rattle.place_blocks.proofs.join.join_with.Goals as goal

pub are_short-requires : goal.are_short-requires
are_short-requires c = omega (arith, c.requires.next)

pub join-requires-clause-there : goal.join-requires-clause-there
join-requires-clause-there c = omega (arith, c.are_short.ensures c.if-are_short.true, ap length c.as_slice.ensures.value)
