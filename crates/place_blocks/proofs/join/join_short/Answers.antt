use Rattle.std.proofs.Common.{arith}
use Rattle.place_blocks.proofs.join.join_short.Goals as goal

pub join_with-requires-clause-next : goal.join_with-requires-clause-next
join_with-requires-clause-next c = omega (arith, c.in-Some.ensures.0, c.in-Some.ensures.1)
