use Rattle.std.proofs.Common.{drop}
use Rattle.row_pool.specs.Pool.{Trades}
use Rattle.row_pool.proofs.pool.Pool.give_back_each.Given as goal

abbrev pub invariant-loop-key : goal.invariant-loop-key
invariant-loop-key l = Trades l.fn.self l.keys l.self (drop l.key-index l.keys)
