use Rattle.std.proofs.Common.{add-one, drop-cons, subst}
use Rattle.row_pool.specs.Pool.{Trades}
use Rattle.row_pool.proofs.TradeLaws.{then_one_less}
use Rattle.row_pool.proofs.pool.Pool.give_back_each.Goals as goal

pub loop-key-preserved : goal.loop-key-preserved
loop-key-preserved c = then_one_less _ _ _ _ _ _ (subst (λ l. Trades c.args.self.now c.args.keys.now c.loop-key.self l) (rw add-one (drop-cons c.args.keys.now c.loop-key.key-index 0 c.loop-key-test.true)) c.loop-key.invariant) c.give_back.ensures
