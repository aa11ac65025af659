use Rattle.row_pool.specs.Pool.{IsUnchanged}
use Rattle.row_pool.proofs.TradeLaws.{on_err, unchanged}
use Rattle.row_pool.proofs.pool.Pool.without_element.Goals as goal

pub returns-clause-err : goal.returns-clause-err
returns-clause-err c = on_err c.parted-outcome.result _ (IsUnchanged c.args.self.now c.parted-outcome.new.self) (λ trades. unchanged _ _ _ _ _ _ c.self.view_is c.self-2.view_is c.self.invariant.pool c.self-2.invariant.pool trades) c.parted-outcome.ensures.err
