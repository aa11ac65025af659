use Rattle.row_pool.proofs.ExchangeLaws.{number_with}
use Rattle.da_values.specs.Value.{val_of}
use Rattle.row_pool.proofs.pool.Pool.mark_with.Goals as goal

pub returns : goal.returns
returns c = number_with _ _ _ _ _ (val_of c.args.v.now) c.mark_at-old.result c.hash_of-hash.result c.with_hash.result c.self.view_is c.id.view_is c.self.invariant.marks c.mark_at-old.ensures c.hash_of-hash.ensures c.with_hash.ensures
