use Rattle.std.proofs.Common.{List, ap, ◌∙◌}
use Rattle.da_values.specs.Order.{val_cmp}
use Rattle.da_values.specs.Sets.{set_remove}
use Rattle.da_values.specs.Value.{val_of}
use Rattle.da_values.specs.declared.val.Val.{Val}
use Rattle.row_pool.proofs.pool.Pool.set_without_value.Goals as goal

pub returns : goal.returns
returns c = c.set_remove.ensures.set ∙ ap (λ (xs : List Val). set_remove val_cmp xs (val_of c.args.v.now)) c.in_ok-set.ensures
