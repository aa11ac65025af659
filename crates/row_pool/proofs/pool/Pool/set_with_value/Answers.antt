use Rattle.std.proofs.Common.{List, ap, ◌∙◌}
use Rattle.da_values.specs.Order.{val_cmp}
use Rattle.da_values.specs.Sets.{set_insert}
use Rattle.da_values.specs.Value.{val_of}
use Rattle.da_values.specs.Views.{elements_of}
use Rattle.da_values.specs.declared.val.Val.{Val}
use Rattle.da_values.specs.declared.value.Value.{Value}
use Rattle.row_pool.specs.Pool.{val_at}
use Rattle.row_pool.proofs.pool.Pool.set_with_value.Goals as goal

pub returns : goal.returns
returns c =
    c.in_ok-set_insert.ensures.ok ∙ ap (λ (xs : List Val). set_insert val_cmp xs (val_of c.in_ok-element.element)) c.in_ok-set.ensures
    ∙ ap (λ (w : Value). set_insert val_cmp (elements_of (val_at c.args.self.now c.args.id.now)) (val_of w)) c.in_ok-element.ensures
