use Rattle.std.specs.Prelude.{◌≡◌, Some}
use Rattle.std.proofs.Common.{ap, ◌∙◌}
use Rattle.std.proofs.lemmas.Result.{IfOk-weaker}
use Rattle.da_values.specs.Value.{val_of}
use Rattle.da_values.specs.declared.val.Val.TheVariants as val
use Rattle.row_pool.specs.Cells.{value_at}
use Rattle.row_pool.specs.Sets.{set_without}
use Rattle.row_pool.proofs.pool.Pool.copy_without.Goals as goal

pub returns-clause-value : goal.returns-clause-value
returns-clause-value c =
    IfOk-weaker c.in_place_of.result (λ to. value_at c.in_place_of.new.self to.id ≡ Some (val.Set c.in_ok-set.set)) (λ to. value_at c.in_place_of.new.self to.id ≡ Some (set_without c.args.self.now c.args.id.now (val_of c.args.v.now)))
    (λ to is. is ∙ ap Some (ap val.Set c.in_ok-set.ensures)) c.in_place_of.ensures.value
