use Rattle.std.specs.Prelude.{◌≡◌, ◌∷◌, [], true}
use Rattle.std.proofs.Common.{ap, ◌∙◌}
use Rattle.std.proofs.lemmas.Result.{IfOk-weaker}
use Rattle.da_values.specs.Value.{val_of}
use Rattle.da_values.specs.Views.{elements_of}
use Rattle.row_pool.specs.Cells.{value_at}
use Rattle.row_pool.specs.Pool.{val_at}
use Rattle.row_pool.proofs.ExchangeLaws.{fresh_false, fresh_true, gives_as, with_there}
use Rattle.row_pool.proofs.TradeLaws.{trades_none}
use Rattle.row_pool.proofs.pool.Pool.joined.Goals as goal

pub returns-in-Ok-clause-value : goal.returns-in-Ok-clause-value
returns-in-Ok-clause-value c = ap (value_at c.args.self.now) (c.unchanged.ensures.id ∙ c.same.ensures) ∙ with_there c.args.self.now c.args.id.now _ (val_of c.args.v.now) c.requires c.in-Ok.ensures.found

pub returns-in-Ok-clause-fresh : goal.returns-in-Ok-clause-fresh
returns-in-Ok-clause-fresh c = fresh_false (elements_of (val_at c.args.self.now c.args.id.now)) (val_of c.args.v.now) c.unchanged.result.moved c.unchanged.ensures.moved c.in-Ok.ensures.found.there

pub returns-in-Ok-clause-ok : goal.returns-in-Ok-clause-ok
returns-in-Ok-clause-ok c = gives_as c.args.self.now c.args.self.now (c.args.id.now ∷ []) c.unchanged.result.id c.args.id.now (c.unchanged.ensures.id ∙ c.same.ensures) (trades_none c.args.self.now (c.args.id.now ∷ []))

pub returns-in-Err-clause-fresh : goal.returns-in-Err-clause-fresh
returns-in-Err-clause-fresh c =
    IfOk-weaker c.put_in.result (λ to. to.moved ≡ true) _ (λ to moved. fresh_true (elements_of (val_at c.args.self.now c.args.id.now)) (val_of c.args.v.now) to.moved moved c.in-Err.ensures.found.absent) c.put_in.ensures.moved
