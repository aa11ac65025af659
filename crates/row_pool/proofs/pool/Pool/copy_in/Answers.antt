use Rattle.std.specs.Prelude.{◌≡◌, ◌∷◌, [], Some}
use Rattle.std.proofs.Common.{ap, ◌∙◌}
use Rattle.std.proofs.lemmas.Result.{IfOk-weaker}
use Rattle.da_values.specs.Value.{val_of}
use Rattle.row_pool.specs.Cells.{value_at}
use Rattle.row_pool.specs.Pool.{Trades}
use Rattle.row_pool.specs.Sets.{set_with}
use Rattle.row_pool.proofs.ExchangeLaws.{holds_left, holds_second, names_beside, set_with_same, then_other}
use Rattle.row_pool.proofs.TradeLaws.{on_err, then_trades}
use Rattle.row_pool.proofs.pool.Pool.copy_in.Goals as goal

pub give_back-requires : goal.give_back-requires
give_back-requires c = holds_second _ c.args.id.now c.args.element c.requires

pub copy_with-requires : goal.copy_with-requires
copy_with-requires c = holds_left _ _ c.args.id.now c.args.element c.requires c.give_back.ensures

pub returns-clause-value : goal.returns-clause-value
returns-clause-value c =
    IfOk-weaker c.copy_with.result (λ to. value_at c.copy_with.new.self to.id ≡ Some (set_with c.give_back.new.self c.args.id.now (val_of c.args.v.now)))
    (λ to. value_at c.copy_with.new.self to.id ≡ Some (set_with c.args.self.now c.args.id.now (val_of c.args.v.now)))
    (λ to is. is ∙ ap Some (set_with_same _ _ c.args.id.now (val_of c.args.v.now) (names_beside _ _ c.args.id.now c.args.element c.give_back.ensures c.requires))) c.copy_with.ensures.value

pub returns-clause-ok : goal.returns-clause-ok
returns-clause-ok c =
    IfOk-weaker c.copy_with.result (λ to. Trades c.give_back.new.self (c.args.id.now ∷ []) c.copy_with.new.self (to.id ∷ []))
    (λ to. Trades c.args.self.now (c.args.id.now ∷ c.args.element ∷ []) c.copy_with.new.self (to.id ∷ []))
    (λ to trades. then_other c.args.self.now c.give_back.new.self c.copy_with.new.self c.args.id.now c.args.element (to.id ∷ []) c.give_back.ensures trades) c.copy_with.ensures.ok

pub returns-clause-err : goal.returns-clause-err
returns-clause-err c =
    on_err c.copy_with.result (Trades c.give_back.new.self [] c.copy_with.new.self []) (Trades c.args.self.now (c.args.element ∷ []) c.copy_with.new.self [])
    (λ trades. then_trades _ _ _ _ _ _ c.give_back.ensures trades) c.copy_with.ensures.err
