use Rattle.std.specs.Prelude.{◌≡◌, ◌∷◌, [], Some}
use Rattle.std.proofs.Common.{ap, sym, ◌∙◌, subst}
use Rattle.std.proofs.lemmas.Result.{IfOk-weaker}
use Rattle.da_values.specs.Order.{val_cmp}
use Rattle.da_values.specs.Places.{IsBetween}
use Rattle.da_values.specs.Value.{val_of}
use Rattle.da_values.specs.Views.{elements_of}
use Rattle.da_values.specs.declared.val.Val.{Val}
use Rattle.row_pool.specs.Cells.{value_at}
use Rattle.row_pool.specs.Pool.{Trades}
use Rattle.row_pool.specs.Sets.{set_with}
use Rattle.row_pool.proofs.ExchangeLaws.{holds_both, set_with_same, still_names, then_all}
use Rattle.row_pool.proofs.TradeLaws.{on_err, then_trades}
use Rattle.row_pool.proofs.pool.Pool.put_in.Goals as goal

pub put_element-requires-clause-held : goal.put_element-requires-clause-held
put_element-requires-clause-held c = holds_both _ _ c.args.id.now c.in_ok-element.element c.in_ok-element.ensures.ok c.requires.held

pub put_element-requires-clause-between : goal.put_element-requires-clause-between
put_element-requires-clause-between c = subst (λ (y : Val). IsBetween val_cmp (elements_of y) (val_of c.args.v.now) c.args.at) (sym (still_names _ _ c.args.id.now _ c.in_ok-element.ensures.ok c.requires.held)) c.requires.between

pub returns-clause-value : goal.returns-clause-value
returns-clause-value c =
    IfOk-weaker c.put_element.result (λ to. value_at c.put_element.new.self to.id ≡ Some (set_with c.intern_value.new.self c.args.id.now (val_of c.args.v.now)))
    (λ to. value_at c.put_element.new.self to.id ≡ Some (set_with c.args.self.now c.args.id.now (val_of c.args.v.now)))
    (λ to is. is ∙ ap Some (set_with_same _ _ c.args.id.now (val_of c.args.v.now) (still_names _ _ c.args.id.now _ c.in_ok-element.ensures.ok c.requires.held))) c.put_element.ensures.value

pub returns-clause-ok : goal.returns-clause-ok
returns-clause-ok c =
    IfOk-weaker c.put_element.result (λ to. Trades c.intern_value.new.self (c.args.id.now ∷ c.in_ok-element.element ∷ []) c.put_element.new.self (to.id ∷ []))
    (λ to. Trades c.args.self.now (c.args.id.now ∷ []) c.put_element.new.self (to.id ∷ []))
    (λ to trades. then_all c.args.self.now c.intern_value.new.self c.put_element.new.self (c.args.id.now ∷ []) (c.in_ok-element.element ∷ []) (to.id ∷ []) c.in_ok-element.ensures.ok trades) c.put_element.ensures.ok

pub returns-clause-err : goal.returns-clause-err
returns-clause-err c =
    on_err c.put_element.result (Trades c.intern_value.new.self (c.in_ok-element.element ∷ []) c.put_element.new.self []) (Trades c.args.self.now [] c.put_element.new.self [])
    (λ trades. then_trades _ _ _ _ _ _ c.in_ok-element.ensures.ok trades) c.put_element.ensures.err
