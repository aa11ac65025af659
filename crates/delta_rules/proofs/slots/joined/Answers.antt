use Rattle.std.specs.Prelude.{◌≡◌, ℕ, ◌∷◌, [], MatchBool, Some}
use Rattle.std.specs.Option.{option_copied}
use Rattle.std.proofs.Common.{ap, sym, ◌∙◌, subst}
use Rattle.std.proofs.lemmas.Result.{IfOk-weaker}
use Rattle.da_values.specs.Order.{val_cmp}
use Rattle.da_values.specs.Sets.{Has, set_insert}
use Rattle.da_values.specs.Value.{val_of}
use Rattle.da_values.specs.Views.{elements_of}
use Rattle.da_values.specs.declared.val.Val.{Val}
use Rattle.da_values.specs.declared.val.Val.TheVariants as val
use Rattle.da_lang.specs.World.{at_number, value_in}
use Rattle.row_pool.specs.Cells.{value_at}
use Rattle.row_pool.specs.Pool.{Trades, val_at}
use Rattle.answer_index.specs.Rows.{row_of}
use Rattle.delta_rules.proofs.ElementIds.{one_held, same_id, slot_value}
use Rattle.delta_rules.proofs.slots.joined.Goals as goal

pub with_element-requires : goal.with_element-requires
with_element-requires c = one_held c.args.pool.now c.args.slots.now.ids c.args.s c.in-Some.id.now c.requires (sym c.held_id.ensures ∙ ap option_copied c.in-Some.is)

pub returns-in-Some-clause-value : goal.returns-in-Some-clause-value
returns-in-Some-clause-value c =
    let read = slot_value c.args.pool.now c.args.slots.now.ids c.args.s c.in-Some.id.now (sym c.held_id.ensures ∙ ap option_copied c.in-Some.is) in
    IfOk-weaker c.with_element.result (λ to. value_at c.with_element.new.self to.id ≡ Some (val.Set (set_insert val_cmp (elements_of (val_at c.args.pool.now c.in-Some.id.now)) (val_of c.args.v.now))))
    (λ to. value_at c.with_element.new.self to.id ≡ Some (val.Set (set_insert val_cmp (elements_of (value_in (row_of c.args.pool.now c.args.slots.now.ids) c.args.s)) (val_of c.args.v.now))))
    (λ to is. is ∙ ap (λ (y : Val). Some (val.Set (set_insert val_cmp (elements_of y) (val_of c.args.v.now)))) read) c.with_element.ensures.value

pub returns-in-Some-clause-fresh : goal.returns-in-Some-clause-fresh
returns-in-Some-clause-fresh c =
    let read = slot_value c.args.pool.now c.args.slots.now.ids c.args.s c.in-Some.id.now (sym c.held_id.ensures ∙ ap option_copied c.in-Some.is) in
    IfOk-weaker c.with_element.result (λ to. MatchBool to.moved (Has (elements_of (val_at c.args.pool.now c.in-Some.id.now)) (val_of c.args.v.now) → ⊥) (Has (elements_of (val_at c.args.pool.now c.in-Some.id.now)) (val_of c.args.v.now)))
    (λ to. MatchBool to.moved (Has (elements_of (value_in (row_of c.args.pool.now c.args.slots.now.ids) c.args.s)) (val_of c.args.v.now) → ⊥) (Has (elements_of (value_in (row_of c.args.pool.now c.args.slots.now.ids) c.args.s)) (val_of c.args.v.now)))
    (λ to test. subst (λ (y : Val). MatchBool to.moved (Has (elements_of y) (val_of c.args.v.now) → ⊥) (Has (elements_of y) (val_of c.args.v.now))) read test) c.with_element.ensures.fresh

pub returns-in-Some-clause-trades : goal.returns-in-Some-clause-trades
returns-in-Some-clause-trades c =
    IfOk-weaker c.with_element.result (λ to. Trades c.args.pool.now (c.in-Some.id.now ∷ []) c.with_element.new.self (to.id ∷ []))
    (λ to. (id : ℕ) → at_number c.args.slots.now.ids c.args.s ≡ Some id → Trades c.args.pool.now (id ∷ []) c.with_element.new.self (to.id ∷ []))
    (λ to trades id at. same_id c.args.pool.now c.with_element.new.self c.args.slots.now.ids c.args.s c.in-Some.id.now id to.id (sym c.held_id.ensures ∙ ap option_copied c.in-Some.is) at trades) c.with_element.ensures.ok
