use Rattle.std.specs.Prelude.{◌≡◌, ℕ, ◌∷◌, [], MatchBool, Some}
use Rattle.std.specs.Option.{option_copied}
use Rattle.std.proofs.Common.{ap, sym, ◌∙◌, subst}
use Rattle.std.proofs.lemmas.Result.{IfOk-weaker}
use Rattle.da_values.specs.Order.{val_cmp}
use Rattle.da_values.specs.Sets.{Ascends, Has, set_remove}
use Rattle.da_values.specs.Value.{val_of}
use Rattle.da_values.specs.Views.{elements_of}
use Rattle.da_values.specs.declared.val.Val.{Val}
use Rattle.da_values.specs.declared.val.Val.TheVariants as val
use Rattle.da_lang.specs.World.{at_number, value_in}
use Rattle.row_pool.specs.Cells.{value_at}
use Rattle.row_pool.specs.Pool.{Trades, val_at}
use Rattle.answer_index.specs.Rows.{row_of}
use Rattle.delta_rules.proofs.ElementIds.{on_any, one_held, same_id, slot_value}
use Rattle.delta_rules.proofs.slots.parted.Goals as goal

pub without_element-requires : goal.without_element-requires
without_element-requires c = one_held c.args.pool.now c.args.slots.now.ids c.args.s c.in-Some.id.now c.requires (sym c.held_id.ensures ∙ ap option_copied c.in-Some.is)

pub returns-in-Some-clause-value : goal.returns-in-Some-clause-value
returns-in-Some-clause-value c =
    let read = slot_value c.args.pool.now c.args.slots.now.ids c.args.s c.in-Some.id.now (sym c.held_id.ensures ∙ ap option_copied c.in-Some.is) in
    IfOk-weaker c.without_element.result (λ to. value_at c.without_element.new.self to.id ≡ Some (val.Set (set_remove val_cmp (elements_of (val_at c.args.pool.now c.in-Some.id.now)) (val_of c.args.v.now))))
    (λ to. value_at c.without_element.new.self to.id ≡ Some (val.Set (set_remove val_cmp (elements_of (value_in (row_of c.args.pool.now c.args.slots.now.ids) c.args.s)) (val_of c.args.v.now))))
    (λ to is. is ∙ ap (λ (y : Val). Some (val.Set (set_remove val_cmp (elements_of y) (val_of c.args.v.now)))) read) c.without_element.ensures.value

pub returns-in-Some-clause-there : goal.returns-in-Some-clause-there
returns-in-Some-clause-there c =
    let read = slot_value c.args.pool.now c.args.slots.now.ids c.args.s c.in-Some.id.now (sym c.held_id.ensures ∙ ap option_copied c.in-Some.is) in
    IfOk-weaker c.without_element.result (λ to. MatchBool to.moved (Has (elements_of (val_at c.args.pool.now c.in-Some.id.now)) (val_of c.args.v.now)) (Has (elements_of (val_at c.args.pool.now c.in-Some.id.now)) (val_of c.args.v.now) → ⊥))
    (λ to. MatchBool to.moved (Has (elements_of (value_in (row_of c.args.pool.now c.args.slots.now.ids) c.args.s)) (val_of c.args.v.now)) (Has (elements_of (value_in (row_of c.args.pool.now c.args.slots.now.ids) c.args.s)) (val_of c.args.v.now) → ⊥))
    (λ to test. subst (λ (y : Val). MatchBool to.moved (Has (elements_of y) (val_of c.args.v.now)) (Has (elements_of y) (val_of c.args.v.now) → ⊥)) read test) c.without_element.ensures.there

pub returns-in-Some-clause-trades : goal.returns-in-Some-clause-trades
returns-in-Some-clause-trades c =
    IfOk-weaker c.without_element.result (λ to. Trades c.args.pool.now (c.in-Some.id.now ∷ []) c.without_element.new.self (to.id ∷ []))
    (λ to. (id : ℕ) → at_number c.args.slots.now.ids c.args.s ≡ Some id → Trades c.args.pool.now (id ∷ []) c.without_element.new.self (to.id ∷ []))
    (λ to trades id at. same_id c.args.pool.now c.without_element.new.self c.args.slots.now.ids c.args.s c.in-Some.id.now id to.id (sym c.held_id.ensures ∙ ap option_copied c.in-Some.is) at trades) c.without_element.ensures.ok

pub returns-in-Some-clause-ascends : goal.returns-in-Some-clause-ascends
returns-in-Some-clause-ascends c =
    let read = slot_value c.args.pool.now c.args.slots.now.ids c.args.s c.in-Some.id.now (sym c.held_id.ensures ∙ ap option_copied c.in-Some.is) in
    on_any c.without_element.result (Ascends val_cmp (elements_of (value_in (row_of c.args.pool.now c.args.slots.now.ids) c.args.s)))
    (subst (λ (y : Val). Ascends val_cmp (elements_of y)) read c.without_element.ensures.ascends)
