-- The children of each kind of value, and their ids.
use Rattle.std.specs.Prelude.{◌≡◌, ℕ, zero, suc, ◌+◌, ◌<◌, List, [], ◌∷◌, ◌++◌, length, take, slice_index_or, Result, IfOk, refl}
use Rattle.std.proofs.Common.{sym, ap, ◌∙◌, subst, add-one, arith}
use Rattle.da_values.specs.Layer.{layer, out-val_of}
use Rattle.da_values.specs.Value.{val_of, vals}
use Rattle.da_values.specs.Views.{parts_in, elements_in}
use Rattle.da_values.specs.declared.val.Val.{Val}
use Rattle.da_values.specs.declared.value.Value.{Value}
use Rattle.da_values.specs.declared.value.Value.TheVariants as kept
use Rattle.row_pool.specs.Cells.{Cells, children}
use Rattle.row_pool.specs.Pool.{AreGiven, IsGivenNext}
use Rattle.row_pool.proofs.TradeLaws.{given_none, given_next}

children_out : (v : Value) → children (val_of v) ≡ parts_in (layer v) ++ elements_in (layer v)
children_out v = ap (λ l. parts_in l ++ elements_in l) (out-val_of v)

append_nil : (xs : List Val) → xs ++ [] ≡ xs
append_nil [] = refl
append_nil (x ∷ xs) = ap (λ ys. x ∷ ys) (append_nil xs)

pub children_Tuple : (parts : List Val) → children (val_of (kept.Tuple parts)) ≡ parts
children_Tuple parts = children_out (kept.Tuple parts) ∙ append_nil parts

pub children_Set : (elements : List Val) → children (val_of (kept.Set elements)) ≡ elements
children_Set elements = children_out (kept.Set elements)

children_default : (v : Value) → ((parts : List Val) → v ≡ kept.Tuple parts → ⊥) → ((elements : List Val) → v ≡ kept.Set elements → ⊥) → children (val_of v) ≡ []
children_default (kept.Tuple parts) no_tuple no_set = absurd (no_tuple parts refl)
children_default (kept.Set elements) no_tuple no_set = absurd (no_set elements refl)
children_default (kept.Int number) no_tuple no_set = children_out (kept.Int number)
children_default (kept.Bool truth) no_tuple no_set = children_out (kept.Bool truth)
children_default (kept.Text text) no_tuple no_set = children_out (kept.Text text)
children_default (kept.Proc process) no_tuple no_set = children_out (kept.Proc process)

-- other values have none
pub no_keys : (a : Cells) (v : Value) (keys : List ℕ) → keys ≡ [] → ((parts : List Val) → v ≡ kept.Tuple parts → ⊥) → ((elements : List Val) → v ≡ kept.Set elements → ⊥) → AreGiven a a (children (val_of v)) keys
no_keys a v keys none no_tuple no_set = rw (none, children_default v no_tuple no_set) (given_none a)

module _ (a b : Cells) (xs : List Val) (v : Value) where
  pub tuple_keys : {E : Type 0} (r : Result (List ℕ) E) (parts : List Val) → v ≡ kept.Tuple parts → xs ≡ parts → IfOk r (AreGiven a b xs) → IfOk r (AreGiven a b (children (val_of v)))
  tuple_keys r parts is same = subst (λ ys. IfOk r (AreGiven a b ys)) (same ∙ sym (children_Tuple parts) ∙ ap (λ w. children (val_of w)) (sym is))

  pub set_keys : {E : Type 0} (r : Result (List ℕ) E) (elements : List Val) → v ≡ kept.Set elements → xs ≡ elements → IfOk r (AreGiven a b xs) → IfOk r (AreGiven a b (children (val_of v)))
  set_keys r elements is same = subst (λ ys. IfOk r (AreGiven a b ys)) (same ∙ sym (children_Set elements) ∙ ap (λ w. children (val_of w)) (sym is))

pub vals_take : (xs : List Value) (i : ℕ) (x : Value) → i < length xs → x ≡ slice_index_or xs i x → vals (take (suc i) xs) ≡ vals (take i xs) ++ val_of x ∷ []
vals_take [] i x inside is = absurd (omega (arith, inside))
vals_take (y ∷ ys) zero x inside is = ap (λ z. val_of z ∷ []) (sym is)
vals_take (y ∷ ys) (suc i) x inside is = ap (λ zs. val_of y ∷ zs) (vals_take ys i x (omega (arith, inside)) is)

pub one_more_key : (a b c : Cells) (xs : List Value) (i : ℕ) (ks ls : List ℕ) (x : Value) → AreGiven a b (vals (take i xs)) ks → IsGivenNext b ks c ls (val_of x) → i < length xs → x ≡ slice_index_or xs i x → AreGiven a c (vals (take (i + 1) xs)) ls
one_more_key a b c xs i ks ls x keys next inside is = rw (add-one, vals_take xs i x inside is) (given_next a b c (vals (take i xs)) ks ls (val_of x) keys next)
