-- How many values there are: as many as the set of those that are held.
use Rattle.std.specs.Prelude.{◌≡◌, ℕ, zero, suc, length, List, [], ◌∷◌, Option, Some, None, refl}
use Rattle.std.proofs.Common.{sym, ap, ◌∙◌, subst, inl, inr, arith}
use Rattle.da_values.specs.Order.{val_cmp}
use Rattle.da_values.specs.OrderLaws.{val_order, same_from_val_cmp}
use Rattle.da_values.specs.Sets.{Distinct, Has}
use Rattle.da_values.specs.Value.{val_of}
use Rattle.da_values.specs.declared.val.Val.{Val}
use Rattle.da_values.proofs.SetLaws.{length_of_listing}
use Rattle.row_pool.specs.Cells.{Cells, value_at, live_in, IsPool}
use Rattle.row_pool.specs.InUse.{AreHeld}
use Rattle.row_pool.proofs.CellLaws.{alive, alive_is}
use Rattle.row_pool.proofs.UseLaws.{all_held, all_used, one_id}

-- the values, by rising id
values_in : Cells → List Val
values_in [] = []
values_in (None ∷ cs) = values_in cs
values_in (Some c ∷ cs) = val_of c.value ∷ values_in cs

as_many : (s : Cells) → length (values_in s) ≡ alive s
unfolding values_in alive
as_many [] = refl
as_many (None ∷ cs) = as_many cs
as_many (Some c ∷ cs) = omega (arith, as_many cs)

has_from_id : (s : Cells) (k : ℕ) (x : Val) → value_at s k ≡ Some x → Has (values_in s) x
unfolding values_in
has_from_id [] k x is = absurd (cc is)
has_from_id (None ∷ cs) zero x is = absurd (cc is)
has_from_id (Some c ∷ cs) zero x is = let same : val_of c.value ≡ x = cc is in inl (sym same)
has_from_id (None ∷ cs) (suc k) x is = has_from_id cs k x is
has_from_id (Some c ∷ cs) (suc k) x is = inr (has_from_id cs k x is)

id_from_has : (s : Cells) (x : Val) → Has (values_in s) x → (k : ℕ) × (value_at s k ≡ Some x)
unfolding values_in
id_from_has [] x has = absurd has
id_from_has (None ∷ cs) x has = let (k, at) = id_from_has cs x has in (suc k, at)
id_from_has (Some c ∷ cs) x (inl e) = (zero, ap Some (sym e))
id_from_has (Some c ∷ cs) x (inr h) = let (k, at) = id_from_has cs x h in (suc k, at)

distinct : (s : Cells) → ((j k : ℕ) (x : Val) → value_at s j ≡ Some x → value_at s k ≡ Some x → j ≡ k) → Distinct (values_in s)
unfolding values_in
distinct [] one = tt
distinct (None ∷ cs) one = distinct cs (λ j k x p q. omega (arith, one (suc j) (suc k) x p q))
distinct (Some c ∷ cs) one = (
  λ h. let (k, at) = id_from_has cs (val_of c.value) h in absurd (omega (arith, one zero (suc k) (val_of c.value) refl at)),
  distinct cs (λ j k x p q. omega (arith, one (suc j) (suc k) x p q)),
)

module _ (find : Val → Option ℕ) (s : Cells) (pool : IsPool find s) (set : List Val) (held : AreHeld s set) where
  to_set : (x : Val) → Has (values_in s) x → Has set x
  to_set x has = let (k, at) = id_from_has s x has in held.all x (all_held find s pool k x at)

  from_set : (x : Val) → Has set x → Has (values_in s) x
  from_set x has = let (k, at) = all_used find s pool x (held.only x has) in has_from_id s k x at

  as_many_as_held : live_in s ≡ length set
  as_many_as_held = sym (alive_is s) ∙ sym (as_many s) ∙ length_of_listing val_cmp val_order same_from_val_cmp (values_in s) set (distinct s (one_id find s pool.agrees)) held.ascends (λ x. (to_set x, from_set x))

pub number_live : (find : Val → Option ℕ) (s now : Cells) (n : ℕ) → s ≡ now → IsPool find s → n ≡ live_in s → (set : List Val) → AreHeld now set → n ≡ length set
number_live find s now n same pool count set held = count ∙ as_many_as_held find s pool set (subst (λ a. AreHeld a set) (sym same) held)
