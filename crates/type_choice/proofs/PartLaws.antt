-- What is so of a number because it is so of those that it is made of.
use Rattle.std.specs.Prelude.{◌≡◌, ℕ, zero, suc, ◌<◌, ◌≤◌, List, [], ◌∷◌, map, length, Some, slice_get}
use Rattle.std.specs.List.{AllByRecursion}
use Rattle.std.proofs.Common.{◌∙◌, ap, subst, arith}
use Rattle.da_values.specs.Nesting.{deepest}
use Rattle.da_lang.specs.Types.{levels}
use Rattle.da_lang.proofs.typing.TypesAt.{levels-Tuple, levels-Set}
use Rattle.type_table.specs.declared.form.Form.{Form}
use Rattle.type_table.specs.declared.form.Form.TheVariants as f
use Rattle.type_table.specs.Fits.{Meaning, Fits, IsTable}
use Rattle.type_table.proofs.TableLaws.{get_inside}
use Rattle.type_choice.specs.Order.{needs}
use Rattle.type_choice.proofs.ListLaws.{there}

-- where some types fit: each number is made of such of fewer levels, or is the same as a smaller one
module _ (forms : List Form) (table : IsTable forms) (m : Meaning) (fits : Fits m forms) (P : ℕ → Type 0) (step : (k : ℕ) (form : Form) → slice_get forms k ≡ Some form → AllByRecursion P (needs form) → P k) where
  abbrev Below : ℕ → Type 0
  Below level = (j : ℕ) → j < length forms → levels (m j) < level → P j

  parts_hold : (level : ℕ) → Below level → (ks : List ℕ) → AllByRecursion (λ k. k < length forms) ks → deepest (map levels (map m ks)) < level → AllByRecursion P ks
  parts_hold level below [] within few = tt
  parts_hold level below (k ∷ ks) within few = (below k within.0 (omega (arith, few)), parts_hold level below ks within.1 (omega (arith, few)))

  at_form : (level k : ℕ) → Below level → ((j : ℕ) → j < k → j < length forms → levels (m j) ≤ level → P j) → (form : Form) → slice_get forms k ≡ Some form → levels (m k) ≤ level → AllByRecursion P (needs form)
  at_form level k below before f.Open e low = tt
  at_form level k below before (f.Same j) e low =
      let down : j < k = table k (f.Same j) e in
      (before j down (omega (arith, down, get_inside forms k (f.Same j) e)) (subst (λ z. levels z ≤ level) (fits k (f.Same j) e) low), tt)
  at_form level k below before f.Int e low = tt
  at_form level k below before f.Bool e low = tt
  at_form level k below before f.Text e low = tt
  at_form level k below before f.Proc e low = tt
  at_form level k below before (f.Tuple ks) e low =
      let size : levels (m k) ≡ suc (deepest (map levels (map m ks))) = ap levels (fits k (f.Tuple ks) e) ∙ levels-Tuple (map m ks) in
      parts_hold level below ks (table k (f.Tuple ks) e) (omega (arith, low, size))
  at_form level k below before (f.Set j) e low =
      let size : levels (m k) ≡ suc (levels (m j)) = ap levels (fits k (f.Set j) e) ∙ levels-Set (m j) in
      (below j (table k (f.Set j) e) (omega (arith, low, size)), tt)

  by_number : (level : ℕ) → Below level → (bound k : ℕ) → k < bound → k < length forms → levels (m k) ≤ level → P k
  by_number level below zero k few inside low = absurd (omega (arith, few))
  by_number level below (suc bound) k few inside low =
      let (form, at) = there forms k inside in
      step k form at (at_form level k below (λ j down. by_number level below bound j (omega (arith, down, few))) form at low)

  by_level : (level : ℕ) → Below level
  by_level zero j inside low = absurd (omega (arith, low))
  by_level (suc level) j inside low = by_number level (by_level level) (suc j) j (omega arith) inside (omega (arith, low))

  pub each_holds : (k : ℕ) → k < length forms → P k
  each_holds k inside = by_level (suc (levels (m k))) k inside (omega arith)
