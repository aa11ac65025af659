-- Types for the first numbers are types for the demands.
use Rattle.std.specs.Prelude.{◌≡◌, refl, ℕ, suc, ◌<◌, List, [], ◌∷◌, length, Option, Some, MatchOption, slice_get, unwrap_or}
use Rattle.std.specs.List.{AllByRecursion}
use Rattle.std.proofs.Common.{◌∙◌, ap, sym, subst, arith}
use Rattle.std.proofs.lemmas.List.Elements.{All-from_recursion, recursion_from_All}
use Rattle.da_lang.specs.declared.ty.Ty.{Ty}
use Rattle.da_lang.specs.declared.ty.Ty.TheVariants as t
use Rattle.type_table.specs.Draws.{Agree}
use Rattle.type_table.specs.Fits.{Meaning}
use Rattle.type_table.proofs.TableLaws.{get_inside}
use Rattle.type_choice.specs.Lean.{IsLean, AreLean}
use Rattle.type_choice.proofs.ListLaws.{all_at, all_from, some_same, there}
use Rattle.type_demands.specs.declared.demand.Demand.{Demand}
use Rattle.type_fitting.specs.declared.table.Table.{Table}
use Rattle.type_fitting.specs.Declarable.{IsDeclarable}
use Rattle.type_fitting.specs.Fit.{Fits, FitsBest, Knows, meaning_of}
use Rattle.type_fitting.specs.Listed.{Listed}
use Rattle.type_fitting.specs.Sights.{IsRefused, IsSolved}
use Rattle.type_fitting.proofs.ListLaws.{match_weaker}
use Rattle.type_fitting.proofs.MetLaws.{all_met_agree}

-- two lists of which each type is lean beside the other one
are_lean : (xs ys : List Ty) → length xs ≡ length ys → ((i : ℕ) (x y : Ty) → slice_get xs i ≡ Some x → slice_get ys i ≡ Some y → IsLean x y) → AreLean xs ys
are_lean [] [] size each = AreLean.none
are_lean [] (y ∷ ys) size each = absurd (omega (arith, size))
are_lean (x ∷ xs) [] size each = absurd (omega (arith, size))
are_lean (x ∷ xs) (y ∷ ys) size each = AreLean.more x y xs ys (each 0 x y refl refl) (are_lean xs ys (omega (arith, size)) (λ i. each (suc i)))

module _ (count : ℕ) (demands : List Demand) (table : Table) (knows : AllByRecursion (Knows count) demands) (l : Listed count demands table) where
  pub fits_found : (types : List Ty) → IsSolved count table types → Fits count demands types
  fits_found types solved =
      record {
        size = solved.first.size;
        each = All-from_recursion IsDeclarable types (all_from IsDeclarable types each);
        met = all_met_agree count solved.meaning (meaning_of types) agree demands knows ∙ l.gives solved.meaning solved.holds;
      }
    where
      agree : Agree count solved.meaning (meaning_of types)
      agree k below = ap (λ o. unwrap_or o t.Int) (solved.first.each k below)

      each : (i : ℕ) (x : Ty) → slice_get types i ≡ Some x → IsDeclarable x
      each i x e =
          let below : i < count = omega (arith, get_inside types i x e, solved.first.size) in
          subst IsDeclarable (some_same x (sym (solved.first.each i below) ∙ e)) (solved.may i below)

  lean_found : (types : List Ty) → IsSolved count table types → (others : List Ty) → Fits count demands others → AreLean types others
  lean_found types solved others fits =
      let (n, agree, holds) = l.takes (meaning_of others) fits.met in
      are_lean types others (solved.first.size ∙ sym fits.size)
      (λ i x y at_x at_y.
      let below : i < count = omega (arith, get_inside types i x at_x, solved.first.size) in
      let x_is : solved.meaning i ≡ x = some_same x (sym (solved.first.each i below) ∙ at_x) in
      let y_is : n i ≡ y = agree i below ∙ ap (λ o. unwrap_or o t.Int) at_y in
      subst (λ z. IsLean z y) x_is (subst (IsLean (solved.meaning i)) y_is (solved.lean n holds i below)))

  pub none_fits : IsRefused count table → (types : List Ty) → Fits count demands types → ⊥
  none_fits refused types fits =
      let (n, agree, holds) = l.takes (meaning_of types) fits.met in
      refused n holds (λ k below. may n agree k below (there types k (omega (arith, below, fits.size))))
    where
      may : (n : Meaning) → Agree count (meaning_of types) n → (k : ℕ) → k < count → ((x : Ty) × (slice_get types k ≡ Some x)) → IsDeclarable (n k)
      may n agree k below (x, is) =
          subst IsDeclarable (sym (agree k below ∙ ap (λ o. unwrap_or o t.Int) is)) (all_at IsDeclarable types k x (recursion_from_All IsDeclarable types fits.each) is)

  pub found_fits : (found : Option (List Ty)) → MatchOption found (IsRefused count table) (IsSolved count table) → MatchOption found ((types : List Ty) → Fits count demands types → ⊥) (FitsBest count demands)
  found_fits found is =
      match_weaker found (IsRefused count table) ((types : List Ty) → Fits count demands types → ⊥) (IsSolved count table) (FitsBest count demands) none_fits
      (λ types solved. record { fits = fits_found types solved; lean = lean_found types solved }) is
