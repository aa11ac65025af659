-- What stands for a declared type.
use Rattle.std.specs.Prelude.{◌≡◌, refl, ℕ, List, [], ◌∷◌, map, Option, Some, None}
use Rattle.std.specs.List.{AllByRecursion}
use Rattle.std.proofs.Common.{◌∙◌, ap, ap₂, sym}
use Rattle.da_lang.specs.declared.ty.Ty.{Ty, roll-Ty}
use Rattle.da_lang.specs.declared.ty.Ty.TheFolds.{fold-roll-Ty, map-Ty}
use Rattle.da_lang.specs.declared.ty.Ty.TheOpen as layer
use Rattle.da_lang.specs.declared.ty.Ty.TheVariants as t
use Rattle.da_lang.specs.QueryTypes.{given, all_types}
use Rattle.da_lang.proofs.WorldLaws.{ty_induction}
use Rattle.type_table.specs.declared.scheme.Scheme.{Scheme}
use Rattle.type_table.specs.declared.scheme.Scheme.TheVariants as s
use Rattle.type_table.specs.Fits.{Meaning}
use Rattle.type_table.specs.Schemes.{stands}
use Rattle.type_table.proofs.SchemeLaws.{stands_unknown, stands_int, stands_bool, stands_text, stands_proc, stands_tuple, stands_set}
use Rattle.class_demands.specs.Unknowns.{unknown_in, known_type, put, written, written_step, scheme_at, scheme_of}

written_layer : (y : layer.Ty-F Ty) → written (roll-Ty y) ≡ written_step (map-Ty Ty Scheme written y)
unfolding written
written_layer y = fold-roll-Ty Scheme written_step y

pub written-Int : written t.Int ≡ s.Int
written-Int = ap written (sym t.rolls-Int) ∙ written_layer layer.Int

pub written-Bool : written t.Bool ≡ s.Bool
written-Bool = ap written (sym t.rolls-Bool) ∙ written_layer layer.Bool

pub written-Text : written t.Text ≡ s.Text
written-Text = ap written (sym t.rolls-Text) ∙ written_layer layer.Text

pub written-Proc : written t.Proc ≡ s.Proc
written-Proc = ap written (sym t.rolls-Proc) ∙ written_layer layer.Proc

pub written-Tuple : (xs : List Ty) → written (t.Tuple xs) ≡ s.Tuple (map written xs)
written-Tuple xs = ap written (sym (t.rolls-Tuple xs)) ∙ written_layer (layer.Tuple xs)

pub written-Set : (x : Ty) → written (t.Set x) ≡ s.Set (written x)
written-Set x = ap written (sym (t.rolls-Set x)) ∙ written_layer (layer.Set x)

module _ (m : Meaning) where
  all_stand : (xs : List Ty) → AllByRecursion (λ x. stands m (written x) ≡ Some x) xs → all_types (map (stands m) (map written xs)) ≡ Some xs
  all_stand [] each = refl
  all_stand (x ∷ xs) each = ap₂ (λ o p. given o (λ first. given p (λ others. Some (first ∷ others)))) each.0 (all_stand xs each.1)

  pub written_stands : (x : Ty) → stands m (written x) ≡ Some x
  written_stands =
      ty_induction (λ x. stands m (written x) ≡ Some x)
      (ap (stands m) written-Int ∙ stands_int m)
      (ap (stands m) written-Bool ∙ stands_bool m)
      (ap (stands m) written-Text ∙ stands_text m)
      (ap (stands m) written-Proc ∙ stands_proc m)
      (λ xs each. ap (stands m) (written-Tuple xs) ∙ stands_tuple m (map written xs) ∙ ap (λ o. given o (λ types. Some (t.Tuple types))) (all_stand xs each))
      (λ x is. ap (stands m) (written-Set x) ∙ stands_set m (written x) ∙ ap (λ o. given o (λ ty. Some (t.Set ty))) is)

  stands_at : (x : Ty) (o : Option ℕ) → stands m (scheme_at x o) ≡ Some (known_type m x o)
  stands_at x None = written_stands x
  stands_at x (Some k) = stands_unknown m k

  pub scheme_stands : (x : Ty) → stands m (scheme_of x) ≡ Some (put m x)
  unfolding scheme_of put
  scheme_stands x = stands_at x (unknown_in x)

  pub parts_stand : (xs : List Ty) → all_types (map (stands m) (map scheme_of xs)) ≡ Some (map (put m) xs)
  parts_stand [] = refl
  parts_stand (x ∷ xs) = ap₂ (λ o p. given o (λ first. given p (λ others. Some (first ∷ others)))) (scheme_stands x) (parts_stand xs)
