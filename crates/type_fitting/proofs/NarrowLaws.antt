-- Which tuples a type has, one layer at a time.
use Rattle.std.specs.Prelude.{◌≡◌, refl, suc, Bool, true, ◌&&◌, List, length}
use Rattle.std.specs.List.{list_all}
use Rattle.std.proofs.Common.{◌∙◌, ap, ap₂, sym}
use Rattle.std.proofs.lemmas.Bool.{and_parts, and_from}
use Rattle.std.proofs.lemmas.List.{length-map}
use Rattle.std.proofs.lemmas.List.Folds.{list_all-map}
use Rattle.da_lang.specs.declared.ty.Ty.{Ty, roll-Ty}
use Rattle.da_lang.specs.declared.ty.Ty.TheVariants as t
use Rattle.da_lang.specs.declared.ty.Ty.TheFolds.{map-Ty, fold-roll-Ty}
use Rattle.da_lang.specs.declared.ty.Ty.TheOpen as ty
use Rattle.type_choice.specs.Lean.{IsLean, AreLean}
use Rattle.type_fitting.specs.Narrow.{is_few, narrow, narrow_step}

narrow_layer : (x : ty.Ty-F Ty) → narrow (roll-Ty x) ≡ narrow_step (map-Ty Ty Bool narrow x)
unfolding narrow
narrow_layer x = fold-roll-Ty Bool narrow_step x

pub narrow_int : narrow t.Int ≡ true
narrow_int = ap narrow (sym t.rolls-Int) ∙ narrow_layer ty.Int

pub narrow_bool : narrow t.Bool ≡ true
narrow_bool = ap narrow (sym t.rolls-Bool) ∙ narrow_layer ty.Bool

pub narrow_text : narrow t.Text ≡ true
narrow_text = ap narrow (sym t.rolls-Text) ∙ narrow_layer ty.Text

pub narrow_proc : narrow t.Proc ≡ true
narrow_proc = ap narrow (sym t.rolls-Proc) ∙ narrow_layer ty.Proc

pub narrow_tuple : (parts : List Ty) → narrow (t.Tuple parts) ≡ (is_few (length parts) && list_all narrow parts)
narrow_tuple parts =
    ap narrow (sym (t.rolls-Tuple parts)) ∙ narrow_layer (ty.Tuple parts)
    ∙ ap₂ (λ n b. is_few n && b) (length-map parts narrow) (list_all-map (λ (b : Bool). b) narrow parts)

pub narrow_set : (element : Ty) → narrow (t.Set element) ≡ narrow element
narrow_set element = ap narrow (sym (t.rolls-Set element)) ∙ narrow_layer (ty.Set element)

pub ruleset narrow_rules = (narrow_int, narrow_bool, narrow_text, narrow_proc, narrow_tuple, narrow_set)

-- what is lean has no other tuples than the other
lean_length : (xs ys : List Ty) → AreLean xs ys → length xs ≡ length ys
lean_length xs ys AreLean.none = refl
lean_length xs ys (AreLean.more x y rest others first each) = ap suc (lean_length rest others each)

mutual
  pub still_narrow : (x y : Ty) → IsLean x y → narrow y ≡ true → narrow x ≡ true
  still_narrow x y (IsLean.int other) is = narrow_int
  still_narrow x y (IsLean.proc other apart) is = narrow_proc
  still_narrow x y IsLean.truth is = is
  still_narrow x y IsLean.text is = is
  still_narrow x y (IsLean.tuple parts others each) is =
      let both = and_parts (is_few (length others)) (list_all narrow others) (sym (narrow_tuple others) ∙ is) in
      narrow_tuple parts ∙ and_from (is_few (length parts)) (list_all narrow parts) (ap is_few (lean_length parts others each) ∙ both.0) (all_narrow parts others each both.1)
  still_narrow x y (IsLean.set element other inner) is = narrow_set element ∙ still_narrow element other inner (sym (narrow_set other) ∙ is)

  all_narrow : (xs ys : List Ty) → AreLean xs ys → list_all narrow ys ≡ true → list_all narrow xs ≡ true
  all_narrow xs ys AreLean.none is = refl
  all_narrow xs ys (AreLean.more x y rest others first each) is =
      let both = and_parts (narrow y) (list_all narrow others) is in
      and_from (narrow x) (list_all narrow rest) (still_narrow x y first both.0) (all_narrow rest others each both.1)
