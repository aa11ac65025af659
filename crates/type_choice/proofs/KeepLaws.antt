-- What is lean keeps the rules of types that the other keeps.
use Rattle.std.specs.Prelude.{◌≡◌, refl, ◌≤◌, Bool, true, false, List, map}
use Rattle.std.specs.List.{list_all}
use Rattle.std.proofs.Common.{◌∙◌, ap, sym, arith}
use Rattle.std.proofs.lemmas.Bool.{false≢true, and_parts, and_from}
use Rattle.da_values.specs.Nesting.{deepest}
use Rattle.da_lang.specs.declared.ty.Ty.{Ty}
use Rattle.da_lang.specs.declared.ty.Ty.TheVariants as t
use Rattle.da_lang.specs.declared.ty.Ty.TheOpen as layer
use Rattle.da_lang.specs.Types.{levels, ordered, is_set, element_in}
use Rattle.da_lang.proofs.typing.TypesAt.{levels-Int, levels-Proc, levels-Tuple, levels-Set, ordered-Int, ordered-Proc, ordered-Tuple, ordered-Set}
use Rattle.type_choice.specs.Lean.{IsLean, AreLean}
use Rattle.type_choice.proofs.TypeLaws.{some_in}

mutual
  pub no_deeper : (x y : Ty) → IsLean x y → levels x ≤ levels y
  no_deeper x y (IsLean.int other) = omega (arith, levels-Int)
  no_deeper x y (IsLean.proc other apart) = omega (arith, levels-Proc)
  no_deeper x y IsLean.truth = omega arith
  no_deeper x y IsLean.text = omega arith
  no_deeper x y (IsLean.tuple parts others each) = omega (arith, none_deeper parts others each, levels-Tuple parts, levels-Tuple others)
  no_deeper x y (IsLean.set element other inner) = omega (arith, no_deeper element other inner, levels-Set element, levels-Set other)

  none_deeper : (xs ys : List Ty) → AreLean xs ys → deepest (map levels xs) ≤ deepest (map levels ys)
  none_deeper xs ys AreLean.none = omega arith
  none_deeper xs ys (AreLean.more x y rest others first each) = omega (arith, no_deeper x y first, none_deeper rest others each)

mutual
  pub still_ordered : (x y : Ty) → IsLean x y → ordered y ≡ true → ordered x ≡ true
  still_ordered x y (IsLean.int other) is = ordered-Int
  still_ordered x y (IsLean.proc other apart) is = ordered-Proc
  still_ordered x y IsLean.truth is = is
  still_ordered x y IsLean.text is = is
  still_ordered x y (IsLean.tuple parts others each) is = ordered-Tuple parts ∙ all_ordered parts others each (sym (ordered-Tuple others) ∙ is)
  still_ordered x y (IsLean.set element other inner) is = absurd (false≢true (sym (ordered-Set other) ∙ is))

  all_ordered : (xs ys : List Ty) → AreLean xs ys → list_all (λ b. b) (map ordered ys) ≡ true → list_all (λ b. b) (map ordered xs) ≡ true
  all_ordered xs ys AreLean.none is = refl
  all_ordered xs ys (AreLean.more x y rest others first each) is =
      let both = and_parts (ordered y) (list_all (λ b. b) (map ordered others)) is in
      and_from (ordered x) (list_all (λ b. b) (map ordered rest)) (still_ordered x y first both.0) (all_ordered rest others each both.1)

abbrev set_layer : layer.Ty-F Ty → Bool
set_layer l = some_in (element_in l)

pub still_no_set : (x y : Ty) → IsLean x y → is_set y ≡ false → is_set x ≡ false
still_no_set x y (IsLean.int other) none = ap set_layer t.outs-Int
still_no_set x y (IsLean.proc other apart) none = ap set_layer t.outs-Proc
still_no_set x y IsLean.truth none = none
still_no_set x y IsLean.text none = none
still_no_set x y (IsLean.tuple parts others each) none = ap set_layer (t.outs-Tuple parts)
still_no_set x y (IsLean.set element other inner) none = absurd (false≢true (sym none ∙ ap set_layer (t.outs-Set other)))
