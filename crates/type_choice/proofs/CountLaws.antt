-- Levels and tokens of types, one layer at a time.
use Rattle.std.specs.Prelude.{◌≡◌, refl, ℕ, suc, ◌+◌, ◌<◌, ◌≤◌, max, nat_le, Bool, true, false, List, [], ◌∷◌, map, length, Option, None, Some, slice_get}
use Rattle.std.proofs.Common.{◌∙◌, ap, sym, arith, drop, get_or}
use Rattle.std.proofs.lemmas.Bool.Decides.{nat_tests}
use Rattle.std.proofs.lemmas.List.{drop_all, drop_more}
use Rattle.da_values.specs.Nesting.{deepest}
use Rattle.da_lang.specs.declared.ty.Ty.{Ty, out-Ty, roll-Ty, roll-out-Ty}
use Rattle.da_lang.specs.declared.ty.Ty.TheVariants as t
use Rattle.da_lang.specs.declared.ty.Ty.TheFolds.{map-Ty, fold-roll-Ty}
use Rattle.da_lang.specs.declared.ty.Ty.TheOpen as ty
use Rattle.da_lang.specs.Types.{levels, most_levels, is_flat, ordered, ordered_step, is_set, element_in}
use Rattle.da_lang.proofs.typing.TypesAt.{levels-Int, levels-Bool, levels-Text, levels-Proc, levels-Tuple, levels-Set, ordered-Int, ordered-Bool, ordered-Text, ordered-Proc, ordered-Tuple, ordered-Set}
use Rattle.type_table.specs.declared.form.Form.TheVariants as f
use Rattle.type_table.specs.Settling.{is_marked, mark_in}
use Rattle.type_choice.specs.Lean.{IsLean, AreLean}
use Rattle.type_choice.specs.Looks.{by_form, commas, total, tokens, tokens_step, most_tokens, is_short, cut_levels, cut_tokens, few_levels, few_levels_step, few_tokens, few_tokens_step, set_step, number_at, number_in}
use Rattle.type_choice.proofs.SeenLaws.{Follows}

tokens_layer : (x : ty.Ty-F Ty) → tokens (roll-Ty x) ≡ tokens_step (map-Ty Ty ℕ tokens x)
unfolding tokens
tokens_layer x = fold-roll-Ty ℕ tokens_step x

pub tokens-Int : tokens t.Int ≡ 1
tokens-Int = ap tokens (sym t.rolls-Int) ∙ tokens_layer ty.Int

pub tokens-Bool : tokens t.Bool ≡ 1
tokens-Bool = ap tokens (sym t.rolls-Bool) ∙ tokens_layer ty.Bool

pub tokens-Text : tokens t.Text ≡ 1
tokens-Text = ap tokens (sym t.rolls-Text) ∙ tokens_layer ty.Text

pub tokens-Proc : tokens t.Proc ≡ 1
tokens-Proc = ap tokens (sym t.rolls-Proc) ∙ tokens_layer ty.Proc

pub tokens-Tuple : (parts : List Ty) → tokens (t.Tuple parts) ≡ 2 + commas (length (map tokens parts)) + total (map tokens parts)
tokens-Tuple parts = ap tokens (sym (t.rolls-Tuple parts)) ∙ tokens_layer (ty.Tuple parts)

pub tokens-Set : (element : Ty) → tokens (t.Set element) ≡ 3 + tokens element
tokens-Set element = ap tokens (sym (t.rolls-Set element)) ∙ tokens_layer (ty.Set element)

pub length_map : {A B : Type 0} (f : A → B) (xs : List A) → length (map f xs) ≡ length xs
length_map f [] = refl
length_map f (x ∷ xs) = ap suc (length_map f xs)

-- cut numbers
deepest_cut : (parts : List Ty) → cut_levels (deepest (map levels parts)) ≡ cut_levels (deepest (map few_levels parts))
deepest_cut [] = refl
deepest_cut (x ∷ xs) = omega (arith, deepest_cut xs)

deeper_cut : (n k : ℕ) → cut_levels n ≡ cut_levels k → cut_levels (suc n) ≡ cut_levels (suc k)
deeper_cut n k same = omega (arith, same)

pub levels_follow : Follows few_levels few_levels_step
levels_follow =
    record {
      int = ap cut_levels levels-Int;
      truth = ap cut_levels levels-Bool;
      text = ap cut_levels levels-Text;
      proc = ap cut_levels levels-Proc;
      tuple = λ parts. ap cut_levels (levels-Tuple parts) ∙ deeper_cut (deepest (map levels parts)) (deepest (map few_levels parts)) (deepest_cut parts);
      set = λ element. ap cut_levels (levels-Set element) ∙ deeper_cut (levels element) (few_levels element) (omega arith);
    }

total_cut : (parts : List Ty) → cut_tokens (total (map tokens parts)) ≡ cut_tokens (total (map few_tokens parts))
total_cut [] = refl
total_cut (x ∷ xs) = omega (arith, total_cut xs)

more_cut : (few n k : ℕ) → cut_tokens n ≡ cut_tokens k → cut_tokens (few + n) ≡ cut_tokens (few + k)
more_cut few n k same = omega (arith, same)

tuple_cut : (parts : List Ty) → cut_tokens (2 + commas (length (map tokens parts)) + total (map tokens parts)) ≡ cut_tokens (2 + commas (length (map few_tokens parts)) + total (map few_tokens parts))
tuple_cut parts =
    more_cut (2 + commas (length (map tokens parts))) (total (map tokens parts)) (total (map few_tokens parts)) (total_cut parts)
    ∙ ap (λ n. cut_tokens (2 + commas n + total (map few_tokens parts))) (length_map tokens parts ∙ sym (length_map few_tokens parts))

pub tokens_follow : Follows few_tokens few_tokens_step
tokens_follow =
    record {
      int = ap cut_tokens tokens-Int;
      truth = ap cut_tokens tokens-Bool;
      text = ap cut_tokens tokens-Text;
      proc = ap cut_tokens tokens-Proc;
      tuple = λ parts. ap cut_tokens (tokens-Tuple parts) ∙ tuple_cut parts;
      set = λ element. ap cut_tokens (tokens-Set element) ∙ more_cut 3 (tokens element) (few_tokens element) (omega arith);
    }

pub order_follows : Follows ordered ordered_step
order_follows = record { int = ordered-Int; truth = ordered-Bool; text = ordered-Text; proc = ordered-Proc; tuple = ordered-Tuple; set = ordered-Set }

abbrev some_in : Option Ty → Bool
some_in o = elim o [ Some element ↦ true | None ↦ false ]

abbrev set_layer : ty.Ty-F Ty → Bool
set_layer l = some_in (element_in l)

pub sets_follow : Follows is_set set_step
sets_follow =
    record {
      int = ap set_layer t.outs-Int;
      truth = ap set_layer t.outs-Bool;
      text = ap set_layer t.outs-Text;
      proc = ap set_layer t.outs-Proc;
      tuple = λ parts. ap set_layer (t.outs-Tuple parts);
      set = λ element. ap set_layer (t.outs-Set element);
    }

-- what was read
pub read_mark : (marks : List Bool) (k : ℕ) (x : Bool) → slice_get marks k ≡ Some x → is_marked marks k ≡ x
read_mark marks k x e = ap mark_in e

pub read_number : (numbers : List ℕ) (k x : ℕ) → slice_get numbers k ≡ Some x → number_at numbers k ≡ x
read_number numbers k x e = ap number_in e

-- what is asked of the numbers
flat_count : (n : ℕ) → nat_le (cut_levels n) 32 ≡ nat_le n 32
flat_count n = grind (arith, nat_tests)

short_count : (n : ℕ) → nat_le (cut_tokens n) 1024 ≡ nat_le n 1024
short_count n = grind (arith, nat_tests)

pub flat_is : (count : ℕ) (x : Ty) → count ≡ few_levels x → nat_le count 32 ≡ is_flat x
unfolding most_levels
flat_is count x e = ap (λ n. nat_le n 32) e ∙ flat_count (levels x)

pub short_is : (count : ℕ) (x : Ty) → count ≡ few_tokens x → nat_le count 1024 ≡ is_short x
unfolding most_tokens
short_is count x e = ap (λ n. nat_le n 1024) e ∙ short_count (tokens x)

-- what code finds
pub deepest_goes : (g : ℕ → ℕ) (parts : List ℕ) (i most more : ℕ) → i < length parts → more ≡ max (g (get_or parts i 0)) most → max (deepest (map g (drop i parts))) most ≡ deepest (map g parts) → max (deepest (map g (drop (i + 1) parts))) more ≡ deepest (map g parts)
deepest_goes g parts i most more inside is so_far =
    let e : max (deepest (map g (drop i parts))) most ≡ max (deepest (map g (get_or parts i 0 ∷ drop (i + 1) parts))) most = ap (λ z. max (deepest (map g z)) most) (drop_more parts i 0 inside) in
    omega (arith, e, is, so_far)

pub deepest_ends : (g : ℕ → ℕ) (parts : List ℕ) (i most : ℕ) → length parts ≤ i → max (deepest (map g (drop i parts))) most ≡ deepest (map g parts) → most ≡ deepest (map g parts)
deepest_ends g parts i most past so_far =
    let e : max (deepest (map g (drop i parts))) most ≡ max (deepest (map g [])) most = ap (λ z. max (deepest (map g z)) most) (drop_all i parts past) in
    omega (arith, e, so_far)

pub total_goes : (g : ℕ → ℕ) (parts : List ℕ) (i count more : ℕ) → i < length parts → more ≡ cut_tokens (count + g (get_or parts i 0)) → cut_tokens (count + total (map g (drop i parts))) ≡ cut_tokens (total (map g parts)) → cut_tokens (more + total (map g (drop (i + 1) parts))) ≡ cut_tokens (total (map g parts))
total_goes g parts i count more inside is so_far =
    let e : cut_tokens (count + total (map g (drop i parts))) ≡ cut_tokens (count + total (map g (get_or parts i 0 ∷ drop (i + 1) parts))) = ap (λ z. cut_tokens (count + total (map g z))) (drop_more parts i 0 inside) in
    omega (arith, e, is, so_far)

pub total_ends : (g : ℕ → ℕ) (parts : List ℕ) (i count : ℕ) → length parts ≤ i → count ≤ 1025 → cut_tokens (count + total (map g (drop i parts))) ≡ cut_tokens (total (map g parts)) → count ≡ cut_tokens (total (map g parts))
total_ends g parts i count past few so_far =
    let e : cut_tokens (count + total (map g (drop i parts))) ≡ cut_tokens (count + total (map g [])) = ap (λ z. cut_tokens (count + total (map g z))) (drop_all i parts past) in
    omega (arith, e, few, so_far)

pub tuple_is : (g : ℕ → ℕ) (parts : List ℕ) (size marks all inner answer : ℕ) → size ≡ length parts → marks ≡ commas size → all ≡ cut_tokens (total (map g parts)) → inner ≡ cut_tokens (marks + all) → answer ≡ cut_tokens (2 + inner) → answer ≡ by_form few_tokens_step g (f.Tuple parts)
tuple_is g parts size marks all inner answer size_is marks_is all_is inner_is answer_is =
    let e : commas (length (map g parts)) ≡ marks = ap commas (length_map g parts ∙ sym size_is) ∙ sym marks_is in
    omega (arith, e, all_is, inner_is, answer_is)

-- each type is spelled by a token at least
some_layer : (l : ty.Ty-F Ty) → 1 ≤ tokens (roll-Ty l)
some_layer ty.Int = omega (arith, ap tokens t.rolls-Int, tokens-Int)
some_layer ty.Bool = omega (arith, ap tokens t.rolls-Bool, tokens-Bool)
some_layer ty.Text = omega (arith, ap tokens t.rolls-Text, tokens-Text)
some_layer ty.Proc = omega (arith, ap tokens t.rolls-Proc, tokens-Proc)
some_layer (ty.Tuple parts) = omega (arith, ap tokens (t.rolls-Tuple parts), tokens-Tuple parts)
some_layer (ty.Set element) = omega (arith, ap tokens (t.rolls-Set element), tokens-Set element)

some_token : (x : Ty) → 1 ≤ tokens x
some_token x = let e : tokens (roll-Ty (out-Ty x)) ≡ tokens x = ap tokens (roll-out-Ty x) in omega (arith, some_layer (out-Ty x), e)

-- lean types are spelled by no more
lean_length : (xs ys : List Ty) → AreLean xs ys → length xs ≡ length ys
lean_length xs ys AreLean.none = refl
lean_length xs ys (AreLean.more x y rest others first each) = ap suc (lean_length rest others each)

mutual
  pub no_longer : (x y : Ty) → IsLean x y → tokens x ≤ tokens y
  no_longer x y (IsLean.int other) = omega (arith, tokens-Int, some_token other)
  no_longer x y (IsLean.proc other apart) = omega (arith, tokens-Proc, some_token other)
  no_longer x y IsLean.truth = omega arith
  no_longer x y IsLean.text = omega arith
  no_longer x y (IsLean.tuple parts others each) =
      let same : commas (length (map tokens parts)) ≡ commas (length (map tokens others)) = ap commas (length_map tokens parts ∙ lean_length parts others each ∙ sym (length_map tokens others)) in
      omega (arith, none_longer parts others each, same, tokens-Tuple parts, tokens-Tuple others)
  no_longer x y (IsLean.set element other inner) = omega (arith, no_longer element other inner, tokens-Set element, tokens-Set other)

  none_longer : (xs ys : List Ty) → AreLean xs ys → total (map tokens xs) ≤ total (map tokens ys)
  none_longer xs ys AreLean.none = omega arith
  none_longer xs ys (AreLean.more x y rest others first each) = omega (arith, no_longer x y first, none_longer rest others each)
