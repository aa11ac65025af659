-- The type for an unknown type: its number is written in it, and it may be declared.
use Rattle.std.specs.Prelude.{◌≡◌, refl, ℕ, zero, suc, ◌+◌, ◌*◌, ◌^◌, ◌<◌, ◌≤◌, max, nat_lt, false, List, [], ◌∷◌, ◌++◌, length, map, Option, Some, None, option_map, codes}
use Rattle.std.specs.List.{All}
use Rattle.std.proofs.Common.{◌∙◌, ap, ap₂, sym, subst, arith}
use Rattle.std.proofs.lemmas.Bool.Decides.{nat_tests}
use Rattle.std.proofs.lemmas.List.Elements.{All-cons, All-head, All-nil, All-tail}
use Rattle.std.proofs.Math.Nat.{max-le, pow-suc}
use Rattle.da_values.specs.declared.token.Mark.TheVariants as m
use Rattle.da_values.specs.Marks.{Tok}
use Rattle.da_lang.specs.declared.ty.Ty.{Ty, roll-Ty}
use Rattle.da_lang.specs.declared.ty.Ty.TheFolds.{fold-roll-Ty, map-Ty}
use Rattle.da_lang.specs.declared.ty.Ty.TheOpen as layer
use Rattle.da_lang.specs.declared.ty.Ty.TheVariants as ty
use Rattle.da_lang.specs.Limits.{most_parts, wide}
use Rattle.da_lang.specs.QueryTypes.{given}
use Rattle.da_lang.specs.Spelling as g
use Rattle.da_lang.specs.Spelling.{IsSpelled}
use Rattle.da_lang.specs.TypeGrammar as t
use Rattle.da_lang.specs.TypeGrammar.{TypeIn}
use Rattle.da_lang.specs.Types.{element_in}
use Rattle.da_lang.specs.Written.{type_width, type_width_step, greatest}
use Rattle.type_fitting.specs.Declarable.{IsDeclarable, most_tokens}
use Rattle.type_table.specs.Draws.{numbers_from}
use Rattle.class_demands.specs.Unknowns.{digit, number_step, number_in, inside, depth, unknown_in}
use Rattle.da_infer.specs.Unknowns.{AreUnknowns, IsShort, IsNumbered, IsUnknown, sets}
use Rattle.da_infer.proofs.MovedLists.{Free}
use Rattle.da_infer.proofs.MovedExprs.{type_moves}
use Rattle.da_infer.proofs.SpelledWords.{tok_of, int_spelled, set_spelled, comma_spelled, open_paren_spelled, close_paren_spelled, open_bracket_spelled, close_bracket_spelled}

-- ---- numbers and widths, form by form

number_layer : (y : layer.Ty-F Ty) → number_in (roll-Ty y) ≡ number_step (map-Ty Ty (Option ℕ) number_in y)
unfolding number_in
number_layer y = fold-roll-Ty (Option ℕ) number_step y

number_int : number_in ty.Int ≡ Some 0
number_int = ap number_in (sym ty.rolls-Int) ∙ number_layer layer.Int

number_set : (x : Ty) → number_in (ty.Set x) ≡ option_map (λ n. 2 * n + 1) (number_in x)
number_set x = ap number_in (sym (ty.rolls-Set x)) ∙ number_layer (layer.Set x)

number_part : (x : Ty) → number_in (ty.Tuple (x ∷ [])) ≡ option_map (λ n. 2 * n + 2) (number_in x)
number_part x = ap number_in (sym (ty.rolls-Tuple (x ∷ []))) ∙ number_layer (layer.Tuple (x ∷ []))

width_layer : (y : layer.Ty-F Ty) → type_width (roll-Ty y) ≡ type_width_step (map-Ty Ty ℕ type_width y)
unfolding type_width
width_layer y = fold-roll-Ty ℕ type_width_step y

width_int : type_width ty.Int ≡ 0
width_int = ap type_width (sym ty.rolls-Int) ∙ width_layer layer.Int

width_set : (x : Ty) → type_width (ty.Set x) ≡ type_width x
width_set x = ap type_width (sym (ty.rolls-Set x)) ∙ width_layer (layer.Set x)

width_part : (x : Ty) → type_width (ty.Tuple (x ∷ [])) ≡ max 1 (max (type_width x) 0)
width_part x = ap type_width (sym (ty.rolls-Tuple (x ∷ []))) ∙ width_layer (layer.Tuple (x ∷ []))

one_wide : (w : ℕ) → w ≤ 1 → max 1 (max w 0) ≤ 1
one_wide w h =
    let one : 1 ≤ 1 = omega arith in
    let none : 0 ≤ 1 = omega arith in
    max-le one (max-le h none)

-- ---- tokens

short_int : (most : ℕ) → 1 ≤ most → IsShort most ty.Int
unfolding TypeIn
short_int most some = record {
  tokens = tok_of 0 m.Int (codes "int") ∷ [];
  spelled = All-cons IsSpelled (tok_of 0 m.Int (codes "int")) [] (int_spelled 0) (All-nil IsSpelled);
  size = 1;
  spells = t.IsType.int (g.At.at refl);
  short = omega (arith, some);
  narrow = omega (arith, width_int);
}

short_set : (most : ℕ) (x : Ty) → IsShort most x → IsShort (most + 3) (ty.Set x)
unfolding TypeIn
short_set most x p =
    let c = tok_of 0 m.CloseBracket (codes "]") in
    let o = tok_of 0 m.OpenBracket (codes "[") in
    let w = tok_of 0 m.Set (codes "set") in
    let a = type_moves (λ d. Free) p.size 0 p.size 1 (omega arith) x p.tokens [] p.spells (c ∷ []) in
    record {
      tokens = w ∷ o ∷ a.now;
      spelled = All-cons IsSpelled w (o ∷ a.now) (set_spelled 0) (All-cons IsSpelled o a.now (open_bracket_spelled 0) (a.along.all p.spelled (All-cons IsSpelled c [] (close_bracket_spelled 0) (All-nil IsSpelled))));
      size = suc p.size;
      spells = t.IsType.set (g.At.at refl) (g.Opens.opens tt (g.At.at refl)) a.spelled (g.At.at refl);
      short = omega (arith, p.short, a.along.size);
      narrow = omega (arith, p.narrow, width_set x);
    }

short_part : (most : ℕ) (x : Ty) → IsShort most x → IsShort (most + 3) (ty.Tuple (x ∷ []))
unfolding TypeIn
short_part most x p =
    let c = tok_of 0 m.CloseParen (codes ")") in
    let k = tok_of 0 m.Comma (codes ",") in
    let o = tok_of 0 m.OpenParen (codes "(") in
    let a = type_moves (λ d. Free) p.size 0 p.size 1 (omega arith) x p.tokens [] p.spells (k ∷ c ∷ []) in
    record {
      tokens = o ∷ a.now;
      spelled = All-cons IsSpelled o a.now (open_paren_spelled 0) (a.along.all p.spelled (All-cons IsSpelled k (c ∷ []) (comma_spelled 0) (All-cons IsSpelled c [] (close_paren_spelled 0) (All-nil IsSpelled))));
      size = suc p.size;
      spells = t.IsType.tuple (g.Opens.opens tt (g.At.at refl)) a.spelled (g.At.at refl) (g.Closed.empty (g.At.at refl));
      short = omega (arith, p.short, a.along.size);
      narrow = omega (arith, one_wide (type_width x) p.narrow, width_part x);
    }

-- ---- numbers

pub numbered_zero : IsNumbered 0 ty.Int
numbered_zero = record { is = number_int; short = λ digits below. short_int (1 + 3 * digits) (omega arith) }

half_below : (half number digits : ℕ) → 2 * half < number → number < 2 ^ suc digits → half < 2 ^ digits
half_below half number digits less below = omega (arith, less, below, pow-suc 2 digits)

-- what a digit round it makes of a number that is short
round : (half number : ℕ) (x y : Ty) → ((most : ℕ) → IsShort most x → IsShort (most + 3) y) → 2 * half < number → ((digits : ℕ) → half < 2 ^ digits → IsShort (1 + 3 * digits) x)
    → (digits : ℕ) → number < 2 ^ digits → IsShort (1 + 3 * digits) y
round half number x y more less short zero below = let one : number < 1 = below in absurd (omega (arith, less, one))
round half number x y more less short (suc digits) below =
    let e : 1 + 3 * digits + 3 ≡ 1 + 3 * suc digits = omega arith in
    subst (λ most. IsShort most y) e (more (1 + 3 * digits) (short digits (half_below half number digits less below)))

pub numbered_set : (half number : ℕ) (x y : Ty) → IsNumbered half x → y ≡ ty.Set x → number ≡ 2 * half + 1 → IsNumbered number y
numbered_set half number x y p is odd = record {
  is = ap number_in is ∙ number_set x ∙ ap (option_map (λ n. 2 * n + 1)) p.is ∙ ap Some (sym odd);
  short = λ digits below. subst (IsShort (1 + 3 * digits)) (sym is) (round half number x (ty.Set x) (λ most s. short_set most x s) (omega (arith, odd)) p.short digits below);
}

pub numbered_part : (half number : ℕ) (x y : Ty) → IsNumbered half x → y ≡ ty.Tuple (x ∷ []) → number ≡ 2 * half + 2 → IsNumbered number y
numbered_part half number x y p is even = record {
  is = ap number_in is ∙ number_part x ∙ ap (option_map (λ n. 2 * n + 2)) p.is ∙ ap Some (sym even);
  short = λ digits below. subst (IsShort (1 + 3 * digits)) (sym is) (round half number x (ty.Tuple (x ∷ [])) (λ most s. short_part most x s) (omega (arith, even)) p.short digits below);
}

-- ---- in sets

sets_inside : (count : ℕ) (x : Ty) → inside count (sets count x) ≡ Some x
sets_inside zero x = refl
sets_inside (suc count) x = ap (λ o. given (element_in o) (inside count)) (ty.outs-Set (sets count x)) ∙ sets_inside count x

short_sets : (count most : ℕ) (x : Ty) → IsShort most x → IsShort (most + 3 * count) (sets count x)
short_sets zero most x p = let e : most ≡ most + 3 * 0 = omega arith in subst (λ n. IsShort n x) e p
short_sets (suc count) most x p =
    let e : most + 3 * count + 3 ≡ most + 3 * suc count = omega arith in
    subst (λ n. IsShort n (sets (suc count) x)) e (short_set (most + 3 * count) (sets count x) (short_sets count most x p))

narrow_one : (w : ℕ) → w ≤ 1 → wide w ≡ false
unfolding most_parts
narrow_one w h = grind (arith, nat_tests, h)

declarable : (x : Ty) → IsShort 1024 x → IsDeclarable x
unfolding most_tokens
declarable x p = record { tokens = p.tokens; spelled = p.spelled; size = p.size; spells = p.spells; short = p.short; narrow = narrow_one (type_width x) p.narrow }

pub int_declarable : IsDeclarable ty.Int
int_declarable = declarable ty.Int (short_int 1024 (omega arith))

shorter : (a b : ℕ) (x : Ty) → a ≤ b → IsShort a x → IsShort b x
shorter a b x le p = record { tokens = p.tokens; spelled = p.spelled; size = p.size; spells = p.spells; short = omega (arith, p.short, le); narrow = p.narrow }

pub is_unknown : (number : ℕ) (x y : Ty) → number < 2 ^ 64 → IsNumbered number x → y ≡ sets depth x → IsUnknown number y
unfolding unknown_in depth
is_unknown number x y below p is = record {
  is = ap unknown_in is ∙ ap (λ o. given o number_in) (sets_inside 33 x) ∙ p.is;
  may = subst IsDeclarable (sym is) (declarable (sets 33 x) (shorter (1 + 3 * 64 + 3 * 33) 1024 (sets 33 x) (omega arith) (short_sets 33 (1 + 3 * 64) x (p.short 64 below))));
}

-- ---- all of them

numbers_more : (first count : ℕ) → numbers_from first (suc count) ≡ numbers_from first count ++ (first + count) ∷ []
numbers_more first zero = let e : first ≡ first + 0 = omega arith in ap (λ n. n ∷ []) e
numbers_more first (suc count) =
    let e : suc first + count ≡ first + suc count = omega arith in
    ap (λ ns. first ∷ ns) (numbers_more (suc first) count ∙ ap (λ n. numbers_from (suc first) count ++ n ∷ []) e)

next_number : (count : ℕ) → numbers_from 0 (count + 1) ≡ numbers_from 0 count ++ count ∷ []
next_number count =
    let next : count + 1 ≡ suc count = omega arith in
    let last : 0 + count ≡ count = omega arith in
    ap (numbers_from 0) next ∙ numbers_more 0 count ∙ ap (λ n. numbers_from 0 count ++ n ∷ []) last

map_more : {A B : Type 0} (f : A → B) (xs : List A) (x : A) → map f (xs ++ x ∷ []) ≡ map f xs ++ f x ∷ []
map_more f [] x = refl
map_more f (y ∷ xs) x = ap (λ z. f y ∷ z) (map_more f xs x)

pub unknowns_more : (count : ℕ) (xs ys : List Ty) (x : Ty) → AreUnknowns count xs → ys ≡ xs ++ x ∷ [] → unknown_in x ≡ Some count → AreUnknowns (count + 1) ys
unknowns_more count xs ys x all is one =
    ap (map unknown_in) is ∙ map_more unknown_in xs x ∙ ap₂ (λ os o. os ++ o ∷ []) all one ∙ sym (map_more Some (numbers_from 0 count) count)
    ∙ sym (ap (map Some) (next_number count))

all_more : (xs : List Ty) (x : Ty) → All IsDeclarable xs → IsDeclarable x → All IsDeclarable (xs ++ x ∷ [])
all_more [] x all may = All-cons IsDeclarable x [] may (All-nil IsDeclarable)
all_more (y ∷ xs) x all may = All-cons IsDeclarable y (xs ++ x ∷ []) (All-head IsDeclarable y xs all) (all_more xs x (All-tail IsDeclarable y xs all) may)

pub declarable_more : (xs ys : List Ty) (x : Ty) → All IsDeclarable xs → ys ≡ xs ++ x ∷ [] → IsDeclarable x → All IsDeclarable ys
declarable_more xs ys x all is may = subst (All IsDeclarable) (sym is) (all_more xs x all may)
