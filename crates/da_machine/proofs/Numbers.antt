-- Ranges, sets and quotients as code works them out.
use Rattle.std.proofs.Common.{◌≡◌, ℕ, zero, suc, ◌+◌, ◌-◌, ◌*◌, ◌<◌, ◌≤◌, ◌/◌, ◌%◌, ◌^◌, List, [], ◌∷◌, ◌++◌, length, take, Ok, Err, refl, sym, ap, ◌∙◌, arith, inl, inr, if◌then◌else◌}
use Rattle.std.specs.Prelude.{Bool, true, false, cond, slice_index_or, ℤ, pos, negsuc, neg_ℤ, ◌+ℤ◌, ◌-ℤ◌, ◌*ℤ◌, int_lt, nat_lt, FitsSigned, unsigned_abs}
use Rattle.std.specs.Int.{complement_if, int_div_euclid, w128}
use Rattle.std.specs.Cmp.{int_cmp_is}
use Rattle.std.specs.List.{filter}
use Rattle.std.specs.declared.cmp.Ordering.TheVariants.{Greater}
use Rattle.std.proofs.lemmas.Int.{fits_signed_from_abs, ints}
use Rattle.std.proofs.Math.IntN.{+ℤ_idr, pos-*ℤ-negsuc, negsuc-*ℤ-pos, *ℤ-negsuc}
use Rattle.std.proofs.lemmas.Bool.{lt-leb, ltb-true}
use mathlib.Core.List.{append-nil}
use Rattle.da_values.specs.declared.val.Val.{Val}
use Rattle.da_values.specs.declared.val.Val.TheVariants as val
use Rattle.da_values.specs.declared.value.Value.{Value}
use Rattle.da_values.specs.Narrow.{is_i64}
use Rattle.da_values.specs.Order.{val_cmp}
use Rattle.da_values.specs.Sets.{Ascends, Has, IsAlike, canon, placed, set_insert}
use Rattle.da_values.specs.Value.{val_of, vals}
use Rattle.da_values.proofs.Members.{of_append, Has-append_left, Has-append_right}
use Rattle.da_values.proofs.OrderAt.{val_cmp-Int}
use Rattle.da_values.proofs.OrderLaws.{val_order, same_from_val_cmp}
use Rattle.da_values.proofs.SetLaws.{Ascends-filter, canon_alike, canon_itself}
use Rattle.da_lang.specs.declared.event.FaultKind.TheVariants.{Overflow}
use Rattle.da_lang.specs.Arithmetic.{fitted, numbers_from, quotient, remainder}
use Rattle.da_machine.specs.Acts.{same}

-- RANGES

above : (a : ℤ) (n : ℕ) → val_cmp (val.Int (a +ℤ pos (suc n))) (val.Int a) ≡ Greater
above a n = val_cmp-Int (a +ℤ pos (suc n)) a ∙ sym (int_cmp_is (a +ℤ pos (suc n)) a Greater (omega (arith, ints)))

-- the next number comes after all others
pub numbers_more : (a : ℤ) (n : ℕ) → set_insert val_cmp (numbers_from a n) (val.Int (a +ℤ pos n)) ≡ numbers_from a (n + 1)
numbers_more a zero = let none : a +ℤ pos 0 ≡ a = +ℤ_idr a in ap (λ z. val.Int z ∷ []) none
numbers_more a (suc n) =
    let next : a +ℤ pos 1 +ℤ pos n ≡ a +ℤ pos (suc n) = omega (arith, ints) in
    let count : suc n + 1 ≡ suc (n + 1) = omega arith in
    ap (λ o. placed o (val.Int (a +ℤ pos (suc n))) (val.Int a) (numbers_from (a +ℤ pos 1) n) (set_insert val_cmp (numbers_from (a +ℤ pos 1) n) (val.Int (a +ℤ pos (suc n))))) (above a n)
    ∙ ap (λ z. val.Int a ∷ set_insert val_cmp (numbers_from (a +ℤ pos 1) n) (val.Int z)) (sym next)
    ∙ ap (λ l. val.Int a ∷ l) (numbers_more (a +ℤ pos 1) n)
    ∙ ap (numbers_from a) (sym count)

pub number_more : (a : ℤ) (n : ℕ) (set new : List Val) (v : Val) → set ≡ numbers_from a n → v ≡ val.Int (a +ℤ pos n) → new ≡ set_insert val_cmp set v → new ≡ numbers_from a (n + 1)
number_more a n set new v is next made = made ∙ ap (λ l. set_insert val_cmp l v) is ∙ ap (set_insert val_cmp (numbers_from a n)) next ∙ numbers_more a n

-- NUMBERS THAT DO NOT FIT

small_fits : (z : ℤ) → is_i64 z ≡ true → FitsSigned w128 z
small_fits (pos n) is = fits_signed_from_abs w128 (pos n) (let less = ltb-true n (2 ^ 63) is in omega (arith, less))
small_fits (negsuc n) is = fits_signed_from_abs w128 (negsuc n) (let less = ltb-true n (2 ^ 63) is in omega (arith, less))

fitted_where : (z : ℤ) (b : Bool) → is_i64 z ≡ b → (FitsSigned w128 z → ⊥) → b ≡ false
fitted_where z true is wide = absurd (wide (small_fits z is))
fitted_where z false is wide = refl

pub unfit : (z : ℤ) → (FitsSigned w128 z → ⊥) → fitted z ≡ Err Overflow
unfit z wide = ap (λ b. if b then Ok (val.Int z) else Err Overflow) (fitted_where z (is_i64 z) refl wide)

-- QUOTIENTS

abbrev aligned : ℤ → ℤ → ℤ
aligned a b = if int_lt b (pos 0) then neg_ℤ a else a

divides : (below : Bool) (size k : ℕ) → int_div_euclid (complement_if below size) (pos (suc k)) ≡ complement_if below (size / suc k)
divides true size k = refl
divides false size k = refl

zero_last : (n : ℕ) → int_lt (pos n) (pos 0) ≡ false
zero_last n = lt-leb (suc n) 0 (omega arith)

pub quotient_by : (a b : ℤ) (below : Bool) (size : ℕ) → (b ≡ pos 0 → ⊥) → complement_if below size ≡ aligned a b → quotient a b ≡ complement_if below (size / unsigned_abs b)
quotient_by a (pos zero) below size some is = absurd (some refl)
quotient_by a (pos (suc k)) below size some is =
    ap (λ t. if t then int_div_euclid (neg_ℤ a) (neg_ℤ (pos (suc k))) else int_div_euclid a (pos (suc k))) (zero_last (suc k))
    ∙ ap (λ z. int_div_euclid z (pos (suc k))) (sym (is ∙ ap (λ t. if t then neg_ℤ a else a) (zero_last (suc k)))) ∙ divides below size k
quotient_by a (negsuc k) below size some is = ap (λ z. int_div_euclid z (pos (suc k))) (sym is) ∙ divides below size k

pub fitted_by : (below : Bool) (size : ℕ) → fitted (complement_if below size) ≡ (if nat_lt size (2 ^ 63) then Ok (val.Int (complement_if below size)) else Err Overflow)
fitted_by true size = refl
fitted_by false size = refl

-- SETS

end_alike : (xs : List Val) (x : Val) → IsAlike (xs ++ x ∷ []) (x ∷ xs)
end_alike xs x z = (of_end, into_end)
  where
    of_end : Has (xs ++ x ∷ []) z → Has (x ∷ xs) z
    of_end h = elim (of_append xs (x ∷ []) z h) [ inl there ↦ inr there | inr last ↦ elim last [ inl same ↦ inl same | inr none ↦ absurd none ] ]

    into_end : Has (x ∷ xs) z → Has (xs ++ x ∷ []) z
    into_end h = elim h [ inl same ↦ Has-append_right xs (x ∷ []) z (inl same) | inr there ↦ Has-append_left xs (x ∷ []) z there ]

-- a list with one more at its end
canon_end : (xs : List Val) (x : Val) → canon val_cmp (xs ++ x ∷ []) ≡ set_insert val_cmp (canon val_cmp xs) x
canon_end xs x = canon_alike val_cmp val_order same_from_val_cmp (xs ++ x ∷ []) (x ∷ xs) (end_alike xs x)

-- the first so many of a list, and one more
take_one : {A : Type 0} (xs : List A) (i : ℕ) (x : A) → i < length xs → x ≡ slice_index_or xs i x → take (i + 1) xs ≡ take i xs ++ x ∷ []
take_one [] i x inside is = absurd (omega (arith, inside))
take_one (y ∷ xs) zero x inside is = ap (λ z. z ∷ []) (sym is)
take_one (y ∷ xs) (suc i) x inside is = let next : suc i + 1 ≡ suc (i + 1) = omega arith in rw next (ap (λ l. y ∷ l) (take_one xs i x (omega (arith, inside)) is))

vals-end : (xs : List Value) (x : Value) → vals (xs ++ x ∷ []) ≡ vals xs ++ val_of x ∷ []
vals-end [] x = refl
vals-end (y ∷ xs) x = ap (λ l. val_of y ∷ l) (vals-end xs x)

-- of a list the chosen ones
filter-end : (p : Val → Bool) (xs : List Val) (x : Val) → filter p (xs ++ x ∷ []) ≡ filter p xs ++ (if p x then x ∷ [] else [])
filter-end p [] x = one (p x)
  where
    one : (b : Bool) → cond b (x ∷ []) [] ≡ (if b then x ∷ [] else [])
    one true = refl
    one false = refl
filter-end p (y ∷ xs) x = by (p y) (filter-end p xs x)
  where
    by : (b : Bool) → filter p (xs ++ x ∷ []) ≡ filter p xs ++ (if p x then x ∷ [] else []) → cond b (y ∷ filter p (xs ++ x ∷ [])) (filter p (xs ++ x ∷ [])) ≡ cond b (y ∷ filter p xs) (filter p xs) ++ (if p x then x ∷ [] else [])
    by true is = ap (λ l. y ∷ l) is
    by false is = is

module _ (p : Val → Bool) (set : List Val) (values : List Value) (i : ℕ) (x : Value) (is : set ≡ canon val_cmp (filter p (vals (take i values)))) (inside : i < length values) (at : x ≡ slice_index_or values i x) where
  chosen_next : (b : Bool) → p (val_of x) ≡ b → canon val_cmp (filter p (vals (take (i + 1) values))) ≡ canon val_cmp (filter p (vals (take i values)) ++ (if b then val_of x ∷ [] else []))
  chosen_next b test =
      ap (λ l. canon val_cmp (filter p l)) (ap vals (take_one values i x inside at) ∙ vals-end (take i values) x)
      ∙ ap (canon val_cmp) (filter-end p (vals (take i values)) (val_of x)) ∙ ap (λ c. canon val_cmp (filter p (vals (take i values)) ++ (if c then val_of x ∷ [] else []))) test

  pub chosen_on : p (val_of x) ≡ true → set_insert val_cmp set (val_of x) ≡ canon val_cmp (filter p (vals (take (i + 1) values)))
  chosen_on test = ap (λ l. set_insert val_cmp l (val_of x)) is ∙ sym (canon_end (filter p (vals (take i values))) (val_of x)) ∙ sym (chosen_next true test)

  pub chosen_not : p (val_of x) ≡ false → set ≡ canon val_cmp (filter p (vals (take (i + 1) values)))
  chosen_not test = is ∙ ap (canon val_cmp) (sym (append-nil (filter p (vals (take i values))))) ∙ sym (chosen_next false test)

pub chosen_step : (p : Val → Bool) (set new : List Val) (values : List Value) (i : ℕ) (x : Value) (b : Bool) → set ≡ canon val_cmp (filter p (vals (take i values))) → i < length values → x ≡ slice_index_or values i x
    → b ≡ p (val_of x) → new ≡ (if b then set_insert val_cmp set (val_of x) else set) → new ≡ canon val_cmp (filter p (vals (take (i + 1) values)))
chosen_step p set new values i x true is inside at test made = made ∙ chosen_on p set values i x is inside at (sym test)
chosen_step p set new values i x false is inside at test made = made ∙ chosen_not p set values i x is inside at (sym test)

pub chosen_ends : (p : Val → Bool) (xs : List Val) → Ascends val_cmp xs → canon val_cmp (filter p xs) ≡ filter p xs
chosen_ends p xs up = canon_itself val_cmp val_order same_from_val_cmp (filter p xs) (Ascends-filter val_cmp p xs up)

take_whole : {A : Type 0} (xs : List A) (i : ℕ) → length xs ≤ i → take i xs ≡ xs
take_whole [] zero le = refl
take_whole [] (suc i) le = refl
take_whole (x ∷ xs) zero le = absurd (omega (arith, le))
take_whole (x ∷ xs) (suc i) le = ap (λ l. x ∷ l) (take_whole xs i (omega (arith, le)))

pub chosen_all : (p : Val → Bool) (xs set : List Val) (values : List Value) (i : ℕ) → Ascends val_cmp xs → vals values ≡ xs → length values ≤ i → set ≡ canon val_cmp (filter p (vals (take i values))) → set ≡ filter p xs
chosen_all p xs set values i up same_values over is =
    is ∙ ap (λ l. canon val_cmp (filter p (vals l))) (take_whole values i over) ∙ ap (λ l. canon val_cmp (filter p l)) same_values ∙ chosen_ends p xs up

-- REMAINDERS

abbrev pub rest_of : Bool → ℕ → ℕ → ℕ
rest_of true size n = n - 1 - size % n
rest_of false size n = size % n

abbrev pub signed : Bool → ℤ → ℤ
signed true z = neg_ℤ z
signed false z = z

back : (a y r : ℤ) → a ≡ y +ℤ r → a -ℤ y ≡ r
back a y r is = omega (arith, ints, is)

back_negated : (a y r : ℤ) → neg_ℤ a ≡ y +ℤ r → a -ℤ neg_ℤ y ≡ neg_ℤ r
back_negated a y r is = omega (arith, ints, is)

below_law : (size n product m : ℕ) → size ≡ product + m → m < n → negsuc size ≡ neg_ℤ (pos (product + n)) +ℤ pos (n - 1 - m)
below_law size n product m is less = omega (arith, ints, is, less)

div-mod : (size k : ℕ) → suc k * (size / suc k) + size % suc k ≡ size
div-mod size k = omega arith

mod-less : (size k : ℕ) → size % suc k < suc k
mod-less size k = omega arith

divided_law : (below : Bool) (size k : ℕ) → complement_if below size ≡ pos (suc k) *ℤ complement_if below (size / suc k) +ℤ pos (rest_of below size (suc k))
divided_law false size k = ap pos (sym (div-mod size k))
divided_law true size k =
    let product : suc k * suc (size / suc k) ≡ suc k * (size / suc k) + suc k = grind arith in
    below_law size (suc k) (suc k * (size / suc k)) (size % suc k) (sym (div-mod size k)) (mod-less size k)
    ∙ ap (λ n. neg_ℤ (pos n) +ℤ pos (suc k - 1 - size % suc k)) (sym product) ∙ ap (λ z. z +ℤ pos (suc k - 1 - size % suc k)) (sym (pos-*ℤ-negsuc (suc k) (size / suc k)))

negated : (k : ℕ) (z : ℤ) → negsuc k *ℤ z ≡ neg_ℤ (pos (suc k) *ℤ z)
negated k (pos n) = negsuc-*ℤ-pos k n
negated k (negsuc n) = *ℤ-negsuc (negsuc k) n ∙ ap neg_ℤ (negsuc-*ℤ-pos k (suc n)) ∙ ap neg_ℤ (sym (pos-*ℤ-negsuc (suc k) n))

-- what a quotient leaves
pub remainder_by : (a b : ℤ) (below : Bool) (size : ℕ) → (b ≡ pos 0 → ⊥) → complement_if below size ≡ aligned a b → remainder a b ≡ signed (int_lt b (pos 0)) (pos (rest_of below size (unsigned_abs b)))
remainder_by a (pos zero) below size some is = absurd (some refl)
remainder_by a (pos (suc k)) below size some is =
    let q = complement_if below (size / suc k) in
    let same : complement_if below size ≡ a = is ∙ ap (λ t. if t then neg_ℤ a else a) (zero_last (suc k)) in
    ap (λ z. a -ℤ pos (suc k) *ℤ z) (quotient_by a (pos (suc k)) below size some is)
    ∙ back a (pos (suc k) *ℤ q) (pos (rest_of below size (suc k))) (sym same ∙ divided_law below size k)
    ∙ ap (λ t. signed t (pos (rest_of below size (suc k)))) (sym (zero_last (suc k)))
remainder_by a (negsuc k) below size some is =
    let q = complement_if below (size / suc k) in
    ap (λ z. a -ℤ negsuc k *ℤ z) (quotient_by a (negsuc k) below size some is)
    ∙ ap (λ z. a -ℤ z) (negated k q)
    ∙ back_negated a (pos (suc k) *ℤ q) (pos (rest_of below size (suc k))) (sym is ∙ divided_law below size k)
