-- What a reader finds after a letter, and that nothing else stands there.
use Rattle.std.specs.Prelude.{◌≡◌, ℕ, ℤ, ◌-◌, ◌+◌, ◌^◌, ◌<◌, ◌≤◌, List, [], ◌∷◌, ◌++◌, drop, take, length, map, refl}
use Rattle.std.specs.Int.{w16, w32, w64, w128, cast_signed, cast_unsigned, to_be_bytes}
use Rattle.std.specs.Int.RustNames.{FitsSigned}
use Rattle.std.specs.List.{All, AllByRecursion}
use Rattle.std.proofs.Common.{◌∙◌, ap, sym, subst, arith, append_assoc, append-nil, length-append}
use Rattle.std.proofs.Math.Seq.{take-length}
use Rattle.std.proofs.lemmas.Int.{of_z-to_z, to_z-of_z}
use Rattle.std.proofs.lemmas.List.{drop-append-le, drop_all, take-append-le}
use mir.ValLaws as laws
use Rattle.da_values.specs.declared.val.Val.{Val}
use Rattle.da_values.specs.declared.value.Value.{Value}
use Rattle.da_values.specs.declared.value.Value.TheVariants as kept
use Rattle.da_values.specs.Order.{val_cmp}
use Rattle.da_values.specs.Sets.{Ascends}
use Rattle.da_values.specs.Str.{IsTextByte}
use Rattle.msg_codec.specs.Packets.{joined, value_bytes}
use Rattle.msg_codec.specs.Pieces.{Begins, BeginsEach, AfterLetter, Carries}
use Rattle.msg_codec.proofs.Numbers.{same_short, same_word, same_long}
use Rattle.msg_codec.proofs.PieceLaws.{first_of, rest_of, some_bytes}

-- INTEGERS

-- an i64 as an i128
pub widened : (z : ℤ) → FitsSigned w64 z → cast_signed w128 (cast_unsigned w128 (cast_signed w64 (cast_unsigned w64 z))) ≡ z
widened z fits = ap (λ y. cast_signed w128 (cast_unsigned w128 y)) (to_z-of_z w64 z fits) ∙ to_z-of_z w128 z (record { sfits = omega (arith, fits.sfits) })

module _ (n : ℕ) (z : ℤ) (bytes left : List ℕ) (small : n < 2 ^ 64) (read : bytes ≡ to_be_bytes w64 n ++ left) (is : z ≡ cast_signed w64 n) where
  pub integer_there : (depth : ℕ) → AfterLetter depth (kept.Int z) 105 bytes left
  integer_there depth = rw is (refl, laws.to_z-Fits w64 n (record { fits = small }), read ∙ ap (λ k. to_be_bytes w64 k ++ left) (sym (of_z-to_z w64 n small)))

  pub integer_only : (depth : ℕ) (v : Value) (rest : List ℕ) → AfterLetter depth v 105 bytes rest → (kept.Int z ≡ v) × (left ≡ rest)
  integer_only depth (kept.Int k) rest (first, fits, there) =
      let same = same_long n (cast_unsigned w64 k) left rest small (laws.of_z_fits w64 k fits).fits (sym read ∙ there) in
      (ap kept.Int (is ∙ ap (cast_signed w64) same.0 ∙ to_z-of_z w64 k fits), same.1)
  integer_only depth (kept.Bool truth) rest there = absurd (omega (arith, there.0))
  integer_only depth (kept.Text text) rest there = absurd (omega (arith, there.0))
  integer_only depth (kept.Proc process) rest there = absurd (omega (arith, there.0))
  integer_only depth (kept.Tuple parts) rest there = absurd (omega (arith, there.0))
  integer_only depth (kept.Set elements) rest there = absurd (omega (arith, there.0))

-- TEXTS

module _ (n : ℕ) (bytes front text left : List ℕ) (small : length bytes ≤ 60000) (fits : n < 2 ^ 16) (read : bytes ≡ to_be_bytes w16 n ++ front) (is : text ≡ take n front) (behind : left ≡ drop n front) where
  -- the text that was meant stands there
  text_meant : (t rest : List ℕ) → bytes ≡ to_be_bytes w16 (length t) ++ (t ++ rest) → (text ≡ t) × (left ≡ rest)
  text_meant t rest there =
      let sizes : length bytes ≡ 2 + (length t + length rest) = ap length there ∙ omega (arith, length-append t rest) in
      let same = same_short n (length t) front (t ++ rest) fits (omega (arith, sizes, small)) (sym read ∙ there) in (
        is ∙ ap (λ k. take k front) same.0 ∙ ap (take (length t)) same.1 ∙ take-append-le (length t) t rest (omega arith) ∙ take-length t,
        behind ∙ ap (λ k. drop k front) same.0 ∙ ap (drop (length t)) same.1 ∙ drop-append-le (length t) t rest (omega arith) ∙ ap (λ none. none ++ rest) (drop_all (length t) t (omega arith)),
      )

  pub text_only : (depth : ℕ) (v : Value) (rest : List ℕ) → AfterLetter depth v 115 bytes rest → (kept.Text text ≡ v) × (left ≡ rest) × All IsTextByte text
  text_only depth (kept.Text t) rest (first, allowed, there) = let found = text_meant t rest there in (ap kept.Text found.0, found.1, subst (All IsTextByte) (sym found.0) allowed)
  text_only depth (kept.Int number) rest there = absurd (omega (arith, there.0))
  text_only depth (kept.Bool truth) rest there = absurd (omega (arith, there.0))
  text_only depth (kept.Proc process) rest there = absurd (omega (arith, there.0))
  text_only depth (kept.Tuple parts) rest there = absurd (omega (arith, there.0))
  text_only depth (kept.Set elements) rest there = absurd (omega (arith, there.0))

-- TUPLES AND SETS

-- there are no more values than bytes
pub most_values : (xs : List Val) → length xs ≤ length (joined (map value_bytes xs))
most_values [] = omega arith
most_values (x ∷ xs) = omega (arith, some_bytes x, most_values xs, length-append (value_bytes x) (joined (map value_bytes xs)))

pub tuple_there : (depth count : ℕ) (xs parts : List Val) (bytes front left : List ℕ) → 0 < depth → count ≤ 255 → bytes ≡ count ∷ front → BeginsEach (depth - 1) count xs front left → parts ≡ xs → AfterLetter depth (kept.Tuple parts) 116 bytes left
tuple_there depth count xs parts bytes front left some few read each is =
    rw is (refl, omega (arith, few, each.counted), (some, each.carried), read ∙ (λ i. sym each.counted i ∷ each.is i))

pub tuple_only : (depth count : ℕ) (bytes front : List ℕ) → bytes ≡ count ∷ front → (v : Value) (rest : List ℕ) → AfterLetter depth v 116 bytes rest → (parts : List Val) × (kept.Tuple parts ≡ v) × BeginsEach (depth - 1) count parts front rest
tuple_only depth count bytes front read (kept.Tuple parts) rest (first, few, inside, there) =
    let same = sym read ∙ there in
    (parts, refl, record { carried = inside.1; counted = sym (first_of _ _ _ _ same); is = rest_of _ _ _ _ same })
tuple_only depth count bytes front read (kept.Int number) rest there = absurd (omega (arith, there.0))
tuple_only depth count bytes front read (kept.Bool truth) rest there = absurd (omega (arith, there.0))
tuple_only depth count bytes front read (kept.Text text) rest there = absurd (omega (arith, there.0))
tuple_only depth count bytes front read (kept.Proc process) rest there = absurd (omega (arith, there.0))
tuple_only depth count bytes front read (kept.Set elements) rest there = absurd (omega (arith, there.0))

pub set_there : (depth count : ℕ) (xs elements : List Val) (bytes front left : List ℕ) → 0 < depth → bytes ≡ to_be_bytes w32 count ++ front → BeginsEach (depth - 1) count xs front left → elements ≡ xs → Ascends val_cmp elements → AfterLetter depth (kept.Set elements) 83 bytes left
set_there depth count xs elements bytes front left some read each is ascends = (
  refl,
  ascends,
  (some, subst (AllByRecursion (Carries (depth - 1))) (sym is) each.carried),
  read ∙ ap (λ t. to_be_bytes w32 count ++ t) each.is
      ∙ (λ i. to_be_bytes w32 (sym each.counted i) ++ (joined (map value_bytes xs) ++ left)) ∙ ap (λ ys. to_be_bytes w32 (length ys) ++ (joined (map value_bytes ys) ++ left)) (sym is),
)

pub set_only : (depth count : ℕ) (bytes front : List ℕ) → length bytes ≤ 60000 → count < 2 ^ 32 → bytes ≡ to_be_bytes w32 count ++ front → (v : Value) (rest : List ℕ) → AfterLetter depth v 83 bytes rest
    → (elements : List Val) × (kept.Set elements ≡ v) × Ascends val_cmp elements × BeginsEach (depth - 1) count elements front rest
set_only depth count bytes front small fits read (kept.Set elements) rest (first, ascends, inside, there) =
    let sizes : length bytes ≡ 4 + (length (joined (map value_bytes elements)) + length rest) = ap length there ∙ omega (arith, length-append (joined (map value_bytes elements)) rest) in
    let same = same_word count (length elements) front (joined (map value_bytes elements) ++ rest) fits (omega (arith, sizes, small, most_values elements)) (sym read ∙ there) in
    (elements, refl, ascends, record { carried = inside.1; counted = sym same.0; is = same.1 })
set_only depth count bytes front small fits read (kept.Int number) rest there = absurd (omega (arith, there.0))
set_only depth count bytes front small fits read (kept.Bool truth) rest there = absurd (omega (arith, there.0))
set_only depth count bytes front small fits read (kept.Text text) rest there = absurd (omega (arith, there.0))
set_only depth count bytes front small fits read (kept.Proc process) rest there = absurd (omega (arith, there.0))
set_only depth count bytes front small fits read (kept.Tuple parts) rest there = absurd (omega (arith, there.0))

-- SEVERAL VALUES

-- so many values, what is left, and that nothing else can have been meant
pub record ReadSoFar (depth count : ℕ) (bytes : List ℕ) (done : List Val) (left : List ℕ) (place : ℕ) : Type 0 where
  pub carried : AllByRecursion (Carries depth) done
  pub counted : length done ≡ place
  pub small : length left ≤ 60000
  pub is : bytes ≡ joined (map value_bytes done) ++ left
  pub only : (xs : List Val) (rest : List ℕ) → BeginsEach depth count xs bytes rest → (others : List Val) × (xs ≡ done ++ others) × BeginsEach depth (count - place) others left rest

pub nothing_read : (depth count : ℕ) (bytes : List ℕ) → length bytes ≤ 60000 → ReadSoFar depth count bytes [] bytes 0
nothing_read depth count bytes small = record {
  carried = tt;
  counted = refl;
  small = small;
  is = refl;
  only = λ xs rest each. (xs, refl, record { carried = each.carried; counted = omega (arith, each.counted); is = each.is });
}

all_push : (P : Val → Type 0) (xs : List Val) (x : Val) → AllByRecursion P xs → P x → AllByRecursion P (xs ++ x ∷ [])
all_push P [] x each here = (here, tt)
all_push P (y ∷ ys) x each here = (each.0, all_push P ys x each.1 here)

joined-push : (xs : List Val) (x : Val) → joined (map value_bytes (xs ++ x ∷ [])) ≡ joined (map value_bytes xs) ++ value_bytes x
joined-push [] x = append-nil (value_bytes x)
joined-push (y ∷ ys) x = ap (λ t. value_bytes y ++ t) (joined-push ys x) ∙ sym (append_assoc (value_bytes y) (joined (map value_bytes ys)) (value_bytes x))

-- the first of several
pub begins_first : (depth n : ℕ) (y : Val) (ys : List Val) (left rest : List ℕ) → BeginsEach depth n (y ∷ ys) left rest → Begins depth y left (joined (map value_bytes ys) ++ rest)
begins_first depth n y ys left rest each = record { carries = each.carried.0; is = each.is ∙ append_assoc (value_bytes y) (joined (map value_bytes ys)) rest }

module _ (depth count : ℕ) (bytes : List ℕ) (done : List Val) (left : List ℕ) (place : ℕ) (before : ReadSoFar depth count bytes done left place) where
  pub failed : (P : Type 0) → place < count → ((y : Val) (t : List ℕ) → Begins depth y left t → P) → (xs : List Val) (rest : List ℕ) → BeginsEach depth count xs bytes rest → P
  failed P more fails xs rest each = go (before.only xs rest each)
    where
      go : (others : List Val) × (xs ≡ done ++ others) × BeginsEach depth (count - place) others left rest → P
      go ([], same, here) = absurd (omega (arith, here.counted, more))
      go (y ∷ ys, same, here) = fails y (joined (map value_bytes ys) ++ rest) (begins_first depth (count - place) y ys left rest here)

  pub all_read : place ≡ count → BeginsEach depth count done bytes left
  all_read end = record { carried = before.carried; counted = before.counted ∙ end; is = before.is }

  pub only_these : place ≡ count → (xs : List Val) (rest : List ℕ) → BeginsEach depth count xs bytes rest → (done ≡ xs) × (left ≡ rest)
  only_these end xs rest each = go (before.only xs rest each)
    where
      go : (others : List Val) × (xs ≡ done ++ others) × BeginsEach depth (count - place) others left rest → (done ≡ xs) × (left ≡ rest)
      go ([], same, here) = (sym (same ∙ append-nil done), here.is)
      go (y ∷ ys, same, here) = absurd (omega (arith, here.counted, end))

  module _ (more : place < count) (x : Val) (next : List ℕ) (here : Begins depth x left next) (only : (y : Val) (t : List ℕ) → Begins depth y left t → (x ≡ y) × (next ≡ t)) where
    pub read_more : ReadSoFar depth count bytes (done ++ x ∷ []) next (place + 1)
    read_more = record {
      carried = all_push (Carries depth) done x before.carried here.carries;
      counted = omega (arith, length-append done (x ∷ []), before.counted);
      small = omega (arith, ap length here.is, length-append (value_bytes x) next, before.small);
      is = before.is ∙ ap (λ t. joined (map value_bytes done) ++ t) here.is ∙ sym (append_assoc (joined (map value_bytes done)) (value_bytes x) next) ∙ ap (λ t. t ++ next) (sym (joined-push done x));
      only = λ xs rest each. go xs rest (before.only xs rest each);
    }
      where
        go : (xs : List Val) (rest : List ℕ) → (others : List Val) × (xs ≡ done ++ others) × BeginsEach depth (count - place) others left rest
            → (others : List Val) × (xs ≡ (done ++ x ∷ []) ++ others) × BeginsEach depth (count - (place + 1)) others next rest
        go xs rest ([], same, there) = absurd (omega (arith, there.counted, more))
        go xs rest (y ∷ ys, same, there) =
            let found = only y (joined (map value_bytes ys) ++ rest) (begins_first depth (count - place) y ys left rest there) in (
              ys,
              same ∙ ap (λ v. done ++ v ∷ ys) (sym found.0) ∙ sym (append_assoc done (x ∷ []) ys),
              record { carried = there.carried.1; counted = omega (arith, there.counted, more); is = found.1 },
            )
