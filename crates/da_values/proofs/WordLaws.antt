-- The words of value text: each is the text of one value at most.
use Rattle.std.specs.Prelude.{◌≡◌, ℕ, ℤ, ◌^◌, ◌<◌, ◌≤◌, Bool, true, false, FitsSigned, List, ◌∷◌, ◌++◌, codes, decimal, refl}
use Rattle.std.specs.Cmp.Lexicographic.{pointwise}
use Rattle.std.specs.Fmt.{signed_decimal}
use Rattle.std.specs.Int.{w128}
use Rattle.std.proofs.Common.{◌∙◌, ap, sym, arith, eqb}
use Rattle.std.proofs.lemmas.Bool.Decides.{Decides-eqb}
use Rattle.std.proofs.lemmas.Slice.Eq.{slice_eq-Decides}
use Rattle.da_values.specs.declared.value.Value.{Value}
use Rattle.da_values.specs.declared.value.Value.TheVariants.{Int, Bool as Truth, Text, Proc, Tuple, Set}
use Rattle.da_values.specs.Reading.{truth_text, IsWordOf}
use Rattle.da_values.proofs.Numerals.{decimal_injective_wide, first-signed_decimal, signed_decimal_injective_wide}

-- what `==` found
pub same_bytes : (xs ys zs : List ℕ) → true ≡ pointwise eqb xs ys → ys ≡ zs → xs ≡ zs
same_bytes xs ys zs tested same = (slice_eq-Decides Decides-eqb xs ys true tested).0 refl ∙ same

pub first_same : (a b : ℕ) (xs ys : List ℕ) → a ∷ xs ≡ b ∷ ys → a ≡ b
first_same a b xs ys e = cc

-- a word that begins with a letter is no integer
no_integer : (z : ℤ) (word : List ℕ) (d : ℕ) (rest : List ℕ) → FitsSigned w128 z → word ≡ signed_decimal z → word ≡ d ∷ rest → 58 ≤ d → ⊥
no_integer z word d rest fits is begins letter =
    let first = first-signed_decimal z fits in
    omega (arith, first_same d first.0 rest first.1 (sym begins ∙ is ∙ first.2), letter, first.4)

truth_apart : (b c : Bool) → truth_text b ≡ truth_text c → b ≡ c
truth_apart true true e = refl
truth_apart false false e = refl
truth_apart true false e = absurd (cc)
truth_apart false true e = absurd (cc)

no_truth_integer : (b : Bool) (z : ℤ) (word : List ℕ) → word ≡ truth_text b → FitsSigned w128 z → word ≡ signed_decimal z → ⊥
no_truth_integer true z word h fits is = no_integer z word 116 _ fits is h (omega arith)
no_truth_integer false z word h fits is = no_integer z word 102 _ fits is h (omega arith)

no_truth_begins : (b : Bool) (rest : List ℕ) → truth_text b ≡ codes "p" ++ rest → ⊥
no_truth_begins true rest e = absurd (omega (arith, first_same 116 112 _ _ e))
no_truth_begins false rest e = absurd (omega (arith, first_same 102 112 _ _ e))

no_truth_process : (b : Bool) (p : ℕ) (word : List ℕ) → word ≡ truth_text b → word ≡ codes "p" ++ decimal p → ⊥
no_truth_process b p word h is = no_truth_begins b (decimal p) (sym h ∙ is)

pub one_word : (word : List ℕ) (v w : Value) → IsWordOf word v → IsWordOf word w → v ≡ w
one_word word (Int y) (Int z) h k = ap Int (signed_decimal_injective_wide y z h.0 k.0 (sym h.1 ∙ k.1))
one_word word (Int y) (Truth c) h k = absurd (no_truth_integer c y word k h.0 h.1)
one_word word (Int y) (Proc q) h k = absurd (no_integer y word 112 (decimal q) h.0 h.1 k.2 (omega arith))
one_word word (Int y) (Text t) h k = absurd k
one_word word (Int y) (Tuple t) h k = absurd k
one_word word (Int y) (Set t) h k = absurd k
one_word word (Truth b) (Int z) h k = absurd (no_truth_integer b z word h k.0 k.1)
one_word word (Truth b) (Truth c) h k = ap Truth (truth_apart b c (sym h ∙ k))
one_word word (Truth b) (Proc q) h k = absurd (no_truth_process b q word h k.2)
one_word word (Truth b) (Text t) h k = absurd k
one_word word (Truth b) (Tuple t) h k = absurd k
one_word word (Truth b) (Set t) h k = absurd k
one_word word (Proc p) (Int z) h k = absurd (no_integer z word 112 (decimal p) k.0 k.1 h.2 (omega arith))
one_word word (Proc p) (Truth c) h k = absurd (no_truth_process c p word k h.2)
one_word word (Proc p) (Proc q) h k =
    let same : 112 ∷ decimal p ≡ 112 ∷ decimal q = sym h.2 ∙ k.2 in
    ap Proc (decimal_injective_wide p q (omega (arith, h.1)) (omega (arith, k.1)) (cc))
one_word word (Proc p) (Text t) h k = absurd k
one_word word (Proc p) (Tuple t) h k = absurd k
one_word word (Proc p) (Set t) h k = absurd k
one_word word (Text t) w h k = absurd h
one_word word (Tuple t) w h k = absurd h
one_word word (Set t) w h k = absurd h

-- a word that begins with `p` is a process at most
pub only_process : (word digits : List ℕ) (v : Value) → word ≡ codes "p" ++ digits → IsWordOf word v → (p : ℕ) × (v ≡ Proc p) × (0 < p) × (p < 2 ^ 16) × (digits ≡ decimal p)
only_process word digits (Int z) begins h = absurd (no_integer z word 112 digits h.0 h.1 begins (omega arith))
only_process word digits (Truth b) begins h = absurd (no_truth_begins b digits (sym h ∙ begins))
only_process word digits (Proc p) begins h =
    let same : 112 ∷ digits ≡ 112 ∷ decimal p = sym begins ∙ h.2 in
    (p, refl, h.0, h.1, cc)
only_process word digits (Text t) begins h = absurd h
only_process word digits (Tuple t) begins h = absurd h
only_process word digits (Set t) begins h = absurd h
