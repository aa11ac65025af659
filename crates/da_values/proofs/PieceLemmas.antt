-- How many bytes the piece at the front of a text has.
use Rattle.std.proofs.Common.{◌≡◌, ℕ, ◌+◌, ◌≤◌, Bool, true, false, not, cond, ◌&&◌, List, [], ◌∷◌, length, drop, refl, ap, arith, length-drop, length-append, ◌++◌, ◌||◌}
use Rattle.std.proofs.lemmas.Bool.Decides.{nat_tests, Decides-eqb}
use Rattle.std.proofs.lemmas.List.Folds.{length-prefix_len}
use Rattle.std.proofs.lemmas.List.Sums.{prefix_len-le-length}
use Rattle.std.specs.Char.{is_ascii_digit}
use Rattle.std.proofs.lemmas.Slice.Eq.{starts_is}
use Rattle.std.specs.List.{prefix_len, starts_with, list_all}
use Rattle.std.specs.Prelude.{Option, Some, None, is_some, IfSome, nat_le, ◌==◌, if◌then◌else◌, take_while}
use Rattle.da_values.specs.declared.token.Piece.{Piece}
use Rattle.da_values.specs.Piece.{is_plain, is_dropped, ends_line, in_comment, in_quotes, begins_name, in_name, quote_end, quoted, leads_with_zero, number_of, number, symbol, piece, size}
use Rattle.da_values.specs.Words.{Entry, symbols, at_front, front_symbol}

-- a piece has a byte, and no more than there are
pub record PieceFits (p : Piece) (len : ℕ) : Type 0 where
  pub some : 1 ≤ size p
  pub within : size p ≤ len

chosen : (b : Bool) (p q : Piece) (len : ℕ) → (b ≡ true → PieceFits p len) → (b ≡ false → PieceFits q len) → PieceFits (if b then p else q) len
chosen true p q len first second = first refl
chosen false p q len first second = second refl

one : (p : Piece) (b : ℕ) (z : List ℕ) → size p ≡ 1 → PieceFits p (length (b ∷ z))
one p b z e = record { some = omega arith; within = omega arith }

prefix-some : (test : ℕ → Bool) (b : ℕ) (z : List ℕ) → test b ≡ true → 1 ≤ prefix_len test (b ∷ z)
prefix-some test b z passes = rw passes (omega arith)

quote_end-within : (n : ℕ) (z : List ℕ) → PieceFits (quote_end n z) (n + 1 + length z)
quote_end-within n [] = record { some = omega arith; within = omega arith }
quote_end-within n (c ∷ z) =
    chosen (c == 39) _ _ _
    (λ yes. record { some = omega arith; within = omega arith })
    (λ no. chosen (ends_line (c ∷ z)) _ _ _ (λ e. record { some = omega arith; within = omega arith }) (λ e. record { some = omega arith; within = omega arith }))

quoted-within : (b : ℕ) (z : List ℕ) → PieceFits (quoted z) (length (b ∷ z))
unfolding quoted
quoted-within b z =
    let n = prefix_len in_quotes z in
    let e : n + 1 + length (drop n z) ≡ length (b ∷ z) = omega (arith, length-drop n z, prefix_len-le-length in_quotes z) in
    rw e at (quote_end-within n (drop n z))

number-within : (digits : List ℕ) (len : ℕ) → 1 ≤ length digits → length digits ≤ len → PieceFits (number digits) len
unfolding number
number-within digits len some within =
    chosen (leads_with_zero digits || not (is_some (number_of digits))) _ _ _
    (λ e. record { some = omega arith; within = omega arith }) (λ e. record { some = some; within = within })

taken-some : (test : ℕ → Bool) (b : ℕ) (z : List ℕ) → test b ≡ true → 1 ≤ length (take_while test (b ∷ z))
taken-some test b z passes = rw length-prefix_len (prefix-some test b z passes)

taken-within : (test : ℕ → Bool) (text : List ℕ) → length (take_while test text) ≤ length text
taken-within test text = rw length-prefix_len (prefix_len-le-length test text)

begins-in : (b : ℕ) → begins_name b ≡ true → in_name b ≡ true
begins-in b begins = grind (arith, nat_tests)

symbol-within : (text : List ℕ) (found : Option Entry) → IfSome found (λ entry. (1 ≤ length entry.0) × (length entry.0 ≤ length text)) → 1 ≤ length text → PieceFits (symbol found) (length text)
symbol-within text (Some entry) fits some = record { some = fits.0; within = fits.1 }
symbol-within text None fits some = record { some = omega arith; within = some }

and_both : (a b : Bool) → (a && b) ≡ true → (a ≡ true) × (b ≡ true)
and_both true b e = (refl, e)
and_both false b e = (e, cc)

starts-within : (text spelling : List ℕ) → starts_with ◌==◌ text spelling ≡ true → length spelling ≤ length text
starts-within text spelling starts =
    let is : text ≡ spelling ++ drop (length spelling) text = (starts_is Decides-eqb text spelling (starts_with ◌==◌ text spelling) refl).0 starts in
    omega (arith, ap length is, length-append spelling (drop (length spelling) text))

at_front-within : (text : List ℕ) (table : List Entry) → list_all (λ entry. nat_le 1 (length entry.0)) table ≡ true
    → IfSome (at_front table text) (λ entry. (1 ≤ length entry.0) × (length entry.0 ≤ length text))
at_front-within text [] all = tt
at_front-within text (entry ∷ table) all =
    let both : (nat_le 1 (length entry.0) ≡ true) × (list_all (λ (e : Entry). nat_le 1 (length e.0)) table ≡ true) = and_both _ _ all in
    found (starts_with ◌==◌ text entry.0) refl
    (λ starts. (grind (arith, nat_tests, both.0), starts-within text entry.0 starts)) (at_front-within text table both.1)
  where
    found : (b : Bool) → starts_with ◌==◌ text entry.0 ≡ b → (b ≡ true → (1 ≤ length entry.0) × (length entry.0 ≤ length text))
        → IfSome (at_front table text) (λ e. (1 ≤ length e.0) × (length e.0 ≤ length text))
        → IfSome (cond b (Some entry) (at_front table text)) (λ e. (1 ≤ length e.0) × (length e.0 ≤ length text))
    found true is here more = here refl
    found false is here more = more

symbols-some : list_all (λ (entry : Entry). nat_le 1 (length entry.0)) symbols ≡ true
unfolding symbols
symbols-some = refl

pub piece-within : (b : ℕ) (z : List ℕ) → PieceFits (piece b z) (length (b ∷ z))
unfolding piece
piece-within b z =
    chosen (b == 32) _ _ _ (λ e. one _ b z refl) (λ e.
    chosen (b == 10) _ _ _ (λ e. one _ b z refl) (λ e.
    chosen (is_dropped b z) _ _ _ (λ e. one _ b z refl) (λ e.
    chosen (b == 35) _ _ _ (λ e. record { some = prefix-some in_comment b z (grind (arith, nat_tests)); within = prefix_len-le-length in_comment (b ∷ z) }) (λ e.
    chosen (b == 39) _ _ _ (λ e. quoted-within b z) (λ e.
    chosen (is_ascii_digit b) _ _ _ (λ e. number-within (take_while is_ascii_digit (b ∷ z)) _ (taken-some is_ascii_digit b z e) (taken-within is_ascii_digit (b ∷ z))) (λ e.
    chosen (begins_name b) _ _ _ (λ e. record { some = taken-some in_name b z (begins-in b e); within = taken-within in_name (b ∷ z) }) (λ e.
    chosen (is_plain b) _ _ _ (λ e. symbol-within (b ∷ z) (front_symbol (b ∷ z)) (at_front-within (b ∷ z) symbols symbols-some) (omega arith)) (λ e.
    one _ b z refl))))))))
