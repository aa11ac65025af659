-- The bytes of a token, taken alone, make the same token.
use Rattle.std.proofs.Common.{◌≡◌, ◌≢◌, ℕ, zero, suc, ◌+◌, ◌≤◌, Bool, true, false, cond, not, ◌&&◌, ◌||◌, List, [], ◌∷◌, ◌++◌, map, length, take, drop, refl, sym, ap, ◌∙◌, arith}
use Rattle.std.proofs.lemmas.Bool.Decides.{Decides-eqb}
use Rattle.std.proofs.lemmas.List.{drop-take, take-take, length-take-le}
use Rattle.std.proofs.lemmas.List.Folds.{length-prefix_len}
use Rattle.std.proofs.Math.Seq.{take-append_seam}
use Rattle.std.proofs.lemmas.Slice.Eq.{starts_is}
use Rattle.std.specs.Char.{is_ascii_digit}
use Rattle.std.specs.List.{prefix_len, starts_with}
use Rattle.std.specs.Prelude.{Option, Some, None, is_some, take_while, find, ◌==◌, if◌then◌else◌}
use Rattle.da_values.specs.declared.token.LexKind.TheVariants as fault
use Rattle.da_values.specs.declared.token.Piece.{Piece}
use Rattle.da_values.specs.declared.token.Piece.TheVariants as piece_is
use Rattle.da_values.specs.declared.token.TokenKind.{TokenKind}
use Rattle.da_values.specs.declared.token.TokenKind.TheVariants as kind
use Rattle.da_values.specs.Piece.{is_plain, is_dropped, ends_line, in_quotes, begins_name, in_name, quote_end, quoted, leads_with_zero, number_of, number, named, symbol, piece, front, size}
use Rattle.da_values.specs.Words.{Entry, symbols, front_symbol}
use Rattle.da_values.proofs.PieceLemmas.{piece-within}
use Rattle.da_values.proofs.WordLemmas.{longest_first}

-- ---- prefixes of a list that is cut after them

-- the prefix that passes stays as long
prefix_kept : (p : ℕ → Bool) (z : List ℕ) (k : ℕ) → prefix_len p z ≤ k → prefix_len p (take k z) ≡ prefix_len p z
prefix_kept p [] zero le = refl
prefix_kept p [] (suc k) le = refl
prefix_kept p (b ∷ z) zero le = omega arith
prefix_kept p (b ∷ z) (suc k) le = step (p b) le (prefix_kept p z k)
  where
    step : (c : Bool) → cond c (1 + prefix_len p z) 0 ≤ suc k → (prefix_len p z ≤ k → prefix_len p (take k z) ≡ prefix_len p z)
        → cond c (1 + prefix_len p (take k z)) 0 ≡ cond c (1 + prefix_len p z) 0
    step true le same = ap (λ n. 1 + n) (same (omega arith))
    step false le same = refl

taken_kept : (p : ℕ → Bool) (z : List ℕ) (k : ℕ) → prefix_len p z ≤ k → take_while p (take k z) ≡ take_while p z
taken_kept p z k le = ap (λ n. take n (take k z)) (prefix_kept p z k le) ∙ take-take (prefix_len p z) k z le

-- the first byte and those after it that belong to it
taken_front : (p : ℕ → Bool) (b : ℕ) (z : List ℕ) (n : ℕ) → length (take_while p (b ∷ z)) ≡ suc n → take_while p (b ∷ take n z) ≡ take_while p (b ∷ z)
taken_front p b z n e = taken_kept p (b ∷ z) (suc n) (omega (arith, length-prefix_len p (b ∷ z)))

-- ---- the first entry of a table that passes

find_passes : (p : Entry → Bool) (table : List Entry) (entry : Entry) → find p table ≡ Some entry → p entry ≡ true
find_passes p [] entry e = cc
find_passes p (first ∷ table) entry e = step (p first) refl (find_passes p table entry) e
  where
    step : (c : Bool) → p first ≡ c → (find p table ≡ Some entry → p entry ≡ true) → cond c (Some first) (find p table) ≡ Some entry → p entry ≡ true
    step true is more e = cc
    step false is more e = more e

-- what holds of each entry of a table holds of the one that is found
find_own : (f : Entry → Option Entry) (p : Entry → Bool) (table : List Entry) (entry : Entry) → map f table ≡ map Some table → find p table ≡ Some entry → f entry ≡ Some entry
find_own f p [] entry own e = cc
find_own f p (first ∷ table) entry own e = step (p first) (find_own f p table entry (cc)) e
  where
    step : (c : Bool) → (find p table ≡ Some entry → f entry ≡ Some entry) → cond c (Some first) (find p table) ≡ Some entry → f entry ≡ Some entry
    step true more e = cc
    step false more e = more e

-- ---- the pieces that are tokens

-- the kind of a token and how many bytes it has
token_same : {k l : TokenKind} {m n : ℕ} → piece_is.Token k m ≡ piece_is.Token l n → (k ≡ l) × (m ≡ n)
token_same e = (cc, cc)

-- a choice by a test that comes out as before
go_on : (c : Bool) {p q r s t : Piece} → (p ≡ t → r ≡ t) → (q ≡ t → s ≡ t) → (if c then p else q) ≡ t → (if c then r else s) ≡ t
go_on true first second = first
go_on false first second = second

-- a choice of the second by a test, and by another that fails where the first does
go_on_if : (c d : Bool) {p q s t : Piece} (r : Piece) → (c ≡ false → d ≡ false) → p ≢ t → (q ≡ t → s ≡ t) → (if c then p else q) ≡ t → (if d then r else s) ≡ t
go_on_if true d r fails first second e = absurd (first e)
go_on_if false true r fails first second e = (let never = fails refl in absurd (cc))
go_on_if false false r fails first second e = second e

quote_end-alone : (m : ℕ) (w : List ℕ) (k : TokenKind) (n : ℕ) → quote_end m w ≡ piece_is.Token k (suc n) → (n ≡ m + 1) × (quote_end m (take 1 w) ≡ piece_is.Token k (suc n))
quote_end-alone m [] k n e = absurd (cc)
quote_end-alone m (b ∷ w) k n e = step (b == 39) (ends_line (b ∷ w)) e
  where
    step : (c d : Bool) → (if c then piece_is.Token kind.Quoted (m + 2) else if d then piece_is.Fault fault.Unclosed else piece_is.Fault fault.BadByte) ≡ piece_is.Token k (suc n)
        → (n ≡ m + 1) × ((if c then piece_is.Token kind.Quoted (m + 2) else if ends_line (b ∷ []) then piece_is.Fault fault.Unclosed else piece_is.Fault fault.BadByte) ≡ piece_is.Token k (suc n))
    step true d e = let long = (token_same e).1 in (omega arith, e)
    step false true e = absurd (cc)
    step false false e = absurd (cc)

-- a text literal ends at its second quote
quoted-alone : (z : List ℕ) (k : TokenKind) (n : ℕ) → quoted z ≡ piece_is.Token k (suc n) → quoted (take n z) ≡ piece_is.Token k (suc n)
unfolding quoted
quoted-alone z k n e =
    let m = prefix_len in_quotes z in
    let (long, ends) = quote_end-alone m (drop m z) k n e in
    let bytes : prefix_len in_quotes (take n z) ≡ m = prefix_kept in_quotes z n (omega arith) in
    let left : drop m (take n z) ≡ take 1 (drop m z) = ap (λ j. drop m (take j z)) long ∙ drop-take m 1 z in
    ap (λ j. quote_end j (drop j (take n z))) bytes ∙ ap (quote_end m) left ∙ ends

number_length : (digits : List ℕ) (k : TokenKind) (n : ℕ) → number digits ≡ piece_is.Token k n → length digits ≡ n
unfolding number
number_length digits k n e = step (leads_with_zero digits || not (is_some (number_of digits))) e
  where
    step : (c : Bool) → (if c then piece_is.Fault fault.BadToken else piece_is.Token kind.Number (length digits)) ≡ piece_is.Token k n → length digits ≡ n
    step true e = absurd (cc)
    step false e = (token_same e).1

number-alone : (b : ℕ) (z : List ℕ) (k : TokenKind) (n : ℕ) → number (take_while is_ascii_digit (b ∷ z)) ≡ piece_is.Token k (suc n)
    → number (take_while is_ascii_digit (b ∷ take n z)) ≡ piece_is.Token k (suc n)
number-alone b z k n e = ap number (taken_front is_ascii_digit b z n (number_length (take_while is_ascii_digit (b ∷ z)) k (suc n) e)) ∙ e

named-alone : (b : ℕ) (z : List ℕ) (k : TokenKind) (n : ℕ) → named (take_while in_name (b ∷ z)) ≡ piece_is.Token k (suc n)
    → named (take_while in_name (b ∷ take n z)) ≡ piece_is.Token k (suc n)
named-alone b z k n e = ap named (taken_front in_name b z n (token_same e).1) ∙ e

-- the bytes of a symbol are the spelling of its entry, which finds itself
symbol_found : (b : ℕ) (z : List ℕ) (k : TokenKind) (n : ℕ) (found : Option Entry) → front_symbol (b ∷ z) ≡ found → symbol found ≡ piece_is.Token k (suc n)
    → front_symbol (b ∷ take n z) ≡ found
symbol_found b z k n None is e = absurd (cc)
symbol_found b z k n (Some entry) is e =
    let starts = find_passes (λ (entry : Entry). starts_with ◌==◌ (b ∷ z) entry.0) symbols entry is in
    let whole : b ∷ z ≡ entry.0 ++ drop (length entry.0) (b ∷ z) = (starts_is Decides-eqb (b ∷ z) entry.0 (starts_with ◌==◌ (b ∷ z) entry.0) refl).0 starts in
    let bytes : b ∷ take n z ≡ entry.0 = ap (λ j. take j (b ∷ z)) (sym (token_same e).1) ∙ ap (take (length entry.0)) whole ∙ take-append_seam entry.0 (drop (length entry.0) (b ∷ z)) in
    ap front_symbol bytes ∙ find_own (λ (entry : Entry). front_symbol entry.0) (λ (entry : Entry). starts_with ◌==◌ (b ∷ z) entry.0) symbols entry longest_first is

symbol-alone : (b : ℕ) (z : List ℕ) (k : TokenKind) (n : ℕ) → symbol (front_symbol (b ∷ z)) ≡ piece_is.Token k (suc n)
    → symbol (front_symbol (b ∷ take n z)) ≡ piece_is.Token k (suc n)
symbol-alone b z k n e = ap symbol (symbol_found b z k n (front_symbol (b ∷ z)) refl e) ∙ e

dropped-alone : (b : ℕ) (z : List ℕ) (n : ℕ) → is_dropped b z ≡ false → is_dropped b (take n z) ≡ false
dropped-alone b z zero e = and_false (b == 13)
  where
    and_false : (c : Bool) → (c && false) ≡ false
    and_false true = refl
    and_false false = refl
dropped-alone b [] (suc n) e = e
dropped-alone b (c ∷ z) (suc n) e = e

-- the bytes of the token at the front of a text, of which the first is b
piece-alone : (b : ℕ) (z : List ℕ) (k : TokenKind) (n : ℕ) → piece b z ≡ piece_is.Token k (suc n) → piece b (take n z) ≡ piece_is.Token k (suc n)
unfolding piece
piece-alone b z k n e =
    go_on (b == 32) (λ e. absurd (cc)) (
    go_on (b == 10) (λ e. absurd (cc)) (
    go_on_if (is_dropped b z) (is_dropped b (take n z)) (piece_is.Passed 1) (dropped-alone b z n) (λ e. absurd (cc)) (
    go_on (b == 35) (λ e. absurd (cc)) (
    go_on (b == 39) (quoted-alone z k n) (
    go_on (is_ascii_digit b) (number-alone b z k n) (
    go_on (begins_name b) (named-alone b z k n) (
    go_on (is_plain b) (symbol-alone b z k n) (λ e. e)))))))) e

-- a token's bytes make that token
pub token_alone : (z : List ℕ) (k : TokenKind) (n : ℕ) → front z ≡ piece_is.Token k n → front (take n z) ≡ piece_is.Token k n
token_alone [] k n e = absurd (cc)
token_alone (b ∷ z) k zero e = (let within = piece-within b z in absurd (omega (arith, within.some, ap size e)))
token_alone (b ∷ z) k (suc n) e = piece-alone b z k n e

-- the bytes of a token are as many as it says
pub token_length : (z : List ℕ) (k : TokenKind) (n : ℕ) → front z ≡ piece_is.Token k n → length (take n z) ≡ n
token_length [] k n e = absurd (cc)
token_length (b ∷ z) k n e = (let within = piece-within b z in length-take-le n (b ∷ z) (omega (arith, within.within, ap size e)))
