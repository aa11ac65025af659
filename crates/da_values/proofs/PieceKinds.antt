-- What kinds of tokens pieces are, and where a line ends.
use Rattle.std.proofs.Common.{◌≡◌, ℕ, ◌+◌, ◌≤◌, Bool, true, false, not, cond, ◌||◌, List, ◌∷◌, drop, refl, arith}
use Rattle.std.proofs.lemmas.List.Sums.{sum_by-cons}
use Rattle.std.specs.Char.{is_ascii_digit}
use Rattle.std.specs.List.{prefix_len}
use Rattle.std.specs.Prelude.{Option, Some, None, is_some, codes, ◌==◌, if◌then◌else◌, slice_index, take_while, count_by}
use Rattle.std.specs.Str.{bytes_eq}
use Rattle.da_values.specs.declared.token.LexKind.TheVariants as fault
use Rattle.da_values.specs.declared.token.Piece.{Piece}
use Rattle.da_values.specs.declared.token.Piece.TheVariants as piece_is
use Rattle.da_values.specs.declared.token.TokenKind.{TokenKind}
use Rattle.da_values.specs.Piece.{is_plain, is_dropped, ends_line, in_comment, in_quotes, begins_name, in_name, quoted, leads_with_zero, number_of, number, name_kind, named, symbol, piece}
use Rattle.da_values.specs.TokenFacts.{has_bytes}
use Rattle.da_values.specs.Words.{Entry, words, spelled, front_symbol}

-- a token's kind has bytes
abbrev pub IsRead : Piece → Type 0
IsRead (piece_is.Token k n) = has_bytes k ≡ true
IsRead _ = Unit {0}

-- how many lines a piece ends
abbrev pub ends : Piece → ℕ
ends piece_is.LineEnd = 1
ends _ = 0

chosen : (P : Piece → Type 0) (b : Bool) (p q : Piece) → P p → P q → P (if b then p else q)
chosen P true p q first second = first
chosen P false p q first second = second

quoted-read : (z : List ℕ) → IsRead (quoted z)
unfolding quoted
quoted-read z =
    let rest = drop (prefix_len in_quotes z) z in
    chosen IsRead (slice_index rest 0 == 39) _ _ refl (chosen IsRead (ends_line rest) _ _ tt tt)

number-read : (digits : List ℕ) → IsRead (number digits)
unfolding number
number-read digits = chosen IsRead (leads_with_zero digits || not (is_some (number_of digits))) _ _ tt refl

chosen_kind : (b : Bool) (k l : TokenKind) → has_bytes k ≡ true → has_bytes l ≡ true → has_bytes (if b then k else l) ≡ true
chosen_kind true k l first second = first
chosen_kind false k l first second = second

name_kind-read : (name : List ℕ) → has_bytes (name_kind name) ≡ true
unfolding name_kind
name_kind-read name = chosen_kind (bytes_eq name (codes "_")) _ _ refl (chosen_kind (is_some (spelled words name)) _ _ refl refl)

symbol-read : (found : Option Entry) → IsRead (symbol found)
symbol-read (Some entry) = refl
symbol-read None = tt

pub piece-read : (b : ℕ) (z : List ℕ) → IsRead (piece b z)
unfolding piece
piece-read b z =
    chosen IsRead (b == 32) _ _ tt (chosen IsRead (b == 10) _ _ tt (chosen IsRead (is_dropped b z) _ _ tt (chosen IsRead (b == 35) _ _ tt
    (chosen IsRead (b == 39) _ _ (quoted-read z)
    (chosen IsRead (is_ascii_digit b) _ _ (number-read (take_while is_ascii_digit (b ∷ z)))
    (chosen IsRead (begins_name b) _ _ (name_kind-read (take_while in_name (b ∷ z)))
    (chosen IsRead (is_plain b) _ _ (symbol-read (front_symbol (b ∷ z))) tt)))))))

-- a line ends at LF alone
abbrev EndsAt : Bool → Piece → Type 0
EndsAt is_lf p = ends p ≤ (if is_lf then 1 else 0)

quoted-ends : (z : List ℕ) → EndsAt false (quoted z)
unfolding quoted
quoted-ends z =
    let rest = drop (prefix_len in_quotes z) z in
    chosen (EndsAt false) (slice_index rest 0 == 39) _ _ (omega arith) (chosen (EndsAt false) (ends_line rest) _ _ (omega arith) (omega arith))

number-ends : (digits : List ℕ) → EndsAt false (number digits)
unfolding number
number-ends digits = chosen (EndsAt false) (leads_with_zero digits || not (is_some (number_of digits))) _ _ (omega arith) (omega arith)

symbol-ends : (found : Option Entry) → EndsAt false (symbol found)
symbol-ends (Some entry) = omega arith
symbol-ends None = omega arith

none_ends : (is_lf : Bool) (p : Piece) → EndsAt false p → EndsAt is_lf p
none_ends true p none = omega (arith, none)
none_ends false p none = none

line_end-ends : (is_lf : Bool) (p : Piece) → ends p ≤ 1 → is_lf ≡ true → EndsAt is_lf p
line_end-ends true p one lf = one
line_end-ends false p one lf = absurd (cc)

chosen_if : (P : Piece → Type 0) (b : Bool) (p q : Piece) → (b ≡ true → P p) → P q → P (if b then p else q)
chosen_if P true p q first second = first refl
chosen_if P false p q first second = second

piece-ends : (b : ℕ) (z : List ℕ) → EndsAt (b == 10) (piece b z)
unfolding piece
piece-ends b z =
    let P = EndsAt (b == 10) in
    let none : (p : Piece) → EndsAt false p → P p = none_ends (b == 10) in
    chosen P (b == 32) _ _ (none piece_is.Space (omega arith))
    (chosen_if P (b == 10) _ _ (line_end-ends (b == 10) piece_is.LineEnd (omega arith))
    (chosen P (is_dropped b z) _ _ (none (piece_is.Passed 1) (omega arith))
    (chosen P (b == 35) _ _ (none (piece_is.Passed (prefix_len in_comment (b ∷ z))) (omega arith))
    (chosen P (b == 39) _ _ (none (quoted z) (quoted-ends z))
    (chosen P (is_ascii_digit b) _ _ (none (number (take_while is_ascii_digit (b ∷ z))) (number-ends (take_while is_ascii_digit (b ∷ z))))
    (chosen P (begins_name b) _ _ (none (named (take_while in_name (b ∷ z))) (omega arith))
    (chosen P (is_plain b) _ _ (none (symbol (front_symbol (b ∷ z))) (symbol-ends (front_symbol (b ∷ z)))) (none (piece_is.Fault fault.BadByte) (omega arith)))))))))

pub line-ends : (b : ℕ) (z : List ℕ) → ends (piece b z) + count_by (λ c. c == 10) z ≤ count_by (λ c. c == 10) (b ∷ z)
line-ends b z = omega (arith, piece-ends b z, sum_by-cons (λ (c : ℕ). cond (c == 10) 1 0) b z)
