-- A token's bytes with more bytes after them begin with the same token; and what its first byte is, by its mark.
use Rattle.std.proofs.Common.{◌≡◌, ◌≢◌, ℕ, ◌+◌, ◌<◌, Bool, true, false, cond, not, ◌&&◌, ◌||◌, List, [], ◌∷◌, ◌++◌, map, length, take, drop, length-drop, refl, sym, ap, ◌∙◌, subst, arith, inl, inr}
use Rattle.std.proofs.lemmas.Bool.Decides.{nat_tests}
use Rattle.std.proofs.lemmas.List.{take_all, drop-append-le}
use Rattle.std.proofs.lemmas.List.Folds.{length-prefix_len}
use Rattle.std.proofs.Math.Seq.{take-append_seam}
use Rattle.std.specs.Char.{is_ascii_digit}
use Rattle.std.specs.List.{prefix_len, starts_with}
use Rattle.std.specs.Prelude.{◌⊎◌, Some, is_some, find, slice_index, take_while, ◌==◌, if◌then◌else◌}
use Rattle.da_values.specs.declared.token.LexKind.TheVariants as fault
use Rattle.da_values.specs.declared.token.Mark.{Mark}
use Rattle.da_values.specs.declared.token.Mark.TheVariants as m
use Rattle.da_values.specs.declared.token.Piece.{Piece}
use Rattle.da_values.specs.declared.token.Piece.TheVariants as piece_is
use Rattle.da_values.specs.declared.token.TokenKind.{TokenKind}
use Rattle.da_values.specs.declared.token.TokenKind.TheVariants as kind
use Rattle.da_values.specs.Piece.{is_dropped, ends_line, in_quotes, begins_name, in_name, quote_end, quoted, leads_with_zero, number_of, number, named, piece, front}
use Rattle.da_values.specs.Words.{Entry, symbols}
use Rattle.da_unparse.specs.Printable.{Makes, opens, closes, divides, stands_alone, begins_equal, is_number, leads}
use Rattle.da_unparse.proofs.LexedMarks.{find_same, ends, is_assign, is_minus, alone_more, assign_more, minus_more, ends_more, begins_other, is_other, IsOther, IsSymbol, shape}

-- ---- prefixes of a list that goes on

-- a list that passes as a whole ends where the next byte fails
taken_whole : (p : ℕ → Bool) (xs : List ℕ) (c : ℕ) (w : List ℕ) → length (take_while p xs) ≡ length xs → p c ≡ false → prefix_len p (xs ++ c ∷ w) ≡ length xs
taken_whole p [] c w all fails = ap (λ b. cond b (1 + prefix_len p w) 0) fails
taken_whole p (x ∷ xs) c w all fails = step (p x) (omega (arith, all, length-prefix_len p (x ∷ xs))) (λ more. taken_whole p xs c w (length-prefix_len p xs ∙ more) fails)
  where
    step : (d : Bool) → cond d (1 + prefix_len p xs) 0 ≡ 1 + length xs → (prefix_len p xs ≡ length xs → prefix_len p (xs ++ c ∷ w) ≡ length xs)
        → cond d (1 + prefix_len p (xs ++ c ∷ w)) 0 ≡ length (x ∷ xs)
    step true e more = let rest = more (omega arith) in omega arith
    step false e more = absurd (omega arith)

-- what is taken is all of it, before and after
taken_same : (p : ℕ → Bool) (xs : List ℕ) (c : ℕ) (w : List ℕ) → length (take_while p xs) ≡ length xs → p c ≡ false → take_while p (xs ++ c ∷ w) ≡ take_while p xs
taken_same p xs c w all fails =
    ap (λ n. take n (xs ++ c ∷ w)) (taken_whole p xs c w all fails) ∙ take-append_seam xs (c ∷ w)
    ∙ sym (take_all (prefix_len p xs) xs (omega (arith, all, length-prefix_len p xs)))

-- a prefix that ends within a list stays as long
prefix_same : (p : ℕ → Bool) (xs r : List ℕ) → prefix_len p xs < length xs → prefix_len p (xs ++ r) ≡ prefix_len p xs
prefix_same p [] r short = absurd (omega arith)
prefix_same p (x ∷ xs) r short = step (p x) short (prefix_same p xs r)
  where
    step : (d : Bool) → cond d (1 + prefix_len p xs) 0 < length (x ∷ xs) → (prefix_len p xs < length xs → prefix_len p (xs ++ r) ≡ prefix_len p xs)
        → cond d (1 + prefix_len p (xs ++ r)) 0 ≡ cond d (1 + prefix_len p xs) 0
    step true e more = ap (λ n. 1 + n) (more (omega arith))
    step false e more = refl

-- ---- the pieces that are tokens

token_long : {k l : TokenKind} {m n : ℕ} → piece_is.Token k m ≡ piece_is.Token l n → m ≡ n
token_long e = cc

-- a choice by a test that comes out as before
go_on : (c : Bool) {p q r s t : Piece} → (c ≡ true → p ≡ t → r ≡ t) → (c ≡ false → q ≡ t → s ≡ t) → (if c then p else q) ≡ t → (if c then r else s) ≡ t
go_on true first second = first refl
go_on false first second = second refl

-- a choice of the second, before by a test and after by one that fails
go_past : (c d : Bool) {p q s t : Piece} (r : Piece) → d ≡ false → p ≢ t → (q ≡ t → s ≡ t) → (if c then p else q) ≡ t → (if d then r else s) ≡ t
go_past true d r fails first second e = absurd (first e)
go_past false true r fails first second e = absurd (cc)
go_past false false r fails first second e = second e

-- a text literal ends at its second quote
quote_end-more : (n : ℕ) (z r : List ℕ) (k : TokenKind) (l : ℕ) → quote_end n z ≡ piece_is.Token k l → (0 < length z) × (quote_end n (z ++ r) ≡ piece_is.Token k l)
quote_end-more n [] r k l e = absurd (cc)
quote_end-more n (c ∷ z) r k l e = (omega arith, step (c == 39) (ends_line (c ∷ z)) e)
  where
    step : (b d : Bool) → (if b then piece_is.Token kind.Quoted (n + 2) else if d then piece_is.Fault fault.Unclosed else piece_is.Fault fault.BadByte) ≡ piece_is.Token k l
        → (if b then piece_is.Token kind.Quoted (n + 2) else if ends_line (c ∷ z ++ r) then piece_is.Fault fault.Unclosed else piece_is.Fault fault.BadByte) ≡ piece_is.Token k l
    step true d e = e
    step false true e = absurd (cc)
    step false false e = absurd (cc)

quoted-more : (z r : List ℕ) (k : TokenKind) (n : ℕ) → quoted z ≡ piece_is.Token k n → quoted (z ++ r) ≡ piece_is.Token k n
unfolding quoted
quoted-more z r k n e =
    let j = prefix_len in_quotes z in
    let (some, more) = quote_end-more j (drop j z) r k n e in
    let short : j < length z = omega (arith, some, length-drop j z) in
    ap (λ i. quote_end i (drop i (z ++ r))) (prefix_same in_quotes z r short) ∙ ap (quote_end j) (drop-append-le j z r (omega arith)) ∙ more

number_length : (digits : List ℕ) (k : TokenKind) (n : ℕ) → number digits ≡ piece_is.Token k n → length digits ≡ n
unfolding number
number_length digits k n e = step (leads_with_zero digits || not (is_some (number_of digits))) e
  where
    step : (c : Bool) → (if c then piece_is.Fault fault.BadToken else piece_is.Token kind.Number (length digits)) ≡ piece_is.Token k n → length digits ≡ n
    step true e = absurd (cc)
    step false e = token_long e

number-more : (text : List ℕ) (c : ℕ) (w : List ℕ) (k : TokenKind) → is_ascii_digit c ≡ false → number (take_while is_ascii_digit text) ≡ piece_is.Token k (length text)
    → number (take_while is_ascii_digit (text ++ c ∷ w)) ≡ piece_is.Token k (length text)
number-more text c w k fails e = ap number (taken_same is_ascii_digit text c w (number_length (take_while is_ascii_digit text) k (length text) e) fails) ∙ e

named-more : (text : List ℕ) (c : ℕ) (w : List ℕ) (k : TokenKind) → in_name c ≡ false → named (take_while in_name text) ≡ piece_is.Token k (length text)
    → named (take_while in_name (text ++ c ∷ w)) ≡ piece_is.Token k (length text)
named-more text c w k fails e = ap named (taken_same in_name text c w (token_long e) fails) ∙ e

no_digit : (c : ℕ) → in_name c ≡ false → is_ascii_digit c ≡ false
no_digit c e = grind (arith, nat_tests)

not_dropped : (b : ℕ) (z : List ℕ) → begins_other b ≡ true → is_dropped b z ≡ false
not_dropped b z begins = let no : (b == 13) ≡ false = grind (arith, nat_tests) in rw no refl

none_begins : (b : ℕ) → is_ascii_digit b ≡ false → (b == 39) ≡ false → begins_name b ≡ false → begins_other b ≡ true → ⊥
none_begins b digit quote name begins = grind (arith, nat_tests)

-- names, words, numbers and texts
other_more : (b : ℕ) (z : List ℕ) (c : ℕ) (w : List ℕ) (k : TokenKind) → begins_other b ≡ true → in_name c ≡ false → piece b z ≡ piece_is.Token k (length (b ∷ z))
    → piece b (z ++ c ∷ w) ≡ piece_is.Token k (length (b ∷ z))
unfolding piece
other_more b z c w k begins fails e =
    go_on (b == 32) (λ t e. absurd (cc)) (λ t.
    go_on (b == 10) (λ t e. absurd (cc)) (λ t.
    go_past (is_dropped b z) (is_dropped b (z ++ c ∷ w)) (piece_is.Passed 1) (not_dropped b (z ++ c ∷ w) begins) (λ e. absurd (cc)) (
    go_on (b == 35) (λ t e. absurd (cc)) (λ t.
    go_on (b == 39) (λ t. quoted-more z (c ∷ w) k (length (b ∷ z))) (λ quote.
    go_on (is_ascii_digit b) (λ t. number-more (b ∷ z) c w k (no_digit c fails)) (λ digit.
    go_on (begins_name b) (λ t. named-more (b ∷ z) c w k fails) (λ name e. absurd (none_begins b digit quote name begins)))))))) e

-- ---- tests that were passed together

pub record Ends (c : ℕ) : Type 0 where
  pub name : in_name c ≡ false
  pub equal : (61 == c) ≡ false
  pub minus : (45 == c) ≡ false

ends_parts : (c : ℕ) → ends c ≡ true → Ends c
ends_parts c e = grind (arith, nat_tests)

-- a mark of no symbol that matters
record Plain (k : Mark) : Type 0 where
  opens : opens k ≡ false
  closes : closes k ≡ false
  divides : divides k ≡ false
  equal : begins_equal k ≡ false
  minus : is_minus k ≡ false
  assign : is_assign k ≡ false

plain_parts : (k : Mark) → is_other k ≡ true → Plain k
plain_parts k e = parts (opens k) (closes k) (divides k) (begins_equal k) (is_minus k) (is_assign k) refl refl refl refl refl refl e
  where
    parts : (a b c d f g : Bool) → opens k ≡ a → closes k ≡ b → divides k ≡ c → begins_equal k ≡ d → is_minus k ≡ f → is_assign k ≡ g
        → (not a && not b && not c && not d && not f && not g) ≡ true → Plain k
    parts true b c d f g _ _ _ _ _ _ e = absurd (cc)
    parts false true c d f g _ _ _ _ _ _ e = absurd (cc)
    parts false false true d f g _ _ _ _ _ _ e = absurd (cc)
    parts false false false true f g _ _ _ _ _ _ e = absurd (cc)
    parts false false false false true g _ _ _ _ _ _ e = absurd (cc)
    parts false false false false false true _ _ _ _ _ _ e = absurd (cc)
    parts false false false false false false opening closing dividing equals sign assigns e =
        record { opens = opening; closes = closing; divides = dividing; equal = equals; minus = sign; assign = assigns }

-- ---- what may stand after a token

-- a byte that does not go on with a token of this mark
pub data Stays (k : Mark) (c : ℕ) : Type 0 where
  end : ends c ≡ true → Stays k c
  alone : stands_alone k ≡ true → Stays k c
  assign : is_assign k ≡ true → (61 == c) ≡ false → Stays k c
  minus : is_minus k ≡ true → (45 == c) ≡ false → Stays k c

chosen_first : {X : Type 0} (b : Bool) (p q r : X) → b ≡ true → (if b then p else q) ≡ r → p ≡ r
chosen_first true p q r passes e = e
chosen_first false p q r passes e = absurd (cc)

-- a table's fact at the entry that was found, in terms of its text
at_entry : (f : Entry → Piece) (k : Mark) (bytes : List ℕ) → (is : IsSymbol k bytes) → map f symbols ≡ map (λ e. front e.0) symbols → f is.entry ≡ front bytes
at_entry f k bytes is table = find_same f (λ e. front e.0) (λ (e : Entry). starts_with ◌==◌ bytes e.0) symbols is.entry table is.found ∙ ap front (sym is.spelling)

symbol_more : (k : Mark) (bytes : List ℕ) (c : ℕ) (w : List ℕ) → IsSymbol k bytes → Stays k c → front (bytes ++ c ∷ w) ≡ front bytes
symbol_more k bytes c w is (end e) =
    let parts = ends_parts c e in
    ap (λ t. front (t ++ c ∷ w)) is.spelling ∙ at_entry (λ (e : Entry). front (e.0 ++ c ∷ w)) k bytes is (ends_more c w parts.equal parts.minus)
symbol_more k bytes c w is (alone e) =
    ap (λ t. front (t ++ c ∷ w)) is.spelling ∙ chosen_first (stands_alone is.entry.1) _ _ _ (ap stands_alone (sym is.mark) ∙ e)
    (at_entry (λ (e : Entry). if stands_alone e.1 then front (e.0 ++ c ∷ w) else front e.0) k bytes is (alone_more c w))
symbol_more k bytes c w is (assign e other) =
    ap (λ t. front (t ++ c ∷ w)) is.spelling ∙ chosen_first (is_assign is.entry.1) _ _ _ (ap is_assign (sym is.mark) ∙ e)
    (at_entry (λ (e : Entry). if is_assign e.1 then front (e.0 ++ c ∷ w) else front e.0) k bytes is (assign_more c w other))
symbol_more k bytes c w is (minus e other) =
    ap (λ t. front (t ++ c ∷ w)) is.spelling ∙ chosen_first (is_minus is.entry.1) _ _ _ (ap is_minus (sym is.mark) ∙ e)
    (at_entry (λ (e : Entry). if is_minus e.1 then front (e.0 ++ c ∷ w) else front e.0) k bytes is (minus_more c w other))

-- after other tokens only such a byte may stand
plain_ends : (k : Mark) (c : ℕ) → Plain k → Stays k c → ends c ≡ true
plain_ends k c plain (end e) = e
plain_ends k c plain (alone e) = (let no : stands_alone k ≡ false = rw (plain.opens, plain.closes, plain.divides) refl in cc)
plain_ends k c plain (assign e other) = (let f = plain.assign in cc)
plain_ends k c plain (minus e other) = (let f = plain.minus in cc)

others_more : (k : Mark) (bytes : List ℕ) (c : ℕ) (w : List ℕ) → (made : Makes k bytes) → IsOther k bytes → ends c ≡ true → front (bytes ++ c ∷ w) ≡ front bytes
others_more k [] c w made is e = (let none = made.stands in absurd (cc))
others_more k (b ∷ z) c w made is e = other_more b z c w made.kind is.begins (ends_parts c e).name made.stands ∙ sym made.stands

-- the token at the front stays the same
pub front_stays : (k : Mark) (bytes : List ℕ) (c : ℕ) (w : List ℕ) → (made : Makes k bytes) → Stays k c → front (bytes ++ c ∷ w) ≡ piece_is.Token made.kind (length bytes)
front_stays k bytes c w made stays = elim (shape k bytes made) [
  | inl is ↦ others_more k bytes c w made is (plain_ends k c (plain_parts k is.mark) stays) ∙ made.stands
  | inr is ↦ symbol_more k bytes c w is stays ∙ made.stands
]

-- ---- the first byte of a token

-- what the mark of a token tells of its first byte
pub record First (l : Mark) (c : ℕ) : Type 0 where
  pub alone : stands_alone l ≡ true → ends c ≡ true
  pub equal : begins_equal l ≡ false → (61 == c) ≡ false
  pub number : is_number l ≡ true → (45 == c) ≡ false
  pub opens : opens l ≡ (c == 40 || c == 91 || c == 123)
  pub closes : closes l ≡ (c == 41 || c == 93 || c == 125)

alone_firsts : map (λ e. if stands_alone e.1 then ends (slice_index e.0 0) else true) symbols ≡ map (λ e. true) symbols
unfolding symbols
alone_firsts = refl

equal_firsts : map (λ e. begins_equal e.1) symbols ≡ map (λ e. 61 == slice_index e.0 0) symbols
unfolding symbols
equal_firsts = refl

number_firsts : map (λ e. is_number e.1) symbols ≡ map (λ e. false) symbols
unfolding symbols
number_firsts = refl

opens_firsts : map (λ e. opens e.1) symbols ≡ map (λ e. slice_index e.0 0 == 40 || slice_index e.0 0 == 91 || slice_index e.0 0 == 123) symbols
unfolding symbols
opens_firsts = refl

closes_firsts : map (λ e. closes e.1) symbols ≡ map (λ e. slice_index e.0 0 == 41 || slice_index e.0 0 == 93 || slice_index e.0 0 == 125) symbols
unfolding symbols
closes_firsts = refl

symbol_first : (entry : Entry) (test : Entry → Bool) → find test symbols ≡ Some entry → First entry.1 (slice_index entry.0 0)
symbol_first entry test found = record {
  alone = λ e. chosen_first (stands_alone entry.1) _ _ _ e (find_same (λ (e : Entry). if stands_alone e.1 then ends (slice_index e.0 0) else true) (λ e. true) test symbols entry alone_firsts found);
  equal = λ e. sym (find_same (λ (e : Entry). begins_equal e.1) (λ e. 61 == slice_index e.0 0) test symbols entry equal_firsts found) ∙ e;
  number = λ e. (let none = find_same (λ (e : Entry). is_number e.1) (λ e. false) test symbols entry number_firsts found in cc);
  opens = find_same (λ (e : Entry). opens e.1) (λ e. slice_index e.0 0 == 40 || slice_index e.0 0 == 91 || slice_index e.0 0 == 123) test symbols entry opens_firsts found;
  closes = find_same (λ (e : Entry). closes e.1) (λ e. slice_index e.0 0 == 41 || slice_index e.0 0 == 93 || slice_index e.0 0 == 125) test symbols entry closes_firsts found;
}

other_first : (l : Mark) (c : ℕ) → Plain l → begins_other c ≡ true → First l c
other_first l c plain begins = record {
  alone = λ e. (let none : stands_alone l ≡ false = rw (plain.opens, plain.closes, plain.divides) refl in cc);
  equal = λ e. grind (arith, nat_tests);
  number = λ e. grind (arith, nat_tests);
  opens = plain.opens ∙ grind (arith, nat_tests);
  closes = plain.closes ∙ grind (arith, nat_tests);
}

pub first_byte : (l : Mark) (bytes : List ℕ) → Makes l bytes → First l (slice_index bytes 0)
first_byte l bytes made = elim (shape l bytes made) [
  | inl is ↦ other_first l (slice_index bytes 0) (plain_parts l is.mark) is.begins
  | inr is ↦ subst (λ (k : Mark). First k (slice_index bytes 0)) (sym is.mark)
      (subst (λ (t : List ℕ). First is.entry.1 (slice_index t 0)) (sym is.spelling) (symbol_first is.entry (λ (e : Entry). starts_with ◌==◌ bytes e.0) is.found))
]

leads_cases : (k l : Mark) → leads k l ≡ true → ((is_assign k ≡ true) × (begins_equal l ≡ false)) ⊎ ((is_minus k ≡ true) × (is_number l ≡ true))
leads_cases m.Assign l e = inl (refl, negated (begins_equal l) e)
  where
    negated : (b : Bool) → not b ≡ true → b ≡ false
    negated true e = absurd (cc)
    negated false e = refl
leads_cases m.Minus l e = inr (refl, e)
leads_cases _ l e = absurd (cc)

one_passes : (a b c : Bool) → (a || b || c) ≡ true → (a ≡ true) ⊎ ((b ≡ true) ⊎ (c ≡ true))
one_passes true b c e = inl refl
one_passes false true c e = inr (inl refl)
one_passes false false c e = inr (inr e)

-- tokens that may touch
pub touch_stays : (k l : Mark) (c : ℕ) → (stands_alone k || stands_alone l || leads k l) ≡ true → First l c → Stays k c
touch_stays k l c e first = elim (one_passes (stands_alone k) (stands_alone l) (leads k l) e) [
  | inl before ↦ alone before
  | inr (inl behind) ↦ end (first.alone behind)
  | inr (inr led) ↦ elim (leads_cases k l led) [
    | inl equal ↦ assign equal.0 (first.equal equal.1)
    | inr sign ↦ minus sign.0 (first.number sign.1)
  ]
]
