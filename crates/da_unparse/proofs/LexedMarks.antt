-- What the mark of a token tells of its bytes: of the first one, and of what may stand after the last one.
use Rattle.std.proofs.Common.{◌≡◌, ℕ, Bool, true, false, cond, not, ◌&&◌, ◌||◌, List, [], ◌∷◌, ◌++◌, map, length, drop, append-nil, refl, ap, ◌∙◌, subst, arith, inl, inr}
use Rattle.std.proofs.lemmas.Bool.Decides.{Decides-eqb, nat_tests}
use Rattle.std.proofs.lemmas.List.{drop_all}
use Rattle.std.proofs.lemmas.Slice.Eq.{starts_is}
use Rattle.std.specs.Char.{is_ascii_digit}
use Rattle.std.specs.List.{prefix_len, starts_with}
use Rattle.std.specs.Prelude.{◌⊎◌, Option, Some, None, is_some, unwrap_or, find, codes, slice_index, take_while, ◌==◌, if◌then◌else◌}
use Rattle.std.specs.Str.{bytes_eq}
use Rattle.da_values.specs.declared.token.Mark.{Mark}
use Rattle.da_values.specs.declared.token.Mark.TheVariants as m
use Rattle.da_values.specs.declared.token.Piece.{Piece}
use Rattle.da_values.specs.declared.token.Piece.TheVariants as piece_is
use Rattle.da_values.specs.declared.token.TokenKind.{TokenKind}
use Rattle.da_values.specs.declared.token.TokenKind.TheVariants as kind
use Rattle.da_values.specs.Marks.{mark_found, mark_of}
use Rattle.da_values.specs.Piece.{is_plain, is_dropped, ends_line, in_quotes, begins_name, in_name, quoted, leads_with_zero, number_of, number, name_kind, named, symbol, piece, front}
use Rattle.da_values.specs.Words.{Entry, words, symbols, spelled, front_symbol}
use Rattle.da_values.proofs.WordLemmas.{symbols_differ}
use Rattle.da_unparse.specs.Printable.{Makes, opens, closes, divides, stands_alone, begins_equal}

-- ---- tables

-- what two functions give alike for each entry of a table they give alike for the one that is found
pub find_same : {X : Type 0} (f g : Entry → X) (test : Entry → Bool) (table : List Entry) (entry : Entry) → map f table ≡ map g table → find test table ≡ Some entry → f entry ≡ g entry
find_same f g test [] entry alike e = cc
find_same f g test (first ∷ table) entry alike e = step (test first) (find_same f g test table entry (cc)) e
  where
    step : (c : Bool) → (find test table ≡ Some entry → f entry ≡ g entry) → cond c (Some first) (find test table) ≡ Some entry → f entry ≡ g entry
    step true more e = let here : f first ≡ g first = cc in subst (λ x. f x ≡ g x) (cc) here
    step false more e = more e

find_passes : (test : Entry → Bool) (table : List Entry) (entry : Entry) → find test table ≡ Some entry → test entry ≡ true
find_passes test [] entry e = cc
find_passes test (first ∷ table) entry e = step (test first) refl (find_passes test table entry) e
  where
    step : (c : Bool) → test first ≡ c → (find test table ≡ Some entry → test entry ≡ true) → cond c (Some first) (find test table) ≡ Some entry → test entry ≡ true
    step true is more e = cc
    step false is more e = more e

-- a test that each mark of a table passes
found_mark : (p : Mark → Bool) (test : Entry → Bool) (table : List Entry) (other : Mark) → map (λ e. p e.1) table ≡ map (λ e. true) table → p other ≡ true
    → p (unwrap_or (mark_found (find test table)) other) ≡ true
found_mark p test [] other each e = e
found_mark p test (first ∷ table) other each e = step (test first) (cc) (found_mark p test table other (cc) e)
  where
    step : (c : Bool) → p first.1 ≡ true → p (unwrap_or (mark_found (find test table)) other) ≡ true → p (unwrap_or (mark_found (cond c (Some first) (find test table))) other) ≡ true
    step true here more = here
    step false here more = more

-- ---- symbols

-- the text of the symbol at its front
symbol_whole : (text : List ℕ) (entry : Entry) → front_symbol text ≡ Some entry → length entry.0 ≡ length text → text ≡ entry.0
symbol_whole text entry is long =
    let starts = find_passes (λ (entry : Entry). starts_with ◌==◌ text entry.0) symbols entry is in
    let whole : text ≡ entry.0 ++ drop (length entry.0) text = (starts_is Decides-eqb text entry.0 (starts_with ◌==◌ text entry.0) refl).0 starts in
    whole ∙ ap (λ r. entry.0 ++ r) (drop_all (length entry.0) text (omega (arith, long))) ∙ append-nil entry.0

-- a byte that goes on with no token before it
abbrev pub ends : ℕ → Bool
ends c = not (in_name c) && not (61 == c) && not (45 == c)

abbrev pub is_assign : Mark → Bool
is_assign m.Assign = true
is_assign _ = false

abbrev pub is_minus : Mark → Bool
is_minus m.Minus = true
is_minus _ = false

-- each symbol is the piece at the front with such bytes after it
pub alone_more : (c : ℕ) (z : List ℕ) → map (λ e. if stands_alone e.1 then front (e.0 ++ c ∷ z) else front e.0) symbols ≡ map (λ e. front e.0) symbols
unfolding symbols piece
alone_more c z = refl

pub assign_more : (c : ℕ) (z : List ℕ) → (61 == c) ≡ false → map (λ e. if is_assign e.1 then front (e.0 ++ c ∷ z) else front e.0) symbols ≡ map (λ e. front e.0) symbols
unfolding symbols piece
assign_more c z e = rw e refl

pub minus_more : (c : ℕ) (z : List ℕ) → (45 == c) ≡ false → map (λ e. if is_minus e.1 then front (e.0 ++ c ∷ z) else front e.0) symbols ≡ map (λ e. front e.0) symbols
unfolding symbols piece
minus_more c z e = rw e refl

pub ends_more : (c : ℕ) (z : List ℕ) → (61 == c) ≡ false → (45 == c) ≡ false → map (λ e. front (e.0 ++ c ∷ z)) symbols ≡ map (λ e. front e.0) symbols
unfolding symbols piece
ends_more c z e d = rw (e, d) refl

-- ---- what a token is, by its first byte

-- a digit, a quote or what begins a name
abbrev pub begins_other : ℕ → Bool
begins_other b = is_ascii_digit b || b == 39 || begins_name b

-- a mark of none of the symbols that matter here
abbrev pub is_other : Mark → Bool
is_other k = not (opens k) && not (closes k) && not (divides k) && not (begins_equal k) && not (is_minus k) && not (is_assign k)

abbrev SortedKind : ℕ → List ℕ → ℕ → TokenKind → Type 0
SortedKind b z n kind.Number = begins_other b ≡ true
SortedKind b z n kind.Quoted = begins_other b ≡ true
SortedKind b z n kind.Name = begins_other b ≡ true
SortedKind b z n kind.Wild = begins_other b ≡ true
SortedKind b z n kind.Word = begins_other b ≡ true
SortedKind b z n kind.Symbol = (entry : Entry) × (front_symbol (b ∷ z) ≡ Some entry) × (length entry.0 ≡ n)
SortedKind b z n kind.Newline = ⊥
SortedKind b z n kind.Indent = ⊥
SortedKind b z n kind.Dedent = ⊥

abbrev Sorted : ℕ → List ℕ → Piece → Type 0
Sorted b z (piece_is.Token k n) = SortedKind b z n k
Sorted b z _ = Unit {0}

chosen : (P : Piece → Type 0) (b : Bool) (p q : Piece) → (b ≡ true → P p) → (b ≡ false → P q) → P (if b then p else q)
chosen P true p q first second = first refl
chosen P false p q first second = second refl

chosen_kind : (P : TokenKind → Type 0) (b : Bool) (k l : TokenKind) → P k → P l → P (if b then k else l)
chosen_kind P true k l first second = first
chosen_kind P false k l first second = second

quoted-sorted : (b : ℕ) (z : List ℕ) → begins_other b ≡ true → Sorted b z (quoted z)
unfolding quoted
quoted-sorted b z begins =
    let rest = drop (prefix_len in_quotes z) z in
    chosen (Sorted b z) (slice_index rest 0 == 39) _ _ (λ e. begins) (λ e. chosen (Sorted b z) (ends_line rest) _ _ (λ e. tt) (λ e. tt))

number-sorted : (b : ℕ) (z digits : List ℕ) → begins_other b ≡ true → Sorted b z (number digits)
unfolding number
number-sorted b z digits begins = chosen (Sorted b z) (leads_with_zero digits || not (is_some (number_of digits))) _ _ (λ e. tt) (λ e. begins)

named-sorted : (b : ℕ) (z name : List ℕ) → begins_other b ≡ true → Sorted b z (named name)
unfolding name_kind
named-sorted b z name begins =
    let P = SortedKind b z (length name) in
    chosen_kind P (bytes_eq name (codes "_")) _ _ begins (chosen_kind P (is_some (spelled words name)) _ _ begins begins)

symbol-sorted : (b : ℕ) (z : List ℕ) (found : Option Entry) → front_symbol (b ∷ z) ≡ found → Sorted b z (symbol found)
symbol-sorted b z (Some entry) e = (entry, e, refl)
symbol-sorted b z None e = tt

piece-sorted : (b : ℕ) (z : List ℕ) → Sorted b z (piece b z)
unfolding piece
piece-sorted b z =
    let P = Sorted b z in
    chosen P (b == 32) _ _ (λ e. tt) (λ e.
    chosen P (b == 10) _ _ (λ e. tt) (λ e.
    chosen P (is_dropped b z) _ _ (λ e. tt) (λ e.
    chosen P (b == 35) _ _ (λ e. tt) (λ e.
    chosen P (b == 39) _ _ (λ e. quoted-sorted b z (grind (arith, nat_tests))) (λ e.
    chosen P (is_ascii_digit b) _ _ (λ e. number-sorted b z (take_while is_ascii_digit (b ∷ z)) (grind (arith, nat_tests))) (λ e.
    chosen P (begins_name b) _ _ (λ e. named-sorted b z (take_while in_name (b ∷ z)) (grind (arith, nat_tests))) (λ e.
    chosen P (is_plain b) _ _ (λ e. symbol-sorted b z (front_symbol (b ∷ z)) refl) (λ e. tt))))))))

pub record IsOther (k : Mark) (bytes : List ℕ) : Type 0 where
  pub begins : begins_other (slice_index bytes 0) ≡ true
  pub mark : is_other k ≡ true

pub record IsSymbol (k : Mark) (bytes : List ℕ) : Type 0 where
  pub entry : Entry
  pub found : front_symbol bytes ≡ Some entry
  pub spelling : bytes ≡ entry.0
  pub mark : k ≡ entry.1

words_other : map (λ (e : Entry). is_other e.1) words ≡ map (λ e. true) words
unfolding words
words_other = refl

-- the mark of a symbol's bytes
symbol_mark : (bytes : List ℕ) (entry : Entry) → front_symbol bytes ≡ Some entry → bytes ≡ entry.0 → mark_of kind.Symbol bytes ≡ entry.1
symbol_mark bytes entry found is =
    let own : spelled symbols entry.0 ≡ Some entry = find_same (λ (e : Entry). spelled symbols e.0) Some (λ (e : Entry). starts_with ◌==◌ bytes e.0) symbols entry symbols_differ found in
    ap (λ t. unwrap_or (mark_found (spelled symbols t)) m.Wild) is ∙ ap (λ o. unwrap_or (mark_found o) m.Wild) own

shape_of : (l : TokenKind) (k : Mark) (b : ℕ) (z : List ℕ) → SortedKind b z (length (b ∷ z)) l → k ≡ mark_of l (b ∷ z) → IsOther k (b ∷ z) ⊎ IsSymbol k (b ∷ z)
shape_of kind.Number k b z begins is = inl (record { begins = begins; mark = ap is_other is })
shape_of kind.Quoted k b z begins is = inl (record { begins = begins; mark = ap is_other is })
shape_of kind.Name k b z begins is = inl (record { begins = begins; mark = ap is_other is })
shape_of kind.Wild k b z begins is = inl (record { begins = begins; mark = ap is_other is })
shape_of kind.Word k b z begins is =
    inl (record { begins = begins; mark = ap is_other is ∙ found_mark is_other (λ (e : Entry). bytes_eq e.0 (b ∷ z)) words m.Name words_other refl })
shape_of kind.Symbol k b z (entry, found, long) is =
    let spelling : b ∷ z ≡ entry.0 = symbol_whole (b ∷ z) entry found long in
    inr (record { entry = entry; found = found; spelling = spelling; mark = is ∙ symbol_mark (b ∷ z) entry found spelling })
shape_of kind.Newline k b z none is = absurd none
shape_of kind.Indent k b z none is = absurd none
shape_of kind.Dedent k b z none is = absurd none

pub shape : (k : Mark) (bytes : List ℕ) → Makes k bytes → IsOther k bytes ⊎ IsSymbol k bytes
shape k [] made = (let e = made.stands in absurd (cc))
shape k (b ∷ z) made = shape_of made.kind k b z (subst (Sorted b z) made.stands (piece-sorted b z)) made.mark
