-- The tokens of pieces, one after another; and the tokens of printed numbers and texts stand for what they were printed from.
use Rattle.std.proofs.Common.{◌≡◌, ℕ, suc, ◌-◌, ◌<◌, ◌≤◌, Bool, true, false, ◌&&◌, List, [], ◌∷◌, ◌++◌, map, length, take, Some, None, decimal, refl, sym, ap, ◌∙◌, arith, lit<, append_assoc, length-append}
use Rattle.std.proofs.lemmas.Bool.Decides.{nat_tests}
use Rattle.std.proofs.lemmas.Fmt.{decimal_is_IsNumeral}
use Rattle.std.proofs.lemmas.Grind.{flat_map-append}
use Rattle.std.proofs.lemmas.Str.Parse.{digit_from_value}
use Rattle.std.proofs.Math.Seq.{take-append_seam}
use Rattle.std.specs.Char.{is_ascii_digit}
use Rattle.std.specs.List.{list_all}
use Rattle.std.specs.Prelude.{codes, nat_le, if◌then◌else◌}
use Rattle.std.specs.Str.Parse.{AllDigits, digits_value}
use Rattle.da_values.specs.declared.token.Mark.{Mark}
use Rattle.da_values.specs.declared.token.Mark.TheVariants as m
use Rattle.da_values.specs.Marks.{Tok}
use Rattle.da_values.specs.Piece.{in_quotes, number_max, number_of}
use Rattle.da_lang.specs.Literals.{text_of, unquoted}
use Rattle.da_lang.specs.Spelling as g
use Rattle.da_lang.specs.Spelling.{Spelling, Room, At, Opens, Number, Quoted, Separated, Closed, EachAfter}
use Rattle.da_unparse.specs.Lines.{piece_toks, toks_of}
use Rattle.da_unparse.specs.Pieces.{Piece, gap, token, one, name, comma, colon, before, between, each_after, joined, listed, in_parens, tupled}

-- the tokens of pieces on this line, and others after them
unfoldable pub put : ℕ → List Piece → List Tok → List Tok
put n ps s = toks_of n ps ++ s

abbrev pub tok_of : ℕ → Mark → List ℕ → Tok
tok_of n k bytes = record { mark = k; text = bytes; line = n }

pub put-append : (n : ℕ) (ps qs : List Piece) (s : List Tok) → put n (ps ++ qs) s ≡ put n ps (put n qs s)
unfolding put
put-append n ps qs s = ap (λ z. z ++ s) (flat_map-append (piece_toks n) ps qs) ∙ append_assoc (toks_of n ps) (toks_of n qs) s

pub put-nil : (n : ℕ) (s : List Tok) → put n [] s ≡ s
unfolding put
put-nil n s = refl

pub put-gap : (n : ℕ) (ps : List Piece) (s : List Tok) → put n (gap ∷ ps) s ≡ put n ps s
unfolding put
put-gap n ps s = refl

pub put-token : (n : ℕ) (k : Mark) (bytes : List ℕ) (ps : List Piece) (s : List Tok) → put n (token k bytes ∷ ps) s ≡ tok_of n k bytes ∷ put n ps s
unfolding put
put-token n k bytes ps s = refl

pub put-is : (n : ℕ) (ps : List Piece) (s : List Tok) → put n ps s ≡ toks_of n ps ++ s
unfolding put
put-is n ps s = refl

pub ruleset putting = (put-append, put-nil, put-gap, put-token)

pub put-in_parens : (n : ℕ) (ps : List Piece) (s : List Tok) → put n (in_parens ps) s ≡ tok_of n m.OpenParen (codes "(") ∷ put n ps (tok_of n m.CloseParen (codes ")") ∷ s)
put-in_parens n ps s = simp putting

-- ---- numbers and texts

number-bounded : (b : Bool) (v n : ℕ) → (if b && nat_le v number_max then Some v else None) ≡ Some n → n ≤ number_max
number-bounded true v n e = grind (arith, nat_tests)
number-bounded false v n e = cc

number_of-bounded : (ds : List ℕ) (n : ℕ) → number_of ds ≡ Some n → n ≤ number_max
unfolding number_of
number_of-bounded ds n e = number-bounded (list_all is_ascii_digit ds) (digits_value 10 ds) n e

ascii_digits : (ds : List ℕ) → AllDigits 10 ds → list_all is_ascii_digit ds ≡ true
ascii_digits [] all = refl
ascii_digits (d ∷ ds) all =
    let range = digit_from_value d all.0 in
    let digit : is_ascii_digit d ≡ true = grind (arith, nat_tests, range.0, range.1) in
    ap (λ b. b && list_all is_ascii_digit ds) digit ∙ ascii_digits ds all.1

value-found : (b : Bool) (v n : ℕ) → b ≡ true → v ≡ n → n ≤ number_max → (if b && nat_le v number_max then Some v else None) ≡ Some n
value-found true v n e is le = grind (arith, nat_tests)
value-found false v n e is le = cc

pub number_of-decimal : (n : ℕ) → n ≤ number_max → number_of (decimal n) ≡ Some n
unfolding number_of
number_of-decimal n le =
    let is = decimal_is_IsNumeral n (let big : number_max < 18446744073709551616 = lit< tt in omega (arith, le, big)) in
    value-found (list_all is_ascii_digit (decimal n)) (digits_value 10 (decimal n)) n (ascii_digits (decimal n) is.0.1) is.1 le

-- a number that some token spells is spelled by its decimal digits
pub number-again : {k : ℕ} {i r : List Tok} (n : ℕ) → Number k i r → (s : List Tok) → Number k (tok_of n m.Number (decimal k) ∷ s) s
number-again {k} n (g.Number.number {n = v} {t} mark is) s = g.Number.number refl (number_of-decimal v (number_of-bounded t.text v is))

unquoted-quoted : (b : List ℕ) → unquoted (codes "'" ++ b ++ codes "'") ≡ b
unfolding unquoted
unquoted-quoted b =
    let e : suc (length (b ++ 39 ∷ [])) - 2 ≡ length b = omega (arith, length-append b (39 ∷ [])) in
    ap (λ k. take k (b ++ 39 ∷ [])) e ∙ take-append_seam b (39 ∷ [])

text-kept : (c : Bool) (u b : List ℕ) → (if c then Some u else None) ≡ Some b → (c ≡ true) × (u ≡ b)
text-kept true u b e = (refl, cc)
text-kept false u b e = cc

text_of-quoted : (text b : List ℕ) → text_of text ≡ Some b → text_of (codes "'" ++ b ++ codes "'") ≡ Some b
unfolding text_of
text_of-quoted text b e =
    let kept = text-kept (list_all in_quotes (unquoted text)) (unquoted text) b e in
    let all : list_all in_quotes b ≡ true = ap (list_all in_quotes) (sym kept.1) ∙ kept.0 in
    ap (λ u. if list_all in_quotes u then Some u else None) (unquoted-quoted b) ∙ ap (λ c. if c then Some b else None) all

-- a text that some token spells is spelled between quotes
pub quoted-again : {b : List ℕ} {i r : List Tok} (n : ℕ) → Quoted b i r → (s : List Tok) → Quoted b (tok_of n m.Quoted (codes "'" ++ b ++ codes "'") ∷ s) s
quoted-again n (g.Quoted.quoted {b} {t} mark is) s = g.Quoted.quoted refl (text_of-quoted t.text b is)

-- ---- lists

-- each of the items that are spelled is spelled by its pieces
abbrev pub Again : ℕ → {A : Type 0} → Spelling A → Spelling A → (A → List Piece) → Type 0
Again n {A} Item Printed pieces = (x : A) (i r : List Tok) → Item x i r → (s : List Tok) → Printed x (put n (pieces x) s) s

-- an item after its separator
pub behind-more : {A : Type 0} (n : ℕ) (pieces : A → List Piece) (separator : List Piece) (y : A) (ys : List A) (s : List Tok)
    → put n (each_after separator (map pieces (y ∷ ys))) s ≡ put n separator (put n (joined separator (map pieces (y ∷ ys))) s)
behind-more n pieces separator y ys s = simp putting

module _ (n : ℕ) {A : Type 0} {Item Printed : Spelling A} (pieces : A → List Piece) (item : Again n Item Printed pieces) where
  -- with a token of the mark k between, where the separator has a token of the mark l alone
  module _ {k : Mark} (l : Mark) (separator : List Piece) (passes : (s : List Tok) → At l (put n separator s) s) where
    pub separated-again : (xs : List A) (i r : List Tok) → Separated k Item xs i r → (s : List Tok) → Separated l Printed xs (put n (joined separator (map pieces xs)) s) s
    separated-again _ i r (g.Separated.last {x} a) s = rw (put-append n (pieces x) [] s, put-nil n s) (g.Separated.last (item x _ _ a s))
    separated-again _ i r (g.Separated.more {x} a h (g.Separated.last {x = y} b)) s =
        rw (put-append n (pieces x) (each_after separator (map pieces (y ∷ []))) s, behind-more n pieces separator y [] s)
        (g.Separated.more (item x _ _ a _) (passes _) (separated-again (y ∷ []) _ _ (g.Separated.last b) s))
    separated-again _ i r (g.Separated.more {x} a h (g.Separated.more {x = y} {xs = ys} b f others)) s =
        rw (put-append n (pieces x) (each_after separator (map pieces (y ∷ ys))) s, behind-more n pieces separator y ys s)
        (g.Separated.more (item x _ _ a _) (passes _) (separated-again (y ∷ ys) _ _ (g.Separated.more b f others) s))

    pub behind-again : (xs : List A) (i r : List Tok) → EachAfter k Item xs i r → (s : List Tok) → EachAfter l Printed xs (put n (each_after separator (map pieces xs)) s) s
    behind-again _ i r g.EachAfter.none s = rw (put-nil n s) g.EachAfter.none
    behind-again _ i r (g.EachAfter.one {x} {xs} h a others) s =
        simp putting (g.EachAfter.one (passes _) (item x _ _ a _) (behind-again xs _ _ others s))

  pub listed-again : (xs : List A) (i r : List Tok) → Separated m.Comma Item xs i r → (s : List Tok) → Separated m.Comma Printed xs (put n (listed (map pieces xs)) s) s
  listed-again = separated-again m.Comma comma (λ s. simp putting (g.At.at refl))

  pub closed-again : (close : Mark) (bytes : List ℕ) (xs : List A) (i r : List Tok) → Closed close Item xs i r → (s : List Tok) → Closed close Printed xs (put n (listed (map pieces xs)) (tok_of n close bytes ∷ s)) s
  closed-again close bytes _ i r (g.Closed.empty h) s = rw (put-nil n (tok_of n close bytes ∷ s)) (g.Closed.empty (g.At.at refl))
  closed-again close bytes xs i r (g.Closed.full l h) s = g.Closed.full (listed-again xs _ _ l _) (g.At.at refl)

-- the pieces of a tuple: its first part, a comma, the others
pub put-tupled : (n : ℕ) (ps : List Piece) (pss : List (List Piece)) (s : List Tok)
    → put n (tupled (ps ∷ pss)) s ≡ tok_of n m.OpenParen (codes "(") ∷ put n ps (tok_of n m.Comma (codes ",") ∷ put n (listed pss) (tok_of n m.CloseParen (codes ")") ∷ s))
put-tupled n ps [] s = simp putting
put-tupled n ps (qs ∷ pss) s = simp putting

-- what stands in braces
pub put-in_braces : (n : ℕ) (ps : List Piece) (s : List Tok)
    → put n (one m.OpenBrace (codes "{") ++ ps ++ one m.CloseBrace (codes "}")) s ≡ tok_of n m.OpenBrace (codes "{") ∷ put n ps (tok_of n m.CloseBrace (codes "}") ∷ s)
put-in_braces n ps s = simp putting

pub put-described : (n : ℕ) (ps qs rs : List Piece) (s : List Tok)
    → put n (one m.OpenBrace (codes "{") ++ ps ++ colon ++ gap ∷ qs ++ rs ++ one m.CloseBrace (codes "}")) s
    ≡ tok_of n m.OpenBrace (codes "{") ∷ put n ps (tok_of n m.Colon (codes ":") ∷ put n qs (put n rs (tok_of n m.CloseBrace (codes "}") ∷ s)))
put-described n ps qs rs s = simp putting

-- a word, and two parts after it
pub put-after_word : (n : ℕ) (k : Mark) (bytes : List ℕ) (ps qs : List Piece) (s : List Tok) → put n (before k bytes ++ ps ++ qs) s ≡ tok_of n k bytes ∷ put n ps (put n qs s)
put-after_word n k bytes ps qs s = simp putting

-- a word or a name, and its arguments
pub put-call : (n : ℕ) (k : Mark) (bytes : List ℕ) (ps : List Piece) (s : List Tok)
    → put n (token k bytes ∷ in_parens ps) s ≡ tok_of n k bytes ∷ tok_of n m.OpenParen (codes "(") ∷ put n ps (tok_of n m.CloseParen (codes ")") ∷ s)
put-call n k bytes ps s = simp putting

-- the same after a word
pub put-behind_call : (n : ℕ) (word : Mark) (letters : List ℕ) (k : Mark) (bytes : List ℕ) (ps : List Piece) (s : List Tok)
    → put n (before word letters ++ (token k bytes ∷ in_parens ps)) s ≡ tok_of n word letters ∷ tok_of n k bytes ∷ tok_of n m.OpenParen (codes "(") ∷ put n ps (tok_of n m.CloseParen (codes ")") ∷ s)
put-behind_call n word letters k bytes ps s = simp putting

-- and in a header
pub put-after_def : (n : ℕ) (word : Mark) (letters : List ℕ) (k : Mark) (bytes : List ℕ) (ps : List Piece) (s : List Tok)
    → put n (before word letters ++ (token k bytes ∷ in_parens ps) ++ colon) s ≡ tok_of n word letters ∷ tok_of n k bytes ∷ tok_of n m.OpenParen (codes "(") ∷ put n ps (tok_of n m.CloseParen (codes ")") ∷ tok_of n m.Colon (codes ":") ∷ s)
put-after_def n word letters k bytes ps s = simp putting

-- and three parts in a header
pub put-after_receive : (n : ℕ) (k : Mark) (bytes : List ℕ) (ps qs rs : List Piece) (s : List Tok)
    → put n (before k bytes ++ ps ++ qs ++ rs ++ colon) s ≡ tok_of n k bytes ∷ put n ps (put n qs (put n rs (tok_of n m.Colon (codes ":") ∷ s)))
put-after_receive n k bytes ps qs rs s = simp putting

-- a word with a space on each side
pub put-between : (n : ℕ) (k : Mark) (bytes : List ℕ) (ps : List Piece) (s : List Tok) → put n (between k bytes ++ ps) s ≡ tok_of n k bytes ∷ put n ps s
put-between n k bytes ps s = simp putting

-- arguments of which the first is a name
pub put-named_args : (n : ℕ) (k : Mark) (bytes w : List ℕ) (ps : List Piece) (s : List Tok)
    → put n (token k bytes ∷ in_parens (name w ++ ps)) s ≡ tok_of n k bytes ∷ tok_of n m.OpenParen (codes "(") ∷ tok_of n m.Name w ∷ put n ps (tok_of n m.CloseParen (codes ")") ∷ s)
put-named_args n k bytes w ps s = simp putting

pub put-new : (n : ℕ) (w c : List ℕ) (ps : List Piece) (s : List Tok)
    → put n (name w ++ between m.Assign (codes "=") ++ token m.New (codes "new") ∷ in_parens (name c ++ ps)) s
    ≡ tok_of n m.Name w ∷ tok_of n m.Assign (codes "=") ∷ tok_of n m.New (codes "new") ∷ tok_of n m.OpenParen (codes "(") ∷ tok_of n m.Name c ∷ put n ps (tok_of n m.CloseParen (codes ")") ∷ s)
put-new n w c ps s = simp putting
