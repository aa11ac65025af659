-- The pieces of the grammar's rules. Each relation says that the tokens of the first list, up to where the second list
-- begins, spell something.
use Rattle.std.specs.Prelude.{◌≡◌, ◌≢◌, ℕ, List, [], ◌∷◌, length, Some, MatchBool}
use Rattle.da_values.specs.declared.token.Mark.{Mark}
use Rattle.da_values.specs.declared.token.Mark.TheVariants as m
use Rattle.da_values.specs.declared.token.Piece.TheVariants as piece_is
use Rattle.da_values.specs.declared.token.TokenKind.{TokenKind}
use Rattle.da_values.specs.Marks.{Tok, mark_of}
use Rattle.da_values.specs.Piece.{front, number_of}
use Rattle.da_values.specs.TokenFacts.{has_bytes}
use Rattle.da_lang.specs.Literals.{text_of}

abbrev pub Spelling : Type 0 → Type 1
Spelling A = A → List Tok → List Tok → Type 0

-- what says whether a token may open one thing more, by the tokens from it on
abbrev pub Room : Type 1
Room = List Tok → Type 0

-- the line of the next token
abbrev pub line : List Tok → ℕ
line [] = 0
line (t ∷ ts) = t.line

-- A token has the mark of its bytes, which alone make one piece; or its kind has no bytes.
pub data IsSpelled : Tok → Type 0 where
  spelled : {t : Tok} (k : TokenKind) → t.mark ≡ mark_of k t.text → MatchBool (has_bytes k) (front t.text ≡ piece_is.Token k (length t.text)) (t.text ≡ []) → IsSpelled t

-- one token with this mark
pub data At (k : Mark) : List Tok → List Tok → Type 0 where
  at : {t : Tok} {r : List Tok} → t.mark ≡ k → At k (t ∷ r) r

-- one token with this mark, which opens one thing more
pub data Opens (k : Mark) (room : Room) : List Tok → List Tok → Type 0 where
  opens : {t r : List Tok} → room t → At k t r → Opens k room t r

-- the next token has another mark
pub data NotAt (k : Mark) : List Tok → Type 0 where
  not_at : {t : Tok} {r : List Tok} → t.mark ≢ k → NotAt k (t ∷ r)

-- NAME
pub data Named : List ℕ → List Tok → List Tok → Type 0 where
  named : {t : Tok} {r : List Tok} → t.mark ≡ m.Name → Named t.text (t ∷ r) r

-- INT
pub data Number : ℕ → List Tok → List Tok → Type 0 where
  number : {n : ℕ} {t : Tok} {r : List Tok} → t.mark ≡ m.Number → number_of t.text ≡ Some n → Number n (t ∷ r) r

-- STRING
pub data Quoted : List ℕ → List Tok → List Tok → Type 0 where
  quoted : {b : List ℕ} {t : Tok} {r : List Tok} → t.mark ≡ m.Quoted → text_of t.text ≡ Some b → Quoted b (t ∷ r) r

-- one or more, with a token of this mark between
pub data Separated (k : Mark) {A : Type 0} (Item : Spelling A) : List A → List Tok → List Tok → Type 0 where
  last : {x : A} {t r : List Tok} → Item x t r → Separated k Item (x ∷ []) t r
  more : {x : A} {xs : List A} {t r s q : List Tok} → Item x t r → At k r s → Separated k Item xs s q → Separated k Item (x ∷ xs) t q

-- none, or one or more with commas between, and the closing token
pub data Closed (close : Mark) {A : Type 0} (Item : Spelling A) : List A → List Tok → List Tok → Type 0 where
  empty : {t r : List Tok} → At close t r → Closed close Item [] t r
  full : {xs : List A} {t r s : List Tok} → Separated m.Comma Item xs t r → At close r s → Closed close Item xs t s

-- none or more, each after a token of this mark
pub data EachAfter (k : Mark) {A : Type 0} (Item : Spelling A) : List A → List Tok → List Tok → Type 0 where
  none : {t : List Tok} → EachAfter k Item [] t t
  one : {x : A} {xs : List A} {t r s q : List Tok} → At k t r → Item x r s → EachAfter k Item xs s q → EachAfter k Item (x ∷ xs) t q

-- none or more
pub data Many {A : Type 0} (Item : Spelling A) : List A → List Tok → List Tok → Type 0 where
  none : {t : List Tok} → Many Item [] t t
  one : {x : A} {xs : List A} {t r s : List Tok} → Item x t r → Many Item xs r s → Many Item (x ∷ xs) t s

-- one or more, and DEDENT
pub data Ended {A : Type 0} (Item : Spelling A) : List A → List Tok → List Tok → Type 0 where
  ends : {x : A} {t r s : List Tok} → Item x t r → At m.Dedent r s → Ended Item (x ∷ []) t s
  goes_on : {x : A} {xs : List A} {t r s : List Tok} → Item x t r → Ended Item xs r s → Ended Item (x ∷ xs) t s
