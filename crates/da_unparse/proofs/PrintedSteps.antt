-- What the tokens of the grammar's rules tell of what is printed, for single tokens and for lists.
use Rattle.std.proofs.Common.{◌≡◌, ◌≤◌, true, List, [], ◌∷◌, map, refl}
use Rattle.std.proofs.lemmas.List.Elements.{All-head, All-tail}
use Rattle.std.specs.List.{All, list_all}
use Rattle.std.specs.Prelude.{codes}
use Rattle.da_values.specs.declared.token.Mark.{Mark}
use Rattle.da_values.specs.declared.token.Mark.TheVariants as m
use Rattle.da_values.specs.Marks.{Tok}
use Rattle.da_values.specs.Piece.{number_max, in_quotes}
use Rattle.da_lang.specs.Spelling.{Spelling, Room, IsSpelled, At, at, Opens, opens, Named, named, Number, number, Quoted, quoted, Separated, Closed, EachAfter}
use Rattle.da_unparse.specs.Pieces.{Piece, token, comma, in_parens, listed, tupled}
use Rattle.da_unparse.specs.Printable.{Makes}
use Rattle.da_unparse.proofs.PrintedParts.{Side, solid, operand, loose, is_side, Part, Optional, some, part, gap_part, join, Each, joined_optional, bracketed}
use Rattle.da_unparse.proofs.PrintedTokens.{name_makes, number_small, text_plain}
use Rattle.da_unparse.proofs.PrintedWords.{makes-OpenParen, makes-CloseParen, makes-Comma}

abbrev pub Spelt : List Tok → Type 0
Spelt = All IsSpelled

-- what these tokens spell has P, and the tokens after it are spelled too
abbrev pub Shows : {A : Type 0} → Spelling A → (A → Type 0) → Type 0
Shows {A} G P = (x : A) (i r : List Tok) → G x i r → Spelt i → P x × Spelt r

-- ---- single tokens

pub past : {k : Mark} {i r : List Tok} → At k i r → Spelt i → Spelt r
past (at {t} {r} e) s = All-tail IsSpelled t r s

pub past_open : {k : Mark} {room : Room} {i r : List Tok} → Opens k room i r → Spelt i → Spelt r
past_open (opens can h) s = past h s

pub name_shows : Shows Named (Makes m.Name)
name_shows _ i r (named {t} {r = u} e) s = (name_makes (All-head IsSpelled t u s) e, All-tail IsSpelled t u s)

pub number_shows : Shows Number (λ n. n ≤ number_max)
number_shows _ i r (number {n} {t} {r = u} e is) s = (number_small t.text n is, All-tail IsSpelled t u s)

pub text_shows : Shows Quoted (λ b. list_all in_quotes b ≡ true)
text_shows _ i r (quoted {b} {t} {r = u} e is) s = (text_plain t.text b is, All-tail IsSpelled t u s)

-- ---- lists

-- each has P
abbrev pub EachHas : {A : Type 0} → (A → Type 0) → List A → Type 0
EachHas P [] = Unit {0}
EachHas P (x ∷ xs) = P x × EachHas P xs

-- there is one at least, and each has P
abbrev pub SomeHas : {A : Type 0} → (A → Type 0) → List A → Type 0
SomeHas P [] = ⊥
SomeHas P (x ∷ xs) = P x × EachHas P xs

pub each_of_some : {A : Type 0} (P : A → Type 0) (xs : List A) → SomeHas P xs → EachHas P xs
each_of_some P [] h = absurd h
each_of_some P (x ∷ xs) h = h

pub each_part : {A : Type 0} (P : A → Type 0) (f : A → List Piece) → ((x : A) → P x → Part solid solid (f x)) → (xs : List A) → EachHas P xs → Each (map f xs)
each_part P f is [] each = tt
each_part P f is (x ∷ xs) each = (is x each.0, each_part P f is xs each.1)

module _ {A : Type 0} (Item : Spelling A) (P : A → Type 0) (shows : Shows Item P) where
  pub separated_shows : (k : Mark) → Shows (Separated k Item) (SomeHas P)
  separated_shows k _ i r (Separated.last a) s = let (x, t) = shows _ _ _ a s in ((x, tt), t)
  separated_shows k _ i r (Separated.more {xs = xs} a h l) s =
      let (x, t) = shows _ _ _ a s in
      let (more, u) = separated_shows k _ _ _ l (past h t) in
      ((x, each_of_some P xs more), u)

  pub closed_shows : (close : Mark) → Shows (Closed close Item) (EachHas P)
  closed_shows close _ i r (Closed.empty h) s = (tt, past h s)
  closed_shows close xs i r (Closed.full l h) s = let (more, t) = separated_shows m.Comma xs _ _ l s in (each_of_some P xs more, past h t)

  pub after_shows : (k : Mark) → Shows (EachAfter k Item) (EachHas P)
  after_shows k _ i r EachAfter.none s = (tt, s)
  after_shows k _ i r (EachAfter.one h a l) s =
      let (x, t) = shows _ _ _ a (past h s) in
      let (more, u) = after_shows k _ _ _ l t in
      ((x, more), u)

-- ---- commas and parentheses

pub comma_part : Part loose loose comma
comma_part = join (part loose solid makes-Comma refl refl refl refl) gap_part

pub parens : {ps : List Piece} (a : Side) → is_side a (token m.OpenParen (codes "(")) ≡ true → Optional solid solid ps → Part a solid (in_parens ps)
parens a f inner = bracketed a solid makes-OpenParen makes-CloseParen refl refl refl f refl refl refl inner

pub listed_parens : (a : Side) → is_side a (token m.OpenParen (codes "(")) ≡ true → (pss : List (List Piece)) → Each pss → Part a solid (in_parens (listed pss))
listed_parens a f pss each = parens a f (joined_optional comma_part pss each)

-- the parts of a tuple
pub tupled_part : (ps : List Piece) (pss : List (List Piece)) → Each (ps ∷ pss) → Part operand solid (tupled (ps ∷ pss))
tupled_part ps [] each = parens operand refl (some (join each.0 (part loose solid makes-Comma refl refl refl refl)))
tupled_part ps (qs ∷ pss) each = listed_parens operand refl (ps ∷ qs ∷ pss) each
