-- Which lines give back, as a text, the tokens that they were printed from.
use Rattle.std.specs.Prelude.{◌≡◌, ℕ, ◌+◌, ◌-◌, ◌≤◌, Bool, true, false, not, ◌||◌, if◌then◌else◌, List, [], ◌∷◌, length}
use Rattle.da_values.specs.declared.token.Mark.{Mark}
use Rattle.da_values.specs.declared.token.Mark.TheVariants as m
use Rattle.da_values.specs.declared.token.Piece.TheVariants as piece_is
use Rattle.da_values.specs.declared.token.TokenKind.{TokenKind}
use Rattle.da_values.specs.Marks.{mark_of}
use Rattle.da_values.specs.Piece.{front}
use Rattle.da_unparse.specs.Lines.{Line}
use Rattle.da_unparse.specs.Pieces.{Piece, gap, token}

-- These bytes alone make one token, which has this mark.
pub record Makes (k : Mark) (bytes : List ℕ) : Type 0 where
  pub kind : TokenKind
  pub stands : front bytes ≡ piece_is.Token kind (length bytes)
  pub mark : k ≡ mark_of kind bytes

abbrev pub IsProper : Piece → Type 0
IsProper gap = Unit {0}
IsProper (token k bytes) = Makes k bytes

abbrev pub opens : Mark → Bool
opens m.OpenParen = true
opens m.OpenBrace = true
opens m.OpenBracket = true
opens _ = false

abbrev pub closes : Mark → Bool
closes m.CloseParen = true
closes m.CloseBrace = true
closes m.CloseBracket = true
closes _ = false

abbrev pub divides : Mark → Bool
divides m.Comma = true
divides m.Colon = true
divides m.Dot = true
divides _ = false

-- a bracket, a comma, a colon or a dot
abbrev pub stands_alone : Mark → Bool
stands_alone k = opens k || closes k || divides k

abbrev pub begins_equal : Mark → Bool
begins_equal m.Assign = true
begins_equal m.Equal = true
begins_equal _ = false

abbrev pub is_number : Mark → Bool
is_number m.Number = true
is_number _ = false

-- `=` before anything but `=` and `==`, and the sign of a number
abbrev pub leads : Mark → Mark → Bool
leads m.Assign l = not (begins_equal l)
leads m.Minus l = is_number l
leads _ l = false

-- Two tokens side by side need a gap between them, unless one of them stands alone, or the first leads the second; two gaps are never side by side.
abbrev pub may_touch : Piece → Piece → Bool
may_touch gap gap = false
may_touch gap (token l c) = true
may_touch (token k b) gap = true
may_touch (token k b) (token l c) = stands_alone k || stands_alone l || leads k l

-- Of p, ps and q each two neighbours may touch, and each of ps is proper.
abbrev pub Touch : Piece → List Piece → Piece → Type 0
Touch p [] q = may_touch p q ≡ true
Touch p (r ∷ ps) q = (may_touch p r ≡ true) × IsProper r × Touch r ps q

-- how many brackets are open after a piece, and after some
abbrev pub opened : ℕ → Piece → ℕ
opened n gap = n
opened n (token k bytes) = if opens k then n + 1 else if closes k then n - 1 else n

abbrev pub open_behind : ℕ → List Piece → ℕ
open_behind n [] = n
open_behind n (p ∷ ps) = open_behind (opened n p) ps

-- A line begins and ends with a token, and at its end no bracket is open.
pub record IsPrintable (ps : List Piece) : Type 0 where
  pub touch : Touch gap ps gap
  pub closed : open_behind 0 ps ≡ 0

-- The first line has at most this level, and each further one is at most one level deeper than the one before.
abbrev pub Follow : ℕ → List Line → Type 0
Follow most [] = Unit {0}
Follow most (l ∷ ls) = (l.level ≤ most) × IsPrintable l.pieces × Follow (l.level + 1) ls

abbrev pub ArePrintable : List Line → Type 0
ArePrintable = Follow 0
