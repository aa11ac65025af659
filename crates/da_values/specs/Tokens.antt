-- The tokens of a text, or its first fault.
use Rattle.std.specs.Prelude.{ℕ, zero, suc, ◌+◌, ◌-◌, Bool, true, false, not, ◌||◌, ◌==◌, nat_lt, if◌then◌else◌, List, [], ◌∷◌, ◌++◌, length, replicate, slice_index, Result, Ok, Err}
use Rattle.da_values.specs.declared.token.LexKind.{LexKind}
use Rattle.da_values.specs.declared.token.LexKind.TheVariants as fault
use Rattle.da_values.specs.declared.token.Piece.{Piece}
use Rattle.da_values.specs.declared.token.Piece.TheVariants as piece_is
use Rattle.da_values.specs.declared.token.Token.{Token}
use Rattle.da_values.specs.declared.token.TokenKind.{TokenKind}
use Rattle.da_values.specs.declared.token.TokenKind.TheVariants as kind
use Rattle.da_values.specs.Piece.{piece, front, size}

-- why a text has no tokens, and on which line
pub record Fault : Type 0 where
  pub kind : LexKind
  pub line : ℕ

-- where a scan stands
pub record Scan : Type 0 where
  -- the byte that comes next, and its line
  pub at : ℕ
  pub line : ℕ
  -- whether the level of the line is still to come, and how many spaces the line has so far
  pub is_fresh : Bool
  pub spaces : ℕ
  -- the open levels, the innermost first
  pub levels : List ℕ
  -- how deep the scan is inside brackets, and the line on which it last went into an outermost one
  pub brackets : ℕ
  pub bracket_line : ℕ
  -- where the last token ended, and on which line; before any token, on line 1
  pub past : ℕ
  pub last_line : ℕ

abbrev pub start : Scan
start = record {
  at = 0;
  line = 1;
  is_fresh = true;
  spaces = 0;
  levels = 0 ∷ [];
  brackets = 0;
  bracket_line = 1;
  past = 0;
  last_line = 1;
}

-- a token without bytes
abbrev pub empty : TokenKind → ℕ → ℕ → Token
empty k first line = record { kind = k; first = first; length = 0; line = line }

abbrev pub top : List ℕ → ℕ
top [] = 0
top (l ∷ ls) = l

-- the levels that are left when the greater ones are popped
abbrev pub popped : ℕ → List ℕ → List ℕ
popped level [] = []
popped level (l ∷ ls) = if nat_lt level l then popped level ls else l ∷ ls

abbrev pub Levelled : Type 0
Levelled = Result (List Token × Scan) Fault

-- How far a line is indented counts once its first token comes.
unfoldable pub level : Scan → Levelled
level s =
    if nat_lt (top s.levels) s.spaces
    then Ok (empty kind.Indent s.at s.line ∷ [], record s { is_fresh = false; levels = s.spaces ∷ s.levels })
    else
    let kept = popped s.spaces s.levels in
    if top kept == s.spaces
    then Ok (replicate (length s.levels - length kept) (empty kind.Dedent s.at s.line), record s { is_fresh = false; levels = kept })
    else Err (record { kind = fault.BadIndent; line = s.line })

abbrev pub levelled : Scan → Levelled
levelled s = if s.is_fresh then level s else Ok ([], s)

-- brackets are counted together, and one closes where one is open
unfoldable pub bracketed : ℕ → Scan → Scan
bracketed b s =
    if b == 40 || b == 91 || b == 123
    then record s { brackets = s.brackets + 1; bracket_line = if s.brackets == 0 then s.line else s.bracket_line }
    else if b == 41 || b == 93 || b == 125 then record s { brackets = s.brackets - 1 }
    else s

-- a token of n bytes that begins with b, after the level of its line
abbrev pub with_token : TokenKind → ℕ → ℕ → Levelled → Levelled
with_token k n b (Ok (ts, s)) =
    Ok (ts ++ record { kind = k; first = s.at; length = n; line = s.line } ∷ [], bracketed b (record s { past = s.at + n; last_line = s.line }))
with_token k n b (Err e) = Err e

-- an end of line that counts: no bracket is open, and the line has a token
abbrev pub line_end : Scan → List Token
line_end s = if s.is_fresh || not (s.brackets == 0) then [] else empty kind.Newline s.past s.line ∷ []

-- what a piece that begins with b gives: its tokens, and what is known after it
unfoldable pub step : Scan → ℕ → Piece → Levelled
step s b piece_is.Space = Ok ([], record s { spaces = s.spaces + 1 })
step s b piece_is.LineEnd =
    Ok (line_end s, record s { line = s.line + 1; is_fresh = s.is_fresh || s.brackets == 0; spaces = 0 })
step s b (piece_is.Passed n) = Ok ([], s)
step s b (piece_is.Token k n) = with_token k n b (levelled s)
step s b (piece_is.Fault f) = Err (record { kind = f; line = s.line })

abbrev pub Scanned : Type 0
Scanned = Result (List Token) Fault

-- Where the text is used up, its last line ends, and with it each level that is open.
unfoldable pub finish : Scan → Scanned
finish s =
    if s.brackets == 0
    then Ok (line_end s ++ replicate (length s.levels - 1) (empty kind.Dedent s.at s.last_line))
    else Err (record { kind = fault.Unclosed; line = s.bracket_line })

abbrev pub prepend : List Token → Scanned → Scanned
prepend ts (Ok us) = Ok (ts ++ us)
prepend ts (Err e) = Err e

-- a piece of n bytes is passed
abbrev pub passed : ℕ → Levelled → Levelled
passed n (Ok (ts, s)) = Ok (ts, record s { at = s.at + n })
passed n (Err e) = Err e

-- the step at the front of a text
abbrev pub step_at : Scan → List ℕ → Levelled
step_at s text = passed (size (front text)) (step s (slice_index text 0) (front text))

abbrev pub after : Levelled → (Scan → Scanned) → Scanned
after (Ok (ts, s)) go = prepend ts (go s)
after (Err e) go = Err e

-- Of a piece that was passed, `left` more bytes come first.
unfoldable pub scan : ℕ → Scan → List ℕ → Scanned
scan left s [] = finish s
scan (suc left) s (b ∷ z) = scan left s z
scan zero s (b ∷ z) = after (step_at s (b ∷ z)) (λ next. scan (size (piece b z) - 1) next z)

-- the tokens of a text
abbrev pub tokens : List ℕ → Scanned
tokens text = scan 0 start text
