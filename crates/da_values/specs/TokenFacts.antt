-- Facts of the tokens of a text.
use Rattle.std.specs.Prelude.{◌≡◌, ℕ, ◌+◌, ◌≤◌, Bool, true, false, ◌==◌, List, [], ◌∷◌, drop, count_by, MatchBool}
use Rattle.da_values.specs.declared.token.Piece.TheVariants as piece_is
use Rattle.da_values.specs.declared.token.Token.{Token}
use Rattle.da_values.specs.declared.token.TokenKind.{TokenKind}
use Rattle.da_values.specs.declared.token.TokenKind.TheVariants as kind
use Rattle.da_values.specs.Piece.{front}

-- From `from` on up to `end` each token begins where the one before ends, or later.
abbrev pub Rises : ℕ → List Token → ℕ → Type 0
Rises from [] end = from ≤ end
Rises from (t ∷ ts) end = (from ≤ t.first) × Rises (t.first + t.length) ts end

abbrev pub has_bytes : TokenKind → Bool
has_bytes kind.Newline = false
has_bytes kind.Indent = false
has_bytes kind.Dedent = false
has_bytes _ = true

-- A token is the piece at its place in the text, if its kind has bytes, and else it has none.
abbrev pub StandsIn : List ℕ → Token → Type 0
StandsIn text t = MatchBool (has_bytes t.kind) (front (drop t.first text) ≡ piece_is.Token t.kind t.length) (t.length ≡ 0)

-- how many lines a text has, one after its last LF included
abbrev pub line_count : List ℕ → ℕ
line_count text = count_by (λ b. b == 10) text + 1

abbrev pub IsOnLine : List ℕ → Token → Type 0
IsOnLine text t = (1 ≤ t.line) × (t.line ≤ line_count text)
