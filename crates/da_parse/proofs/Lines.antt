-- The line of a place, by the tokens as the code keeps them.
use Rattle.std.proofs.Common.{◌≡◌, ℕ, ◌-◌, max, List, [], ◌∷◌, length, drop, refl, arith}
use Rattle.std.proofs.lemmas.List.{length-map}
use Rattle.std.proofs.lemmas.List.Elements.{All-drop}
use Rattle.std.specs.List.{All, drop-map}
use Rattle.da_values.specs.declared.token.Token.{Token}
use Rattle.da_values.specs.Marks.{toks, tok}
use Rattle.da_values.specs.TokenFacts.{IsOnLine}
use Rattle.da_parse.specs.Parse.{line_at, line_or_one, IsLineOf}

abbrev pub line_of_first : List Token → ℕ
line_of_first [] = 1
line_of_first (t ∷ ts) = t.line

first_same : (text : List ℕ) (tokens : List Token) → line_or_one (toks text tokens) ≡ line_of_first tokens
first_same text [] = refl
first_same text (t ∷ ts) = refl

pub line_there : (text : List ℕ) (tokens : List Token) (left : ℕ) → line_at (toks text tokens) left ≡ line_of_first (drop (length tokens - max left 1) tokens)
unfolding line_at
line_there text tokens left =
    rw (length-map tokens (tok text), drop-map (tok text) (length tokens - max left 1) tokens) (first_same text (drop (length tokens - max left 1) tokens))

first_in_text : (text : List ℕ) (tokens : List Token) → All (IsOnLine text) tokens → IsLineOf text (line_of_first tokens)
first_in_text text [] all = (omega arith, omega arith)
first_in_text text (t ∷ ts) all = all 0 t (omega arith)

-- the first of the tokens from a place on stands on a line of the text
pub line_in_text : (text : List ℕ) (tokens : List Token) (n : ℕ) → All (IsOnLine text) tokens → IsLineOf text (line_of_first (drop n tokens))
line_in_text text tokens n all = first_in_text text (drop n tokens) (All-drop (IsOnLine text) n tokens all)
