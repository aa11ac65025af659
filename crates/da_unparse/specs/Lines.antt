-- Printed lines, their text, and their tokens.
use Rattle.std.specs.Prelude.{ℕ, ◌+◌, ◌-◌, ◌*◌, nat_lt, if◌then◌else◌, List, [], ◌∷◌, ◌++◌, codes, replicate}
use Rattle.std.specs.List.{flat_map}
use Rattle.da_values.specs.declared.token.Mark.TheVariants as m
use Rattle.da_values.specs.Marks.{Tok}
use Rattle.da_unparse.specs.Pieces.{Piece, gap, token, text_of}

-- a line at a level, which is the number of blocks round it
pub record Line : Type 0 where
  pub level : ℕ
  pub pieces : List Piece

-- four spaces for each level
abbrev pub line_text : Line → List ℕ
line_text l = replicate (4 * l.level) 32 ++ text_of l.pieces ++ codes "\n"

abbrev pub lines_text : List Line → List ℕ
lines_text = flat_map line_text

-- the tokens of pieces on a line of this number
abbrev pub piece_toks : ℕ → Piece → List Tok
piece_toks number gap = []
piece_toks number (token k bytes) = record { mark = k; text = bytes; line = number } ∷ []

abbrev pub toks_of : ℕ → List Piece → List Tok
toks_of number = flat_map (piece_toks number)

-- the tokens of lines from this number on, where so many blocks are open: a deeper line opens one, a line less deep closes some
abbrev pub levelled : ℕ → ℕ → ℕ → List Tok
levelled number blocks level =
    if nat_lt blocks level then record { mark = m.Indent; text = []; line = number } ∷ [] else replicate (blocks - level) (record { mark = m.Dedent; text = []; line = number })

abbrev pub lines_toks : ℕ → ℕ → List Line → List Tok
lines_toks number blocks [] = replicate blocks (record { mark = m.Dedent; text = []; line = number - 1 })
lines_toks number blocks (l ∷ ls) =
    levelled number blocks l.level ++ toks_of number l.pieces ++ record { mark = m.Newline; text = []; line = number } ∷ lines_toks (number + 1) l.level ls
