-- What is printed on a line: tokens, and a space where two of them have one between.
use Rattle.std.specs.Prelude.{ℕ, ℤ, pos, negsuc, suc, List, [], ◌∷◌, ◌++◌, codes, decimal}
use Rattle.std.specs.List.{flat_map}
use Rattle.da_values.specs.declared.token.Mark.{Mark}
use Rattle.da_values.specs.declared.token.Mark.TheVariants as m

pub data Piece : Type 0 where
  gap : Piece
  token : Mark → List ℕ → Piece

abbrev pub piece_text : Piece → List ℕ
piece_text gap = codes " "
piece_text (token k bytes) = bytes

-- the text of pieces on one line
abbrev pub text_of : List Piece → List ℕ
text_of = flat_map piece_text

abbrev pub one : Mark → List ℕ → List Piece
one k bytes = token k bytes ∷ []

abbrev pub name : List ℕ → List Piece
name bytes = one m.Name bytes

abbrev pub comma : List Piece
comma = token m.Comma (codes ",") ∷ gap ∷ []

abbrev pub colon : List Piece
colon = one m.Colon (codes ":")

abbrev pub open_paren : List Piece
open_paren = one m.OpenParen (codes "(")

abbrev pub close_paren : List Piece
close_paren = one m.CloseParen (codes ")")

-- with a space on each side
abbrev pub between : Mark → List ℕ → List Piece
between k bytes = gap ∷ token k bytes ∷ gap ∷ []

-- a word with a space after it
abbrev pub before : Mark → List ℕ → List Piece
before k bytes = token k bytes ∷ gap ∷ []

-- with something between each two
abbrev pub each_after : List Piece → List (List Piece) → List Piece
each_after separator = flat_map (λ ps. separator ++ ps)

abbrev pub joined : List Piece → List (List Piece) → List Piece
joined separator [] = []
joined separator (ps ∷ pss) = ps ++ each_after separator pss

-- with commas between
abbrev pub listed : List (List Piece) → List Piece
listed = joined comma

abbrev pub in_parens : List Piece → List Piece
in_parens ps = open_paren ++ ps ++ close_paren

-- the parts of a tuple; one part alone has a comma after it
abbrev pub tupled : List (List Piece) → List Piece
tupled (ps ∷ []) = open_paren ++ ps ++ one m.Comma (codes ",") ++ close_paren
tupled pss = in_parens (listed pss)

-- an integer, with its sign
abbrev pub number : ℤ → List Piece
number (pos n) = one m.Number (decimal n)
number (negsuc n) = token m.Minus (codes "-") ∷ token m.Number (decimal (suc n)) ∷ []

abbrev pub string : List ℕ → List Piece
string bytes = one m.Quoted (codes "'" ++ bytes ++ codes "'")
