-- Texts that could stand as names.
use Rattle.std.specs.Prelude.{ℕ, Bool, false, not, ◌&&◌, ◌||◌, List, [], ◌∷◌, is_some, codes}
use Rattle.std.specs.List.{list_all}
use Rattle.std.specs.Str.{bytes_eq}
use Rattle.da_values.specs.Piece.{begins_name, in_name}
use Rattle.da_values.specs.Words.{words, spelled}

-- a reserved word, or what stands for anything
unfoldable pub is_reserved : List ℕ → Bool
is_reserved text = bytes_eq text (codes "_") || is_some (spelled words text)

-- the bytes spell a name
unfoldable pub is_name : List ℕ → Bool
is_name [] = false
is_name (b ∷ z) = begins_name b && list_all in_name z && not (is_reserved (b ∷ z))
