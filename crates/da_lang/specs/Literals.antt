-- What the bytes of a text literal stand for.
use Rattle.std.specs.Prelude.{ℕ, ◌-◌, List, length, take, drop, Option, Some, None, if◌then◌else◌}
use Rattle.std.specs.List.{list_all}
use Rattle.da_values.specs.Piece.{in_quotes}

-- without the two quotes
unfoldable pub unquoted : List ℕ → List ℕ
unquoted bytes = take (length bytes - 2) (drop 1 bytes)

-- the text that these bytes spell between their quotes
unfoldable pub text_of : List ℕ → Option (List ℕ)
text_of bytes = if list_all in_quotes (unquoted bytes) then Some (unquoted bytes) else None
