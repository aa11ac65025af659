-- What stands at the front of a text: always the longest piece.
use Rattle.std.specs.Prelude.{ℕ, ◌+◌, Bool, true, not, ◌&&◌, ◌||◌, ◌==◌, nat_le, nat_lt, if◌then◌else◌, List, [], ◌∷◌, length, take_while, drop, slice_index, Option, Some, None, is_some, codes}
use Rattle.std.specs.Char.{is_ascii_digit, is_ascii_alphabetic, is_ascii_alphanumeric}
use Rattle.std.specs.List.{prefix_len, list_all}
use Rattle.std.specs.Str.{bytes_eq}
use Rattle.std.specs.Str.Parse.{digits_value}
use Rattle.da_values.specs.declared.token.LexKind.TheVariants as fault
use Rattle.da_values.specs.declared.token.Piece.{Piece}
use Rattle.da_values.specs.declared.token.Piece.TheVariants as piece_is
use Rattle.da_values.specs.declared.token.TokenKind.{TokenKind}
use Rattle.da_values.specs.declared.token.TokenKind.TheVariants as kind
use Rattle.da_values.specs.Words.{Entry, words, spelled, front_symbol}

-- Bytes by their numbers: 10 is LF, 13 is CR, 32 is a space, 35 is `#`, 39 is `'`, 48 is `0`, 95 is `_`.

-- a byte that may stand outside comments, line ends apart
abbrev pub is_plain : ℕ → Bool
is_plain b = nat_le 32 b && nat_le b 126

-- b is a CR that is dropped, since LF comes next
abbrev pub is_dropped : ℕ → List ℕ → Bool
is_dropped b z = b == 13 && slice_index z 0 == 10

-- no more of the line is left
abbrev pub ends_line : List ℕ → Bool
ends_line [] = true
ends_line (b ∷ z) = b == 10 || is_dropped b z

abbrev pub in_comment : ℕ → Bool
in_comment b = not (b == 10)

abbrev pub in_quotes : ℕ → Bool
in_quotes b = is_plain b && not (b == 39)

abbrev pub begins_name : ℕ → Bool
begins_name b = is_ascii_alphabetic b || b == 95

abbrev pub in_name : ℕ → Bool
in_name b = is_ascii_alphanumeric b || b == 95

-- what stands where the bytes of a text literal end, n bytes after its first quote
abbrev pub quote_end : ℕ → List ℕ → Piece
quote_end n z =
    if slice_index z 0 == 39 then piece_is.Token kind.Quoted (n + 2)
    else if ends_line z then piece_is.Fault fault.Unclosed
    else piece_is.Fault fault.BadByte

-- a text literal, from after its first quote on
unfoldable pub quoted : List ℕ → Piece
quoted z = quote_end (prefix_len in_quotes z) (drop (prefix_len in_quotes z) z)

-- the greatest integer
abbrev pub number_max : ℕ
number_max = 9223372036854775807

abbrev pub leads_with_zero : List ℕ → Bool
leads_with_zero digits = slice_index digits 0 == 48 && nat_lt 1 (length digits)

-- the integer that bytes write, if they are digits and it is not too large
unfoldable pub number_of : List ℕ → Option ℕ
number_of digits =
    if list_all is_ascii_digit digits && nat_le (digits_value 10 digits) number_max then Some (digits_value 10 digits) else None

unfoldable pub number : List ℕ → Piece
number digits =
    if leads_with_zero digits || not (is_some (number_of digits)) then piece_is.Fault fault.BadToken
    else piece_is.Token kind.Number (length digits)

unfoldable pub name_kind : List ℕ → TokenKind
name_kind name =
    if bytes_eq name (codes "_") then kind.Wild else if is_some (spelled words name) then kind.Word else kind.Name

abbrev pub named : List ℕ → Piece
named name = piece_is.Token (name_kind name) (length name)

abbrev pub symbol : Option Entry → Piece
symbol (Some entry) = piece_is.Token kind.Symbol (length entry.0)
symbol None = piece_is.Fault fault.BadToken

-- the piece at the front of a text that begins with b
unfoldable pub piece : ℕ → List ℕ → Piece
piece b z =
    if b == 32 then piece_is.Space
    else if b == 10 then piece_is.LineEnd
    else if is_dropped b z then piece_is.Passed 1
    else if b == 35 then piece_is.Passed (prefix_len in_comment (b ∷ z))
    else if b == 39 then quoted z
    else if is_ascii_digit b then number (take_while is_ascii_digit (b ∷ z))
    else if begins_name b then named (take_while in_name (b ∷ z))
    else if is_plain b then symbol (front_symbol (b ∷ z))
    else piece_is.Fault fault.BadByte

-- the piece at the front of a text; of no use where the text is empty
abbrev pub front : List ℕ → Piece
front [] = piece_is.Fault fault.BadToken
front (b ∷ z) = piece b z

-- how many bytes a piece has
abbrev pub size : Piece → ℕ
size piece_is.Space = 1
size piece_is.LineEnd = 1
size (piece_is.Passed n) = n
size (piece_is.Token k n) = n
size (piece_is.Fault f) = 1
