-- The frame at the front of a stream. A frame is a header and a content. The header has lines, each with LF at its end, up to the
-- first line that is empty or has but CR; the content has so many bytes as the header tells by its last `Content-Length:`.
use Rattle.std.specs.Prelude.{◌≡◌, ℕ, ◌+◌, ◌-◌, Bool, true, ◌&&◌, ◌||◌, ◌==◌, nat_le, nat_lt, if◌then◌else◌, List, [], ◌∷◌, ◌++◌, length, map, take, drop, Option, Some, None, codes, decimal}
use Rattle.std.specs.Char.{is_ascii_digit, to_ascii_lowercase}
use Rattle.std.specs.List.{prefix_len}
use Rattle.std.specs.Str.{bytes_eq}
use Rattle.da_values.specs.Piece.{number_of}
use Rattle.lsp_frames.specs.declared.cutting.Cut.{Cut}
use Rattle.lsp_frames.specs.declared.cutting.Cut.TheVariants.{More, Content, Unread, Large}
use Rattle.lsp_frames.specs.declared.cutting.TheConstants.{HEADER_MAX, CONTENT_MAX}

-- Bytes by their numbers: 10 is LF, 13 is CR, 32 is a space.

-- the end of the first empty line, after n bytes; `fresh` says whether the line so far is empty
abbrev pub blank_after : ℕ → Bool → List ℕ → Option ℕ
blank_after n fresh [] = None
blank_after n fresh (b ∷ bytes) =
    if b == 10 then (if fresh then Some (n + 1) else blank_after (n + 1) true bytes)
    else blank_after (n + 1) (fresh && b == 13) bytes

-- how many bytes stand up to the end of the first empty line, with that line
abbrev pub blank_end : List ℕ → Option ℕ
blank_end = blank_after 0 true

-- THE LENGTH THAT A HEADER TELLS

abbrev pub length_name : List ℕ
length_name = codes "content-length:"

-- the bytes begin with the name, in letters of either size
abbrev pub is_length : List ℕ → Bool
is_length bytes = bytes_eq (map to_ascii_lowercase (take 15 bytes)) length_name

-- nothing but spaces and CR stands before the end of the line
abbrev pub ends_line : List ℕ → Bool
ends_line [] = true
ends_line (b ∷ rest) = b == 10 || ((b == 32 || b == 13) && ends_line rest)

abbrev pub skip_spaces : List ℕ → List ℕ
skip_spaces [] = []
skip_spaces (b ∷ line) = if b == 32 then skip_spaces line else b ∷ line

-- the number that digits are, where there are some, and the line has no more
abbrev pub number_before : List ℕ → List ℕ → Option ℕ
number_before digits behind = if nat_lt 0 (length digits) && ends_line behind then number_of digits else None

abbrev pub number_front : List ℕ → Option ℕ
number_front line = number_before (take (prefix_len is_ascii_digit line) line) (drop (prefix_len is_ascii_digit line) line)

abbrev pub number_of_line : List ℕ → Option ℕ
number_of_line line = number_front (skip_spaces line)

-- the number after a name that stands at the front
abbrev pub length_behind : List ℕ → Option ℕ
length_behind bytes = number_of_line (drop 15 bytes)

-- the number after the last name, where `found` is what came before these bytes
abbrev pub length_after : Option ℕ → List ℕ → Option ℕ
length_after found [] = found
length_after found (b ∷ bytes) = length_after (if is_length (b ∷ bytes) then length_behind (b ∷ bytes) else found) bytes

abbrev pub told_length : List ℕ → Option ℕ
told_length = length_after None

-- THE FRAME AT THE FRONT

-- a content of this length after so many bytes, where so many have come
abbrev pub cut_content : ℕ → ℕ → ℕ → Cut
cut_content first size come = if nat_le first come && nat_le size (come - first) then Content first size else More

abbrev pub cut_by : ℕ → Option ℕ → ℕ → Cut
cut_by first None come = Unread first
cut_by first (Some size) come = if nat_lt CONTENT_MAX size then Large first size else cut_content first size come

abbrev pub cut_behind : ℕ → List ℕ → ℕ → Cut
cut_behind first front come = cut_by first (told_length (take first front)) come

abbrev pub cut_at : Option ℕ → List ℕ → ℕ → Cut
cut_at (Some first) front come = cut_behind first front come
cut_at None front come = if nat_lt come HEADER_MAX then More else Unread HEADER_MAX

-- what stands at the front of a stream, as far as it has come: an empty line is looked for in the first HEADER_MAX bytes
unfoldable pub cut : List ℕ → Cut
cut bytes = cut_at (blank_end (take HEADER_MAX bytes)) (take HEADER_MAX bytes) (length bytes)

-- the frame of a content
unfoldable pub frame : List ℕ → List ℕ
frame content = codes "Content-Length: " ++ decimal (length content) ++ 13 ∷ 10 ∷ 13 ∷ 10 ∷ content

-- the frame of a content is read as that content, whatever comes after it
abbrev pub IsReadBack : List ℕ → List ℕ → Type 0
IsReadBack content rest = (first : ℕ) × (cut (frame content ++ rest) ≡ Content first (length content)) × (take (length content) (drop first (frame content ++ rest)) ≡ content)
