-- The remark at the end of a schedule, as a hunt writes it, and the events that it names.
use Rattle.std.specs.Prelude.{ℕ, ◌==◌, ◌&&◌, nat_le, Bool, false, if◌then◌else◌, List, [], ◌∷◌, ◌++◌, codes, drop, option_to_list, take, take_while, bytes_eq}
use Rattle.std.specs.Str.Lines.{lines}
use Rattle.da_values.specs.Piece.{number_of}
use Rattle.trace_page.specs.LastLine.{last_of}

-- the words of a remark say what an event prints: they begin with `>`
abbrev pub is_output : List ℕ → Bool
is_output [] = false
is_output (b ∷ words) = b == 62

-- the remark that a line is, without its `#`; one that says what an event prints is none
abbrev pub words_on : List ℕ → List (List ℕ)
words_on words = if is_output words then [] else words ∷ []

abbrev pub remark_on : List ℕ → List (List ℕ)
remark_on [] = []
remark_on (b ∷ words) = if b == 35 then words_on words else []

abbrev pub remarks_in : List ℕ → List (List ℕ)
remarks_in text = remark_on (last_of (lines text))

-- the number that a text begins with after `(event `
abbrev pub is_digit : ℕ → Bool
is_digit b = nat_le 48 b && nat_le b 57

abbrev pub named_here : List ℕ → List ℕ
named_here text = if bytes_eq (take 7 text) (codes "(event ") then option_to_list (number_of (take_while is_digit (drop 7 text))) else []

-- all events that a remark names
abbrev pub events_named : List ℕ → List ℕ
events_named [] = []
events_named (b ∷ text) = named_here (b ∷ text) ++ events_named text
