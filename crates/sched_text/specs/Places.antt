-- Where the events of a schedule stand.
use Rattle.std.specs.Prelude.{ℕ, ◌==◌, Bool, false, List, [], ◌∷◌, not}
use Rattle.std.specs.List.{enumerate_from, filter}
use Rattle.std.specs.Str.Lines.{lines}

-- whether a line is an event: it is not empty and does not begin with `#`
abbrev pub is_event : List ℕ → Bool
is_event [] = false
is_event (b ∷ bs) = not (b == 35)

-- the lines from here on that are events, each with its number
abbrev pub events_from : ℕ → List (List ℕ) → List (ℕ × List ℕ)
events_from number more = filter (λ place. is_event place.1) (enumerate_from number more)

-- the lines of a schedule that are events, each with its number, counted from 1
abbrev pub event_lines : List ℕ → List (ℕ × List ℕ)
event_lines text = events_from 1 (lines text)
