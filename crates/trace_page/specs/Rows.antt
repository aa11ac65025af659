-- The rows of a page: a row is an event. A trace has no events; there a row is what one event must have done.
use Rattle.std.specs.Prelude.{ℕ, ◌+◌, ◌==◌, ◌&&◌, ◌||◌, nat_lt, max, Bool, true, false, if◌then◌else◌, List, [], ◌∷◌, ◌++◌, length}
use Rattle.std.specs.List.{flat_map}
use Rattle.da_lang.specs.declared.event.Action.{Action}
use Rattle.da_lang.specs.declared.event.Action.TheVariants.{Took, Sent, Got, Lost, Again, Out, End, Fault, Answer, Kept, Stop}
use Rattle.trace_page.specs.declared.page.Row.{Row}

-- the process of an action: of a message that is lost or doubled the sender, and of a stop 0
abbrev pub process_of : Action → ℕ
process_of (Took p k) = p
process_of (Sent p q t v) = p
process_of (Got q p t v) = q
process_of (Lost p q t) = p
process_of (Again p q t) = p
process_of (Out p v) = p
process_of (End p) = p
process_of (Fault p kind line) = p
process_of (Answer p n rows) = p
process_of (Kept p n) = p
process_of (Stop i) = 0

-- THE ROWS OF A TRACE

-- an action after which an event may go on, and one that no event begins with
abbrev pub may_go_on : Action → Bool
may_go_on (Took p k) = true
may_go_on (Got q p t v) = true
may_go_on (Sent p q t v) = true
may_go_on (Out p v) = true
may_go_on _ = false

abbrev pub comes_later : Action → Bool
comes_later (Sent p q t v) = true
comes_later (Out p v) = true
comes_later (End p) = true
comes_later (Fault p kind line) = true
comes_later _ = false

-- the query that is answered; queries are numbered from 1
abbrev pub query_of : Action → ℕ
query_of (Answer p n rows) = n
query_of _ = 0

-- of two actions of one process: no event begins with the second one, or it answers a later query
abbrev pub follows : Action → Action → Bool
follows a b = (may_go_on a && comes_later b) || (nat_lt 0 (query_of a) && nat_lt (query_of a) (query_of b))

-- the second action may be of the event of the first
abbrev pub goes_on : Action → Action → Bool
goes_on a b = (process_of a == process_of b) && follows a b

-- an action joins a row: it goes on after the last of the row, or the row has none yet
abbrev pub joins : List Action → Action → Bool
joins [] b = true
joins (a ∷ []) b = goes_on a b
joins (a ∷ c ∷ row) b = joins (c ∷ row) b

-- the rows of what is left, where this row has begun: each action joins the row, or begins the next one
abbrev pub ended : List Action → List (List Action)
ended [] = []
ended (a ∷ row) = (a ∷ row) ∷ []

abbrev pub rows_from : List Action → List Action → List (List Action)
rows_from [] row = ended row
rows_from (a ∷ left) row = if joins row a then rows_from left (row ++ a ∷ []) else row ∷ rows_from left (a ∷ [])

abbrev pub rows_of : List Action → List (List Action)
rows_of actions = rows_from actions []

-- WHERE ROWS AND ACTIONS STAND: each action has a line of the picture, and a row without actions has one too

abbrev pub height : Row → ℕ
height row = max (length row.actions) 1

-- a row, with its number and its first line
pub record Placed : Type 0 where
  pub event : ℕ
  pub line : ℕ
  pub row : Row

-- the rows, numbered from here on
abbrev pub placed : ℕ → ℕ → List Row → List Placed
placed event line [] = []
placed event line (row ∷ rows) = record { event = event; line = line; row = row } ∷ placed (event + 1) (line + height row) rows

abbrev pub lines_in : List Row → ℕ
lines_in [] = 0
lines_in (row ∷ rows) = height row + lines_in rows

-- an action, with the number of its event and its line
pub record Spot : Type 0 where
  pub event : ℕ
  pub line : ℕ
  pub action : Action

abbrev pub spots_in : ℕ → ℕ → List Action → List Spot
spots_in event line [] = []
spots_in event line (a ∷ others) = record { event = event; line = line; action = a } ∷ spots_in event (line + 1) others

-- all actions of placed rows, in their order
abbrev pub spots_of : List Placed → List Spot
spots_of = flat_map (λ at. spots_in at.event at.line at.row.actions)
