-- What is shown of a process in a state: where it stands and the line where it waits, its slots, what its queries answer, and what
-- is in flight to it.
use Rattle.std.specs.Prelude.{ℕ, ◌+◌, ◌==◌, if◌then◌else◌, List, [], ◌∷◌, ◌++◌, codes, decimal, length, map, bytes_eq, Option, Some, None}
use Rattle.std.specs.List.{flat_map}
use Rattle.da_values.specs.declared.val.Val.{Val}
use Rattle.da_values.specs.declared.val.Val.TheVariants.{Set}
use Rattle.da_values.specs.Text.{value_text}
use Rattle.da_lang.specs.declared.event.Action.{Action}
use Rattle.da_lang.specs.declared.event.Action.TheVariants.{Answer}
use Rattle.da_lang.specs.declared.program.Program.{Program}
use Rattle.da_lang.specs.World.{World, Phase, New, Waiting, Ended, Faulted, class_of}
use Rattle.da_core.specs.Told.{answers_of, numbers_to}
use Rattle.da_system.specs.Channels.{MessageInFlight, channel}
use Rattle.da_system.specs.SystemStep.{SystemState}
use Rattle.trace_page.specs.declared.page.Change.{Change}
use Rattle.run_page.specs.declared.cells.Cell.{Cell}

abbrev pub cell : List ℕ → List ℕ → Cell
cell name value = record { name = name; value = value }

abbrev pub phase_text : Phase → List ℕ
phase_text New = codes "new"
phase_text Waiting = codes "waits"
phase_text Ended = codes "ended"
phase_text Faulted = codes "faulted"

-- a line, or nothing where there is none
abbrev pub line_text : ℕ → List ℕ
line_text line = if line == 0 then [] else decimal line

-- a slot has the name of its variable, or else its number
abbrev pub slot_name : List (List ℕ) → ℕ → List ℕ
slot_name [] number = codes "#" ++ decimal number
slot_name (name ∷ names) number = name

abbrev pub behind : List (List ℕ) → List (List ℕ)
behind [] = []
behind (name ∷ names) = names

-- the slots from this number on, where these names are left
abbrev pub slot_cells : List (List ℕ) → ℕ → List Val → List Cell
slot_cells names number [] = []
slot_cells names number (x ∷ slots) = cell (slot_name names number) (value_text x) ∷ slot_cells (behind names) (number + 1) slots

abbrev pub answer_cell : Action → Cell
answer_cell (Answer p n rows) = cell (codes "query " ++ decimal n) (value_text (Set rows))
answer_cell _ = cell [] []

-- the messages in flight from process q to process p, each with the time of its sending
abbrev pub message_text : MessageInFlight → List ℕ
message_text m = value_text m.message ++ codes " at " ++ decimal m.time ++ codes "; "

abbrev pub text_at : Option MessageInFlight → List ℕ
text_at None = []
text_at (Some m) = message_text m

abbrev pub flight_cell : SystemState → ℕ → ℕ → Cell
flight_cell s p q = cell (codes "from " ++ decimal q) (flat_map message_text (channel s.channels q p))

-- all of a process that waits in this line
abbrev pub cells : Program → List (List ℕ) → SystemState → ℕ → ℕ → World → List Cell
cells program names s p line w =
    cell (codes "stands") (phase_text w.phase) ∷ cell (codes "line") (line_text line)
    ∷ (slot_cells names 1 w.data'.slots ++ map answer_cell (answers_of p (class_of program p) w.data') ++ map (flight_cell s p) (numbers_to (length s.worlds)))

-- The same of each process from this one on. `names` are the variables of each; `lines` are the lines where they wait, of which
-- nothing is said.
abbrev pub cells_from : Program → (ℕ → List (List ℕ)) → SystemState → ℕ → List ℕ → List World → List (List Cell)
cells_from program names s p lines [] = []
cells_from program names s p [] (w ∷ worlds) = cells program (names p) s p 0 w ∷ cells_from program names s (p + 1) [] worlds
cells_from program names s p (line ∷ lines) (w ∷ worlds) = cells program (names p) s p line w ∷ cells_from program names s (p + 1) lines worlds

abbrev pub all_cells : Program → (ℕ → List (List ℕ)) → SystemState → List ℕ → List (List Cell)
all_cells program names s lines = cells_from program names s 1 lines s.worlds

-- WHAT HAS CHANGED: the cells with another value than before; before the opening all are empty

abbrev pub changed : ℕ → ℕ → Cell → Change
changed p place c = record { process = p; place = place; name = c.name; value = c.value }

abbrev pub change : ℕ → ℕ → List ℕ → Cell → List Change
change p place old c = if bytes_eq old c.value then [] else changed p place c ∷ []

abbrev pub changes_of : ℕ → ℕ → List Cell → List Cell → List Change
changes_of p place old [] = []
changes_of p place [] (c ∷ now) = change p place [] c ++ changes_of p (place + 1) [] now
changes_of p place (o ∷ old) (c ∷ now) = change p place o.value c ++ changes_of p (place + 1) old now

abbrev pub changes_from : ℕ → List (List Cell) → List (List Cell) → List Change
changes_from p old [] = []
changes_from p [] (c ∷ now) = changes_of p 0 [] c ++ changes_from (p + 1) [] now
changes_from p (o ∷ old) (c ∷ now) = changes_of p 0 o c ++ changes_from (p + 1) old now

abbrev pub changes : List (List Cell) → List (List Cell) → List Change
changes = changes_from 1
