-- The generated schedule: numbers pick its events one after the other.
use Rattle.std.specs.Prelude.{ℕ, zero, suc, ◌+◌, ◌*◌, ◌/◌, ◌%◌, ◌^◌, Bool, true, false, List, [], ◌∷◌, ◌++◌, codes, count_by, decimal, length, slice_get, Option, Some, None}
use Rattle.da_lang.specs.declared.event.Action.{Action}
use Rattle.da_lang.specs.declared.event.Action.TheVariants.{Took, Sent, Got, Out, End, Fault}
use Rattle.da_lang.specs.declared.event.Event.{Event}
use Rattle.da_lang.specs.declared.program.Program.{Program}
use Rattle.da_system.specs.Choices.{choices}
use Rattle.da_system.specs.SourceRun.{src_run_from}
use Rattle.da_system.specs.SystemStep.{AfterEvent, SystemState, start, sys_step}

-- NUMBERS

-- the number that comes next
abbrev pub next_number : ℕ → ℕ
next_number x = (25214903917 * x + 11) % 2 ^ 48

-- the place, counted from 0, that a number picks in a list of this length
abbrev pub place_in : ℕ → ℕ → ℕ
place_in count x = (x / 65536) % count

-- the event that a number picks, if there is one to pick
abbrev pub pick : List Event → ℕ → Option Event
pick events x = slice_get events (place_in (length events) x)

-- THE RUN

-- the events of a run, and the last number
pub record StressRun : Type 0 where
  pub events : List Event
  pub last : ℕ

-- the run ends where no event was picked
abbrev pub at_pick : ℕ → Option Event → (Event → StressRun) → StressRun
at_pick x None go = record { events = []; last = x }
at_pick x (Some e) go = let rest = go e in record rest { events = e ∷ rest.events }

-- the state after an event, which changes nothing where it is not allowed
abbrev pub state_after : SystemState → Option AfterEvent → SystemState
state_after s None = s
state_after s (Some after) = after.state

-- at most n events from this state, where the last number was x
abbrev pub stress_from : Program → ℕ → ℕ → SystemState → StressRun
stress_from program zero x s = record { events = []; last = x }
stress_from program (suc n) x s =
    let next = next_number x in
    at_pick x (pick (choices program s) next) (λ e. stress_from program n next (state_after s (sys_step program s e)))

abbrev pub stress_run : Program → ℕ → ℕ → StressRun
stress_run program x n = stress_from program n x (start program)

-- THE EIGHT LINES

abbrev pub is_took : Action → Bool
is_took (Took p k) = true
is_took _ = false

abbrev pub is_sent : Action → Bool
is_sent (Sent p q t v) = true
is_sent _ = false

abbrev pub is_got : Action → Bool
is_got (Got q p t v) = true
is_got _ = false

abbrev pub is_out : Action → Bool
is_out (Out p v) = true
is_out _ = false

abbrev pub is_end : Action → Bool
is_end (End p) = true
is_end _ = false

abbrev pub is_fault : Action → Bool
is_fault (Fault p kind line) = true
is_fault _ = false

-- the line of a word and a number
unfoldable pub number_line : List ℕ → ℕ → List ℕ
number_line word n = word ++ codes " " ++ decimal n ++ codes "\n"

-- how many events there were, how many actions of each kind, and the last number
abbrev pub summary : List Event → List Action → ℕ → List ℕ
summary events actions last =
    number_line (codes "events") (length events)
    ++ number_line (codes "took") (count_by is_took actions)
    ++ number_line (codes "sent") (count_by is_sent actions)
    ++ number_line (codes "got") (count_by is_got actions)
    ++ number_line (codes "out") (count_by is_out actions)
    ++ number_line (codes "end") (count_by is_end actions)
    ++ number_line (codes "fault") (count_by is_fault actions)
    ++ number_line (codes "state") last

-- the actions are those of the run of the events
abbrev pub stress_text_from : Program → SystemState → ℕ → ℕ → List ℕ
stress_text_from program s x n =
    let run = stress_from program n x s in
    summary run.events (src_run_from program 1 s run.events).actions run.last

abbrev pub stress_text : Program → ℕ → ℕ → List ℕ
stress_text program x n = stress_text_from program (start program) x n
