-- How a system in code finds the events that may be picked.
use Rattle.std.specs.Prelude.{◌≡◌, ℕ, ◌+◌, ◌<◌, ◌≤◌, List, length, slice_get, Option, Some, None, Result, Ok, Err}
use Rattle.da_lang.specs.declared.event.Event.{Event}
use Rattle.da_core.specs.declared.place.Place.{Place}
use Rattle.da_core.specs.declared.place.Place.TheVariants.{Await}
use Rattle.da_system.specs.declared.system.System.{System}
use Rattle.da_system.specs.Choices.{choices}
use Rattle.da_system.specs.State.{Stands, program_of}
use Rattle.da_system.specs.SystemStep.{SystemState}

-- there is an event j to pick, counted from 0, in a state that the system stands for
abbrev pub HasChoice : System → ℕ → Type 0
HasChoice system j = (s : SystemState) × Stands system s × (j < length (choices (program_of system) s))

-- event j of a list, counted from 0, or by how much j is past its end
abbrev pub Finds : List Event → ℕ → Result Event ℕ → Type 0
Finds events j (Ok e) = slice_get events j ≡ Some e
Finds events j (Err past) = j ≡ length events + past

-- it is so of a list of at most so many events
abbrev pub IsOfAtMost : ℕ → ℕ → Result Event ℕ → Type 0
IsOfAtMost most j (Ok e) = j < most
IsOfAtMost most j (Err past) = j ≤ past + most

-- j is by so much past a number of events, where that is known
abbrev pub IsPast : ℕ → Option ℕ → ℕ → Type 0
IsPast j None past = ⊥
IsPast j (Some count) past = j ≡ count + past

-- the alternatives that a process may have to take which stands there
abbrev pub alternatives_of : Place → ℕ
alternatives_of (Await count) = count
alternatives_of _ = 0
