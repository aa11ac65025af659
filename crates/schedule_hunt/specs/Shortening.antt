-- How events are left out.
use Rattle.std.specs.Prelude.{◌≡◌, ℕ, ◌<◌, Bool, true, false, List, ◌++◌, drop, length, take}
use Rattle.std.specs.List.{remove}
use Rattle.da_lang.specs.declared.event.Event.{Event}
use Rattle.da_lang.specs.declared.program.Program.{Program}
use Rattle.schedule_hunt.specs.declared.what.Goal.{Goal}
use Rattle.schedule_hunt.specs.Hunt.{IsPart, IsShownBy}

-- the events without so many at a place, counted from 0
abbrev pub without_some : List Event → ℕ → ℕ → List Event
without_some events place size = take place events ++ drop size (drop place events)

-- some of the events, which show it
pub record IsShownPart (program : Program) (what : Goal) (part whole : List Event) : Type 0 where
  pub shown : IsShownBy program what part
  pub part_is : IsPart part whole

-- without any one of them they do not show it
abbrev pub IsNeededEach : Program → Goal → List Event → Type 0
IsNeededEach program what events = (place : ℕ) → place < length events → IsShownBy program what (remove events place) → ⊥

-- some were left out, or nothing has changed and each is needed
abbrev pub HasShortened : Program → Goal → Bool → List Event → List Event → Type 0
HasShortened program what true old new = length new < length old
HasShortened program what false old new = (new ≡ old) × IsNeededEach program what old

-- the fewer ones show it and are kept, or they do not and nothing has changed
abbrev pub HasTried : Program → Goal → Bool → List Event → List Event → List Event → Type 0
HasTried program what true fewer old new = (new ≡ fewer) × IsShownBy program what fewer
HasTried program what false fewer old new = (new ≡ old) × (IsShownBy program what fewer → ⊥)
