-- What a process in code keeps, by values. It decides for which worlds the process stands.
use Rattle.std.specs.Prelude.{◌≡◌, ℕ, List, [], ◌∷◌, map, pos, slice_get, Some}
use Rattle.da_values.specs.declared.val.Val.{Val}
use Rattle.da_values.specs.declared.val.Val.TheVariants.{Int, Tuple}
use Rattle.da_values.specs.declared.value.Value.{Value}
use Rattle.da_values.specs.declared.value.Value.TheVariants as kept
use Rattle.da_values.specs.Value.{val_of}
use Rattle.da_lang.specs.Matching.{Row}
use Rattle.da_lang.specs.World.{World}
use Rattle.row_pool.specs.Cells.{Cells}
use Rattle.delta_rules.specs.declared.answers.Answers.{Answers}
use Rattle.delta_rules.specs.Keeping.{set_rows}
use Rattle.da_core.specs.declared.compiled.Compiled.{Compiled}
use Rattle.da_core.specs.declared.place.Place.{Place}
use Rattle.da_core.specs.declared.place.Place.TheVariants as place
use Rattle.da_core.specs.declared.process.Core.{Core}
use Rattle.da_core.specs.StandsFor.{StandsFor, compiled_of}

-- the values of its slots, as they stand beside the pool
abbrev pub kept_slots : Answers → Row
kept_slots answers = answers.values

-- the rows of its live patterns, with the pool that gave their ids
abbrev pub live_rows_of : Answers → Cells → List (List Row)
live_rows_of answers pool = set_rows pool answers.live.items

-- its number and its clock, where it stands, the place of its code with the rests of loops, its slots, and the rows of its live
-- patterns. The rows of its queries follow from these.
pub record LocalState : Type 0 where
  pub me : ℕ
  pub clock : ℕ
  pub place : Place
  pub at : ℕ
  pub loops : List (List Val)
  pub slots : List Val
  pub live : List (List Row)

abbrev pub state_of : Core → LocalState
state_of core = record {
  me = core.known.answers.me;
  clock = core.known.clock;
  place = core.place;
  at = core.machine.place;
  loops = core.machine.loops;
  slots = kept_slots core.known.answers;
  live = live_rows_of core.known.answers core.known.pool;
}

-- THE SAME AS ONE VALUE, by which it is told from others

-- a place by its kind, and by how many alternatives there are
abbrev pub place_kind : Place → ℕ
place_kind place.New = 0
place_kind place.Label = 1
place_kind place.Ended = 2
place_kind place.Faulted = 3
place_kind (place.Await count) = 4

abbrev pub place_count : Place → ℕ
place_count (place.Await count) = count
place_count _ = 0

abbrev pub number_value : ℕ → Val
number_value n = Int (pos n)

abbrev pub rows_value : List Row → Val
rows_value rows = Tuple (map Tuple rows)

abbrev pub sets_value : List (List Row) → Val
sets_value sets = Tuple (map rows_value sets)

abbrev pub state_value : LocalState → Val
state_value s = Tuple (number_value s.me ∷ number_value s.clock ∷ number_value (place_kind s.place) ∷ number_value (place_count s.place)
    ∷ number_value s.at ∷ rows_value s.loops ∷ Tuple s.slots ∷ sets_value s.live ∷ [])

-- the fourth part of a kept value is this number
abbrev pub HasCount : Value → ℕ → Type 0
HasCount (kept.Tuple parts) n = slice_get parts 3 ≡ Some (number_value n)
HasCount _ n = ⊥

-- THE WORLDS OF A LOCAL STATE: those for which some process of the program stands that has it
pub record IsLocal (compiled : Compiled) (v : Val) (w : World) : Type 0 where
  pub core : Core
  pub same : compiled_of core ≡ compiled
  pub has : state_value (state_of core) ≡ v
  pub stands : StandsFor core w

-- THE LAW: two processes of one program with the same value stand for the same worlds, where each of them stands for some
abbrev pub LocalDecides : Type 0
LocalDecides = (a b : Core) (v w : World) → compiled_of a ≡ compiled_of b → state_value (state_of a) ≡ state_value (state_of b) → StandsFor a v → StandsFor b w → StandsFor a w

-- how many alternatives there are where a process with this local state stands
abbrev pub CountIs : Compiled → Value → ℕ → Type 0
CountIs compiled v n = (w : World) (is : IsLocal compiled (val_of v) w) → n ≡ place_count is.core.place
