-- All events that are allowed in a state but for `show` and `stat`, in their order: the moves and timeouts, and then what may be
-- done with the messages in flight.
use Rattle.std.specs.Prelude.{◌≡◌, ◌↔◌, ℕ, if◌then◌else◌, Bool, true, false, List, [], ◌++◌, length, map, IsSome}
use Rattle.std.specs.List.{filter, flat_map}
use Rattle.da_core.specs.Told.{numbers_to}
use Rattle.da_values.specs.Sets.{Has}
use Rattle.da_lang.specs.declared.event.Event.{Event}
use Rattle.da_lang.specs.declared.event.Event.TheVariants as event
use Rattle.da_lang.specs.declared.program.Program.{Program}
use Rattle.da_system.specs.Channels.{channel}
use Rattle.da_system.specs.Choices.{is_allowed, moves_of, processes}
use Rattle.da_system.specs.SystemStep.{SystemState, sys_step}
use Rattle.trace_join.specs.Joins.{IsPlain}
use Rattle.schedule_walk.specs.declared.allowed.Deed.{Deed}
use Rattle.schedule_walk.specs.declared.allowed.Deed.TheVariants.{Deliver, Lose, Repeat}

-- what is done with message i from process p to process q
abbrev pub deed_event : Deed → ℕ → ℕ → ℕ → Event
deed_event Deliver p q i = event.Deliver p q i
deed_event Lose p q i = event.Lose p q i
deed_event Repeat p q i = event.Repeat p q i

-- the same for each message in flight from p to q, then from p to each process, and then from each process
abbrev pub deeds_to : Deed → SystemState → ℕ → ℕ → List Event
deeds_to deed s p q = map (deed_event deed p q) (numbers_to (length (channel s.channels p q)))

abbrev pub deeds_from : Deed → SystemState → ℕ → List Event
deeds_from deed s p = flat_map (deeds_to deed s p) (processes s)

abbrev pub deeds : Deed → SystemState → List Event
deeds deed s = flat_map (deeds_from deed s) (processes s)

abbrev pub moves : SystemState → List Event
moves s = flat_map (moves_of s) (processes s)

-- THE EVENTS THAT ARE ALLOWED: moves and timeouts, deliveries, losses, repetitions
abbrev pub candidates : SystemState → List Event
candidates s = moves s ++ deeds Deliver s ++ deeds Lose s ++ deeds Repeat s

abbrev pub allowed : Program → SystemState → List Event
allowed program s = filter (is_allowed program s) (candidates s)

-- the same without the losses, and without the repetitions, unless they are wanted
abbrev pub deeds_if : Bool → Deed → SystemState → List Event
deeds_if wanted deed s = if wanted then deeds deed s else []

abbrev pub allowed_with : Bool → Bool → Program → SystemState → List Event
allowed_with losses repetitions program s = filter (is_allowed program s) (moves s ++ deeds Deliver s ++ deeds_if losses Lose s ++ deeds_if repetitions Repeat s)

-- THE LIST IS ALL THERE IS: these are the events that are allowed in a state, in their order; and whatever event is no `show` or
-- `stat` is among them exactly where it has a step
pub record ListsAllowed (program : Program) (s : SystemState) (events : List Event) : Type 0 where
  pub are : events ≡ allowed program s
  pub all : (e : Event) → Has events e ↔ (IsPlain e × IsSome (sys_step program s e))

-- whether an event is a move or a timeout
abbrev pub is_move : Event → Bool
is_move (event.Move p) = true
is_move (event.Take p k) = true
is_move (event.Timeout p) = true
is_move _ = false
