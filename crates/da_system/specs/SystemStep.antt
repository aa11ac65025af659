-- The step of a system: what each event does, and where it is not allowed.
use Rattle.std.specs.Prelude.{ℕ, if◌then◌else◌, List, [], ◌∷◌, map, length, Option, Some, None}
use Rattle.da_lang.specs.declared.event.Action.{Action}
use Rattle.da_lang.specs.declared.event.Action.TheVariants.{Again, Kept, Lost}
use Rattle.da_lang.specs.declared.event.Event.{Event}
use Rattle.da_lang.specs.declared.event.Event.TheVariants as event
use Rattle.da_lang.specs.declared.program.Program.{Program}
use Rattle.da_lang.specs.declared.ty.ChannelKind.{ChannelKind}
use Rattle.da_lang.specs.Steps.{Step, Go, Take, TimeOut, Deliver, Stepped, proc_step}
use Rattle.da_lang.specs.World.{Data, World, class_of, at_number, opening}
use Rattle.da_core.specs.Told.{answers_of, kept_of, numbers_to}
use Rattle.da_system.specs.Channels.{Channels, MessageInFlight, after_actions, channel, may_arrive, may_lose, may_repeat, no_messages, put_numbered, with_message, without_message}

-- a system: the kind of its channels, its processes in the order of their numbers, and its channels
pub record SystemState : Type 0 where
  pub kind : ChannelKind
  pub worlds : List World
  pub channels : Channels

-- the state after a step, and what the step did
pub record AfterEvent : Type 0 where
  pub state : SystemState
  pub actions : List Action

-- THE OPENING

abbrev pub start : Program → SystemState
start program = record {
  kind = program.kind;
  worlds = map (opening program) (numbers_to (length program.procs));
  channels = no_messages (length program.procs);
}

-- MOVES, TIMEOUTS AND DELIVERIES

-- process p has made the step: it has another world, and what it sent is in the channels
abbrev pub stepped : SystemState → ℕ → Option Stepped → Option AfterEvent
stepped s p None = None
stepped s p (Some step) = Some (record {
  state = record s { worlds = put_numbered s.worlds p step.world; channels = after_actions s.channels step.actions };
  actions = step.actions;
})

abbrev pub step_of : Program → SystemState → ℕ → Option World → Step → Option AfterEvent
step_of program s p None step = None
step_of program s p (Some world) step = stepped s p (proc_step program world step)

-- process p makes a step, if it is there and may
abbrev pub process_step : Program → SystemState → ℕ → Step → Option AfterEvent
process_step program s p step = step_of program s p (at_number s.worlds p) step

-- message i of the channel from p to q leaves the channel and arrives
abbrev pub arrive : Program → SystemState → ℕ → ℕ → ℕ → Option MessageInFlight → Option AfterEvent
arrive program s p q i None = None
arrive program s p q i (Some message) =
    process_step program (record s { channels = without_message s.channels p q i }) q (Deliver message.message p message.time)

abbrev pub deliver : Program → SystemState → ℕ → ℕ → ℕ → Option AfterEvent
deliver program s p q i = if may_arrive s.kind i then arrive program s p q i (at_number (channel s.channels p q) i) else None

-- LOSSES AND REPETITIONS

-- the message leaves the channel
abbrev pub drop_message : SystemState → ℕ → ℕ → ℕ → Option MessageInFlight → Option AfterEvent
drop_message s p q i None = None
drop_message s p q i (Some message) = Some (record { state = record s { channels = without_message s.channels p q i }; actions = Lost p q message.time ∷ [] })

abbrev pub lose : SystemState → ℕ → ℕ → ℕ → Option AfterEvent
lose s p q i = if may_lose s.kind then drop_message s p q i (at_number (channel s.channels p q) i) else None

-- a copy of the message goes to the end of the channel
abbrev pub copy_message : SystemState → ℕ → ℕ → Option MessageInFlight → Option AfterEvent
copy_message s p q None = None
copy_message s p q (Some message) = Some (record { state = record s { channels = with_message s.channels p q message }; actions = Again p q message.time ∷ [] })

abbrev pub repeat : SystemState → ℕ → ℕ → ℕ → Option AfterEvent
repeat s p q i = if may_repeat s.kind then copy_message s p q (at_number (channel s.channels p q) i) else None

-- WHAT IS TOLD OF A PROCESS

-- if the process is there, the actions tell of what it knows, and nothing changes
abbrev pub told : SystemState → Option World → (Data → List Action) → Option AfterEvent
told s None tell = None
told s (Some world) tell = Some (record { state = s; actions = tell world.data' })

abbrev pub show : Program → SystemState → ℕ → Option AfterEvent
show program s p = told s (at_number s.worlds p) (answers_of p (class_of program p))

abbrev pub stat : Program → SystemState → ℕ → Option AfterEvent
stat program s p = told s (at_number s.worlds p) (λ d. Kept p (kept_of (class_of program p) d) ∷ [])

-- THE STEP OF AN EVENT, or none where it is not allowed. Alternatives are numbered from 1, so there is none to take by the
-- number 0.
abbrev pub sys_step : Program → SystemState → Event → Option AfterEvent
sys_step program s (event.Move p) = process_step program s p Go
sys_step program s (event.Take p k) = process_step program s p (Take k)
sys_step program s (event.Timeout p) = process_step program s p TimeOut
sys_step program s (event.Deliver p q i) = deliver program s p q i
sys_step program s (event.Lose p q i) = lose s p q i
sys_step program s (event.Repeat p q i) = repeat s p q i
sys_step program s (event.Show p) = show program s p
sys_step program s (event.Stat p) = stat program s p
