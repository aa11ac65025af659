-- Where the search for a schedule stands.
use Rattle.std.specs.Prelude.{◌≡◌, ℕ, ◌+◌, ◌<◌, ◌^◌, Bool, true, false, List, [], ◌∷◌, ◌++◌, length, Some}
use Rattle.da_values.specs.Value.{val_of}
use Rattle.da_lang.specs.declared.event.Action.{Action}
use Rattle.da_lang.specs.declared.event.Action.TheVariants.{Took, Got}
use Rattle.da_lang.specs.declared.event.Event.{Event}
use Rattle.da_lang.specs.declared.program.Program.{Program}
use Rattle.da_lang.specs.declared.ty.ChannelKind.{ChannelKind}
use Rattle.da_lang.specs.World.{World, at_number}
use Rattle.da_core.specs.declared.compiled.Compiled.{Compiled}
use Rattle.da_core.specs.Compiled.{IsCompiled, program_of}
use Rattle.da_system.specs.Channels.{Channels, channel}
use Rattle.da_system.specs.SystemStep.{SystemState}
use Rattle.trace_join.specs.declared.search.Search.{Search}
use Rattle.trace_join.specs.declared.track.Next.{Next}
use Rattle.trace_join.specs.declared.track.Track.{Track}
use Rattle.trace_join.specs.Cuts.{IsCut}
use Rattle.trace_join.specs.Fetching.{Fetched}
use Rattle.trace_join.specs.Progress.{Came, took_event}
use Rattle.trace_join.specs.Remains.{IsThere}
use Rattle.trace_join.specs.Repeats.{TellRepeats}
use Rattle.trace_join.specs.Sending.{IsOneOf, SameElsewhere}
use Rattle.trace_join.specs.Waiting.{CannotGet, Waits}

-- of each trace it is known what it gets more than once, as far as that is asked
abbrev pub AllRepeats : List (List Action) → List (List Bool) → Type 0
AllRepeats traces repeats = (p : ℕ) (trace : List Action) → at_number traces p ≡ Some trace
    → (of : List Bool) × (at_number repeats p ≡ Some of) × TellRepeats trace of

-- how many steps of processes are left
abbrev pub pieces_left : List Track → ℕ
pieces_left [] = 0
pieces_left (t ∷ tracks) = length t.pieces.now + pieces_left tracks

-- the queues have the messages that are in the channels
abbrev pub HoldMessages : SystemState → Channels → Type 0
HoldMessages s queues = (p q : ℕ) → IsThere s p → IsThere s q → channel s.channels p q ≡ channel queues p q

-- process p, in this world, stands where this is left of its trace
pub record IsOnTrack (program : Program) (w : World) (left : List Action) (tracks : List Track) (p : ℕ) : Type 0 where
  pub track : Track
  pub there : at_number tracks p ≡ Some track
  pub same : track.left.now ≡ left
  pub cut : IsCut program w left track.pieces.now
  pub repeats : TellRepeats left track.repeats.now

-- The events so far lead to a state of the program: what is left of each trace is on its track, the messages in flight are in
-- the queues, and the processes that are known to wait do.
pub record Ready (s : Search) : Type 0 where
  pub compiled : IsCompiled s.compiled.now
  pub state : SystemState
  pub lefts : ℕ → List Action
  pub came : Came (program_of s.compiled.now) s.traces.now s.schedule state lefts
  pub each : length s.tracks ≡ length (program_of s.compiled.now).procs
  pub few : length s.tracks < 2 ^ 16
  pub rows : length s.queues ≡ length s.tracks
  pub known : length s.waits ≡ length s.tracks
  pub holds : HoldMessages state s.queues
  pub on_track : (p : ℕ) (w : World) → at_number state.worlds p ≡ Some w → IsOnTrack (program_of s.compiled.now) w (lefts p) s.tracks p
  pub waiting : (p : ℕ) (t : Track) → at_number s.waits p ≡ Some true → at_number s.tracks p ≡ Some t
      → Waits (program_of s.compiled.now).kind s.queues p t

-- it is the search for these traces
abbrev pub IsOf : Compiled → List (List Action) → Search → Type 0
IsOf compiled traces s = (s.compiled.now ≡ compiled) × (s.traces.now ≡ traces)

-- the processes stand where they stood
abbrev pub StandStill : Search → Search → Type 0
StandStill old new = (new.compiled ≡ old.compiled) × (new.traces ≡ old.traces) × (new.tracks ≡ old.tracks) × (new.waits ≡ old.waits)

-- the step that is asked for was made by these events, as far as channels and events go
abbrev pub Made : ChannelKind → (me : ℕ) → (asked : Action) → (times_out again : Bool) → (queues queues' : Channels) → List Event → Type 0
Made kind me (Took p k) times_out again queues queues' events = (events ≡ took_event me k times_out ∷ []) × (queues' ≡ queues)
Made kind me (Got q from time m) times_out again queues queues' events =
    IsOneOf (length queues) from
    × Fetched kind from me (record { message = val_of m; time = time }) again (channel queues from me) (channel queues' from me) events
    × SameElsewhere from me queues queues'
Made kind me _ times_out again queues queues' events = ⊥

-- Where process `me` went on, the events of its step were added. Else it waits, and nothing has changed.
abbrev pub Goes : ChannelKind → (me : ℕ) → Next → (went : Bool) → (queues queues' : Channels) → (events events' : List Event) → Type 0
Goes kind me n true queues queues' events events' =
    (added : List Event) × (events' ≡ events ++ added) × (length queues' ≡ length queues) × Made kind me n.asked.now n.times_out n.again queues queues' added
Goes kind me n false queues queues' events events' =
    CannotGet kind queues me (n.asked.now ∷ []) × (length queues' ≡ length queues) × ((p q : ℕ) → channel queues' p q ≡ channel queues p q) × (events' ≡ events)

-- the trace goes on by a move, a timeout, or a message that is delivered
abbrev pub IsAsked : Action → Type 0
IsAsked (Took p k) = Unit {0}
IsAsked (Got q from time m) = Unit {0}
IsAsked _ = ⊥
