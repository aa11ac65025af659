-- The run of one process along its trace: the trace says which step is next, and what the step tells.
use Rattle.std.specs.Prelude.{◌≡◌, ◌⊎◌, ℕ, zero, suc, ◌==◌, Bool, true, false, if◌then◌else◌, List, [], ◌∷◌, ◌++◌, length, map, Option, Some, None}
use Rattle.std.specs.List.{flat_map}
use Rattle.da_values.specs.Value.{val_of}
use Rattle.da_lang.specs.declared.event.Action.{Action}
use Rattle.da_lang.specs.declared.event.Action.TheVariants.{Took, Got}
use Rattle.da_lang.specs.declared.program.Alt.{Alt}
use Rattle.da_lang.specs.declared.program.Item.{Item}
use Rattle.da_lang.specs.declared.program.ItemKind.{ItemKind}
use Rattle.da_lang.specs.declared.program.ItemKind.TheOpen.{ItemKind-F, Await}
use Rattle.da_lang.specs.declared.program.Program.{Program}
use Rattle.da_lang.specs.declared.program.RBranch.{RBranch}
use Rattle.da_lang.specs.Shaped.{IsEntry}
use Rattle.da_lang.specs.Steps.{Step, Go, Take, TimeOut, Deliver, Stepped, proc_step}
use Rattle.da_lang.specs.Turns.{kind_of}
use Rattle.da_lang.specs.World.{Task, Do, Phase, Waiting, World}
use Rattle.da_system.specs.Channels.{MessageInFlight}
use Rattle.trace_join.specs.declared.piece.Piece.{Piece}
use Rattle.trace_join.specs.Traces.{messages_to}

-- THE STEP THAT A TRACE ASKS FOR

-- whether a process waits at an `await` of so many alternatives
abbrev pub awaits_in : ItemKind-F ItemKind Alt Item RBranch → ℕ → Bool
awaits_in (Await alts timeout label) count = length alts == count
awaits_in _ count = false

abbrev pub awaits : Phase → List Task → ℕ → Bool
awaits Waiting (Do item ∷ todo) count = awaits_in (kind_of item) count
awaits _ _ count = false

-- The step that `took` tells with this number. The number after that of the last alternative is the timeout's.
abbrev pub move_asked : World → ℕ → Step
move_asked w zero = Go
move_asked w (suc k) = if awaits w.phase w.todo k then TimeOut else Take (suc k)

-- the step that comes next, of a process in this world
abbrev pub step_asked : World → List Action → Option Step
step_asked w (Took p k ∷ rest) = Some (move_asked w k)
step_asked w (Got q from time m ∷ rest) = Some (Deliver (val_of m) from time)
step_asked w _ = None

-- the step that the trace of a process in this world asks for, what it leads to, and what is left of the trace after it
pub record Follows (program : Program) (w : World) (trace : List Action) (step : Step) (r : Stepped) (left : List Action) : Type 0 where
  pub asks : step_asked w trace ≡ Some step
  pub makes : proc_step program w step ≡ Some r
  pub tells : trace ≡ r.actions ++ left

-- the process cannot go on along this trace
abbrev pub IsOver : Program → World → List Action → Type 0
IsOver program w trace = (step : Step) (r : Stepped) (left : List Action) → Follows program w trace step r left → ⊥

-- the trace goes on with a message that no process can send
abbrev pub AsksInVain : Program → List Action → Type 0
AsksInVain program (Got q from time m ∷ rest) = IsEntry program (record { message = val_of m; peer = from; time = time }) → ⊥
AsksInVain program _ = ⊥

-- STEPS ALONG A TRACE

-- a step and what it tells
pub record Transition : Type 0 where
  pub step : Step
  pub actions : List Action

-- these transitions, one after the other, lead from the first world and trace to the second
pub data Leads (program : Program) : World → List Action → List Transition → World → List Action → Type 0 where
  stays : (w : World) (trace : List Action) → Leads program w trace [] w trace
  goes : (w w' : World) (trace left trace' : List Action) (step : Step) (r : Stepped) (transitions : List Transition)
      → Follows program w trace step r left → Leads program r.world left transitions w' trace'
      → Leads program w trace (record { step = step; actions = r.actions } ∷ transitions) w' trace'

-- the messages that transitions send to process q
abbrev pub sent_to : ℕ → List Transition → List MessageInFlight
sent_to q transitions = flat_map (λ (t : Transition). messages_to q t.actions) transitions

-- the message that a step takes from process p, and those that transitions take from it
abbrev pub taken_by : ℕ → Step → List MessageInFlight
taken_by p (Deliver m from time) = if from == p then record { message = m; time = time } ∷ [] else []
taken_by p _ = []

abbrev pub taken_from : ℕ → List Transition → List MessageInFlight
taken_from p transitions = flat_map (λ (t : Transition). taken_by p t.step) transitions

-- THE CUT OF A TRACE

abbrev pub is_timeout : Step → Bool
is_timeout TimeOut = true
is_timeout _ = false

abbrev pub piece_of : Transition → Piece
piece_of t = record { size = length t.actions; times_out = is_timeout t.step }

-- The trace of a process in this world is cut into pieces, one for each step. After the last one the process cannot go on,
-- or waits for a message that no process can send.
pub record IsCut (program : Program) (w : World) (trace : List Action) (pieces : List Piece) : Type 0 where
  pub transitions : List Transition
  pub last : World
  pub left : List Action
  pub leads : Leads program w trace transitions last left
  pub same : pieces ≡ map piece_of transitions
  pub ends : IsOver program last left ⊎ AsksInVain program left
