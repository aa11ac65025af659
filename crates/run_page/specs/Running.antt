-- A run in code, event by event.
use Rattle.std.specs.Prelude.{◌≡◌, ℕ, Bool, true, false, List, [], ◌∷◌, ◌++◌, Option, Some, None}
use Rattle.da_lang.specs.declared.event.Action.{Action}
use Rattle.da_lang.specs.declared.event.Event.{Event}
use Rattle.da_lang.specs.declared.program.Program.{Program}
use Rattle.da_core.specs.Compiled as compiled
use Rattle.da_system.specs.declared.system.System.{System}
use Rattle.da_system.specs.State.{Stands, Whichever, program_of}
use Rattle.da_system.specs.SystemStep.{AfterEvent, SystemState, start, sys_step}
use Rattle.run_page.specs.declared.running.Asked.{Asked}
use Rattle.run_page.specs.declared.running.Running.{Running}
use Rattle.run_page.specs.Cells.{all_cells}
use Rattle.run_page.specs.RunRows.{event_row, names_at, opening_row, stop_row}

-- an event that is allowed was carried out, and these are its actions
pub record IsDone (program : Program) (s : SystemState) (e : Event) (actions : List Action) (system : System) : Type 0 where
  pub after : AfterEvent
  pub is : sys_step program s e ≡ Some after
  pub stands : Stands system after.state
  pub told : actions ≡ after.actions

abbrev pub HasStepped : Program → SystemState → Event → Option (List Action) → System → Type 0
HasStepped program s e None system = (sys_step program s e ≡ None) × Stands system s
HasStepped program s e (Some actions) system = IsDone program s e actions system

abbrev pub program_in : Asked → Program
program_in asked = compiled.program_of asked.compiled.now

-- the cells of a state, with some lines
abbrev pub AreCells : Asked → SystemState → List ℕ → Running → Type 0
AreCells asked s lines running = running.cells ≡ all_cells (program_in asked) (names_at asked.names.now) s lines

-- a run stands for some state of its program
pub record IsOnItsWay (running : Running) : Type 0 where
  pub state : SystemState
  pub stands : Stands running.system state
  pub program : program_of running.system ≡ program_in running.asked

-- it stands for the opening, and has its row
pub record IsOpened (asked : Asked) (running : Running) : Type 0 where
  pub asked_is : running.asked ≡ asked
  pub program : program_of running.system ≡ program_in asked
  pub stands : Stands running.system (start (program_in asked))
  pub lines : List ℕ
  pub cells : AreCells asked (start (program_in asked)) lines running
  pub rows : running.rows ≡ opening_row running.cells ∷ []

-- the row of an event with these actions was added, with the cells of the state that the system stands for
pub record HasTold (number : ℕ) (e : Event) (actions : List Action) (old new : Running) : Type 0 where
  pub asked_is : new.asked ≡ old.asked
  pub system_is : new.system ≡ old.system
  pub lines : List ℕ
  pub cells : Whichever new.system (λ s. new.cells ≡ all_cells (program_in old.asked) (names_at old.asked.names.now) s lines)
  pub rows : new.rows ≡ old.rows ++ event_row old.asked.marked.now number e actions old.cells new.cells ∷ []

-- the event was allowed, and its row was added
pub record HasMore (number : ℕ) (e : Event) (s : SystemState) (old new : Running) : Type 0 where
  pub after : AfterEvent
  pub is : sys_step (program_in old.asked) s e ≡ Some after
  pub stands : Stands new.system after.state
  pub asked_is : new.asked ≡ old.asked
  pub program : program_of new.system ≡ program_in old.asked
  pub lines : List ℕ
  pub cells : AreCells old.asked after.state lines new
  pub rows : new.rows ≡ old.rows ++ event_row old.asked.marked.now number e after.actions old.cells new.cells ∷ []

abbrev pub HasGone : ℕ → Event → SystemState → Running → Bool → Running → Type 0
HasGone number e s old true new = HasMore number e s old new
HasGone number e s old false new =
    (sys_step (program_in old.asked) s e ≡ None) × (new.rows ≡ old.rows ++ stop_row old.asked.marked.now number e ∷ [])

-- the row of an event was added, by what its step did
abbrev pub HasAdded : ℕ → Event → Option (List Action) → Running → Bool → Running → Type 0
HasAdded number e (Some actions) old allowed new = (allowed ≡ true) × HasTold number e actions old new
HasAdded number e None old allowed new = (allowed ≡ false) × (new.rows ≡ old.rows ++ stop_row old.asked.marked.now number e ∷ [])
