-- A run: turn after turn, up to a yield point, the end, or a fault.
use Rattle.std.specs.Prelude.{ℕ, zero, suc, ◌+◌, ◌-◌, Bool, true, false, if◌then◌else◌, List, [], ◌∷◌, ◌++◌, Option, Some, None}
use Rattle.da_lang.specs.declared.event.Action.{Action}
use Rattle.da_lang.specs.declared.event.FaultKind.{FaultKind}
use Rattle.da_lang.specs.declared.event.FaultKind.TheVariants.{TooLong}
use Rattle.da_lang.specs.declared.program.Alt.{Alt}
use Rattle.da_lang.specs.declared.program.Class.{Class}
use Rattle.da_lang.specs.declared.program.Item.{Item}
use Rattle.da_lang.specs.declared.program.ItemKind.{ItemKind}
use Rattle.da_lang.specs.declared.program.RBranch.{RBranch}
use Rattle.da_lang.specs.declared.program.ItemKind.TheOpen.{ItemKind-F, Await, Label}
use Rattle.da_lang.specs.Turns.{AfterTurn, kind_of, line_of_task, turn}
use Rattle.da_lang.specs.World.{Data, Task, Do, Loop, Prepare}

-- a label or an `await`, which only a move takes
abbrev pub kind_yields : ItemKind-F ItemKind Alt Item RBranch → Bool
kind_yields (Await alts timeout label) = true
kind_yields (Label l) = true
kind_yields _ = false

abbrev pub yields : Task → Bool
yields (Do i) = kind_yields (kind_of i)
yields (Loop s left body line) = false
yields (Prepare call) = false

-- how a run stops
pub data Halt : Type 0 where
  AtYield : Halt
  UsedUp : Halt
  Faults : FaultKind → ℕ → Halt

-- what a run leaves and does, the turns that the event has taken by then, and how it stops
pub record Ran : Type 0 where
  pub data' : Data
  pub todo : List Task
  pub actions : List Action
  pub turns : ℕ
  pub halt : Halt

abbrev pub stopped : Data → List Task → ℕ → Halt → Ran
stopped d todo n halt = record { data' = d; todo = todo; actions = []; turns = n; halt = halt }

abbrev pub ran_after : List Action → Ran → Ran
ran_after actions ran = record ran { actions = actions ++ ran.actions }

-- after a turn: its fault, or the run from what it leaves
abbrev pub behind_turn : Data → List Task → List Action → ℕ → (Data → List Task → Ran) → Option (FaultKind × ℕ) → Ran
behind_turn d todo actions n go (Some fault) = record { data' = d; todo = todo; actions = actions; turns = n; halt = Faults fault.0 fault.1 }
behind_turn d todo actions n go None = ran_after actions (go d todo)

abbrev pub go_after : AfterTurn → ℕ → (Data → List Task → Ran) → Ran
go_after after n go = behind_turn after.data' after.todo after.actions n go after.fault

-- the turns that one event may take
unfoldable pub max_turns : ℕ
max_turns = 1000000

-- the run that may take so many turns more, where n were taken; together they are the greatest number
unfoldable pub run : Class → ℕ → ℕ → Data → List Task → Ran
run class left n d [] = stopped d [] n UsedUp
run class zero n d (t ∷ todo) = stopped d (t ∷ todo) n (if yields t then AtYield else Faults TooLong (line_of_task t))
run class (suc left) n d (t ∷ todo) =
    if yields t then stopped d (t ∷ todo) n AtYield else go_after (turn class t d todo) (n + 1) (run class left (n + 1))

-- the run of an event that has taken n turns before
abbrev pub run_to_yield : Class → ℕ → Data → List Task → Ran
run_to_yield class n d todo = run class (max_turns - n) n d todo
