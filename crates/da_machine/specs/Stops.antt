-- How a run of the code stops as the run of what is to do.
use Rattle.std.specs.Prelude.{◌≡◌, ℕ, List, [], ◌++◌}
use Rattle.da_lang.specs.declared.code.Instr.TheVariants as op
use Rattle.da_lang.specs.declared.event.Action.{Action}
use Rattle.da_lang.specs.declared.program.Class.{Class}
use Rattle.da_lang.specs.declared.program.Program.{Program}
use Rattle.da_lang.specs.Accepted.{IsAccepted}
use Rattle.da_lang.specs.Runs.{Halt, AtYield, UsedUp, Faults, Ran}
use Rattle.da_lang.specs.Shaped.{ShapedData, ShapedTasks}
use Rattle.da_lang.specs.World.{Data, Task}
use Rattle.da_machine.specs.declared.code.Code.{Code}
use Rattle.da_machine.specs.declared.machine.Machine.{Machine}
use Rattle.da_machine.specs.declared.machine.Stop.{Stop}
use Rattle.da_machine.specs.declared.machine.Stop.TheVariants as stop
use Rattle.da_machine.specs.CodeFor.{Has, CodeFor}

-- The machine stops before the yield point with which what is left begins, and the code where it stands stands for
-- what is left; or at the end; or at the fault.
abbrev pub IsStop : Code → Class → Stop → Machine → List Task → Halt → Type 0
IsStop code class s m todo AtYield = (k : ℕ) × (s ≡ stop.Yield k) × Has code m.place (op.Yield k) × CodeFor code class m.place m.loops todo
IsStop code class s m todo UsedUp = s ≡ stop.Ended
IsStop code class s m todo (Faults kind line) = s ≡ stop.Fault kind line

-- The machine may run the code for a process of a class of an accepted program: what the process knows and has to do is
-- as types say, and the code where the machine stands stands for what it has to do.
pub record CanRun (p : Program) (class : Class) (code : Code) (m : Machine) (d : Data) (todo : List Task) : Type 0 where
  pub accepted : IsAccepted p
  pub knows : ShapedData p class d
  pub tasks : ShapedTasks p class d.me todo
  pub code_for : CodeFor code class m.place m.loops todo

-- What a call of `run_code` leaves where what is to do runs so. The stack has no values then.
pub record IsRun (class : Class) (code : Code) (s : Stop) (m : Machine) (stands : Data → Type 0) (old new : List Action) (ran : Ran) : Type 0 where
  pub stops : IsStop code class s m ran.todo ran.halt
  pub turns : m.turns ≡ ran.turns
  pub no_values : m.stack ≡ []
  pub known : stands ran.data'
  pub actions : new ≡ old ++ ran.actions
