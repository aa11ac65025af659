-- The worlds that a process in code stands for.
use Rattle.std.specs.Prelude.{◌≡◌, ℕ, ◌<◌, Bool, false, List, [], ◌∷◌, length, Option, Some}
use Rattle.da_lang.specs.declared.code.Instr.TheVariants as op
use Rattle.da_lang.specs.declared.program.Alt.{Alt}
use Rattle.da_lang.specs.declared.program.Class.{Class}
use Rattle.da_lang.specs.declared.program.Item.{Item}
use Rattle.da_lang.specs.declared.program.ItemKind.{ItemKind}
use Rattle.da_lang.specs.declared.program.ItemKind.TheOpen as kind
use Rattle.da_lang.specs.declared.program.ItemKind.TheOpen.{ItemKind-F}
use Rattle.da_lang.specs.declared.program.Program.{Program}
use Rattle.da_lang.specs.declared.program.RBranch.{RBranch}
use Rattle.da_lang.specs.Shaped.{ShapedData, ShapedTasks}
use Rattle.da_lang.specs.Steps.{first_tasks}
use Rattle.da_lang.specs.Turns.{kind_of}
use Rattle.da_lang.specs.World.{Task, Do, World, Phase, New, Waiting, Ended, Faulted}
use Rattle.da_machine.specs.declared.code.Code.{Code}
use Rattle.da_machine.specs.declared.machine.Machine.{Machine}
use Rattle.da_machine.specs.CodeFor.{Has, CodeFor}
use Rattle.da_core.specs.declared.compiled.ClassCode.{ClassCode}
use Rattle.da_core.specs.declared.compiled.Compiled.{Compiled}
use Rattle.da_core.specs.declared.process.Core.{Core}
use Rattle.da_core.specs.declared.place.Place.{Place}
use Rattle.da_core.specs.declared.place.Place.TheVariants as place
use Rattle.da_core.specs.Compiled.{IsCompiled, code_of}
use Rattle.da_core.specs.Compiled as compiled
use Rattle.da_core.specs.Known.{Knows}

abbrev pub compiled_of : Core → Compiled
compiled_of core = core.compiled.now

abbrev pub program_of : Core → Program
program_of core = compiled.program_of core.compiled.now

-- earlier memory was refused in the midst of an event
abbrev pub is_spent : Core → Bool
is_spent core = core.spent

-- the first thing to do is a statement of this kind
pub record BeginsWith (todo : List Task) (kind : ItemKind-F ItemKind Alt Item RBranch) : Type 0 where
  pub item : Item
  pub rest : List Task
  pub first : todo ≡ Do item ∷ rest
  pub is : kind_of item ≡ kind

-- a label
abbrev pub IsLabelled : List Task → Type 0
IsLabelled todo = (label : ℕ) × BeginsWith todo (kind.Label label)

-- the greatest number of 32 bits
abbrev pub last_number : ℕ
last_number = 4294967295

-- an `await` of so many alternatives, whose timeout has a number of 32 bits too
pub record Awaits (todo : List Task) (count : ℕ) : Type 0 where
  pub alts : List Alt
  pub timeout : Option (List Item)
  pub label : Option ℕ
  pub begins : BeginsWith todo (kind.Await alts timeout label)
  pub size : length alts ≡ count
  pub few : count < last_number

-- where a process stands: its place is that of the world
abbrev pub IsPlace : List Task → Place → Phase → Type 0
IsPlace todo place.New New = todo ≡ []
IsPlace todo place.Label Waiting = IsLabelled todo
IsPlace todo (place.Await count) Waiting = Awaits todo count
IsPlace todo place.Ended Ended = Unit {0}
IsPlace todo place.Faulted Faulted = Unit {0}
IsPlace todo place phase = ⊥

-- The machine stands before a yield point, and the code there stands for what is to do. So the alternatives, the block for
-- a timeout and the label are those of the yield point.
pub record IsWaiting (class : Class) (code : Code) (m : Machine) (todo : List Task) : Type 0 where
  pub number : ℕ
  pub there : Has code m.place (op.Yield number)
  pub code_for : CodeFor code class m.place m.loops todo

-- where the machine stands in the code: before the first event at the start of the process
abbrev pub IsAt : Program → Class → Code → Machine → World → Phase → Type 0
IsAt p class code m w New = CodeFor code class m.place m.loops (first_tasks p class w.data'.me)
IsAt p class code m w Waiting = IsWaiting class code m w.todo
IsAt p class code m w Ended = Unit {0}
IsAt p class code m w Faulted = Unit {0}

-- A core stands for a world that is as types say, of a process of a compiled program: what it keeps stands for what the process
-- knows, it stands at the same place, and the code where its machine stands stands for what is to do. The machine has no values
-- on its stack. It is not spent.
pub record StandsFor (core : Core) (w : World) : Type 0 where
  pub unspent : core.spent ≡ false
  pub compiled : IsCompiled core.compiled.now
  pub class : Class
  pub code : ClassCode
  pub code_is : code_of core.compiled.now w.data'.me ≡ Some code
  pub knows : ShapedData (program_of core) class w.data'
  pub tasks : ShapedTasks (program_of core) class w.data'.me w.todo
  pub stands : Knows core.known (program_of core) class w.data'
  pub no_actions : core.known.actions ≡ []
  pub place : IsPlace w.todo core.place w.phase
  pub at : IsAt (program_of core) class code.code core.machine w w.phase
  pub no_values : core.machine.stack ≡ []

-- it holds of each world that the core stands for
abbrev pub Whichever : Core → (World → Type 0) → Type 0
Whichever core holds = (w : World) → StandsFor core w → holds w

-- a core that is not spent stands for some world
abbrev pub IsReady : Core → Type 0
IsReady core = core.spent ≡ false → (w : World) × StandsFor core w
