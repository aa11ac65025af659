-- The world of a process: what it knows, what it still has to do, and where it stands.
use Rattle.std.specs.Prelude.{ℕ, zero, suc, pos, false, List, [], map, Option, Some, None, slice_get, slice_set}
use Rattle.da_values.specs.declared.val.Val.{Val}
use Rattle.da_values.specs.declared.val.Val.TheVariants as val
use Rattle.da_lang.specs.declared.program.Class.{Class}
use Rattle.da_lang.specs.declared.program.Item.{Item}
use Rattle.da_lang.specs.declared.program.ProcDecl.{ProcDecl}
use Rattle.da_lang.specs.declared.program.Program.{Program}
use Rattle.da_lang.specs.declared.program.SetupCall.{SetupCall}
use Rattle.da_lang.specs.declared.ty.Ty.{Ty}
use Rattle.da_lang.specs.declared.ty.Ty.TheOpen.{Ty-F, Int, Bool, Text, Proc, Tuple, Set}
use Rattle.da_lang.specs.declared.ty.Ty.TheFolds.{fold-Ty}

-- an entry of a history: a message, the other process, and the time of the sending
pub record Entry : Type 0 where
  pub message : Val
  pub peer : ℕ
  pub time : ℕ

-- what a process knows: its number, its slots, its two histories and its clock
pub record Data : Type 0 where
  pub me : ℕ
  pub slots : List Val
  pub sent : List Entry
  pub received : List Entry
  pub clock : ℕ

-- what is still to do: a statement, the rest of a loop, or what the line of `setup` asks for
pub data Task : Type 0 where
  Do : Item → Task
  Loop : (slot : ℕ) (left : List Val) (body : List Item) (line : ℕ) → Task
  Prepare : SetupCall → Task

-- Where a process stands: it has not begun, it waits at a yield point, it has used up its statements, or a fault has
-- ended it.
pub data Phase : Type 0 where
  New : Phase
  Waiting : Phase
  Ended : Phase
  Faulted : Phase

-- the whole of a process: what it knows, what is still to do, the next first, and where it stands
pub record World : Type 0 where
  pub data' : Data
  pub todo : List Task
  pub phase : Phase

-- stands where there is no value: no process has the number 0
abbrev pub nothing : Val
nothing = val.Proc 0

-- the value, or nothing where there is none
abbrev pub or_nothing : Option Val → Val
or_nothing None = nothing
or_nothing (Some x) = x

-- the member of a list that is numbered from 1
abbrev pub at_number : {A : Type 0} → List A → ℕ → Option A
at_number members zero = None
at_number members (suc place) = slice_get members place

-- the value of a slot
abbrev pub value_in : List Val → ℕ → Val
value_in slots s = or_nothing (at_number slots s)

-- the value of a slot of a process
abbrev pub slot_of : Data → ℕ → Val
slot_of d s = value_in d.slots s

-- with another value in a slot
abbrev pub with_slot : List Val → ℕ → Val → List Val
with_slot slots zero x = slots
with_slot slots (suc place) x = slice_set slots place x

-- a process with another value in a slot
abbrev pub put_slot : Data → ℕ → Val → Data
put_slot d s x = record d { slots = with_slot d.slots s x }

-- the value of a type with which a slot of process `me` begins
abbrev pub default_step : ℕ → Ty-F Val → Val
default_step me Int = val.Int (pos 0)
default_step me Bool = val.Bool false
default_step me Text = val.Text []
default_step me Proc = val.Proc me
default_step me (Tuple parts) = val.Tuple parts
default_step me (Set element) = val.Set []

-- the default of a type in process `me`
abbrev pub default : ℕ → Ty → Val
default me = fold-Ty Val (default_step me)

-- a slot of no known type begins with nothing
abbrev pub first_value : ℕ → Option Ty → Val
first_value me None = nothing
first_value me (Some type') = default me type'

-- the class that a declaration of a process names
abbrev pub class_of_decl : Program → Option ProcDecl → Option Class
class_of_decl program None = None
class_of_decl program (Some decl) = slice_get program.classes decl.class

-- of the process with this number
abbrev pub class_of : Program → ℕ → Option Class
class_of program me = class_of_decl program (at_number program.procs me)

-- the types of the slots of a class
abbrev pub slots_of_class : Option Class → List (Option Ty)
slots_of_class None = []
slots_of_class (Some class) = class.slots

-- the slots of a process at the beginning
abbrev pub opening_slots : Program → ℕ → List Val
opening_slots program me = map (first_value me) (slots_of_class (class_of program me))

-- a process before any event
abbrev pub opening_data : Program → ℕ → Data
opening_data program me = record { me = me; slots = opening_slots program me; sent = []; received = []; clock = 0 }

-- it is new and has nothing to do
abbrev pub opening : Program → ℕ → World
opening program me = record { data' = opening_data program me; todo = []; phase = New }
