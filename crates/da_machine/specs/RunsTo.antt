-- A run of the machine: instruction after instruction, up to a halt.
use Rattle.std.specs.Prelude.{◌≡◌, ℕ, List, [], ◌++◌, take, Option, Some, None, slice_get}
use Rattle.da_lang.specs.declared.code.Instr.{Instr}
use Rattle.da_lang.specs.declared.event.Action.{Action}
use Rattle.da_lang.specs.declared.program.Class.{Class}
use Rattle.da_lang.specs.declared.program.Program.{Program}
use Rattle.da_lang.specs.World.{Data}
use Rattle.da_machine.specs.declared.code.Code.{Code}
use Rattle.da_machine.specs.declared.machine.Machine.{Machine}
use Rattle.da_machine.specs.declared.machine.Stop.{Stop}
use Rattle.da_machine.specs.Acts.{Act, Goes, Halts, act}
use Rattle.da_machine.specs.Allowed.{IsAllowed}
use Rattle.da_machine.specs.Conditions.{Standing}

-- the instruction where the machine stands
abbrev pub instr_at : Code → Machine → Option Instr
instr_at code m = slice_get code.instrs m.place

-- From this machine, where the process knows d, the code runs with these actions to this stop. It leaves the machine and
-- what the process knows then. The store is asked nothing that it may not be asked.
pub data RunsTo (p : Program) (class : Class) (code : Code) : Machine → Data → List Action → Stop → Machine → Data → Type 0 where
  halts : {m m1 : Machine} {d : Data} {s : Stop} → IsAllowed p class (instr_at code m) m d
      → act class.queries (instr_at code m) m d ≡ Halts s m1 → RunsTo p class code m d [] s m1 d
  goes : {m m1 m2 : Machine} {d d1 d2 : Data} {now more : List Action} {s : Stop} → IsAllowed p class (instr_at code m) m d
      → act class.queries (instr_at code m) m d ≡ Goes m1 d1 now → RunsTo p class code m1 d1 more s m2 d2 → RunsTo p class code m d (now ++ more) s m2 d2

-- What one instruction of code did: the answer, the machine, what the store stands for, and its actions.
abbrev pub IsAct : Act → Option Stop → Machine → (Data → Type 0) → Data → List Action → List Action → Type 0
IsAct (Goes m1 d1 now) answer m stands d old new = (answer ≡ None) × (m ≡ m1) × stands d1 × (new ≡ old ++ now)
IsAct (Halts s m1) answer m stands d old new = (answer ≡ Some s) × (m ≡ m1) × stands d × (new ≡ old)

-- the old actions, and after them a prefix of those that were due
abbrev pub AddsPrefix : List Action → List Action → List Action → Type 0
AddsPrefix old new due = (n : ℕ) × (new ≡ old ++ take n due)

abbrev pub actions_of : Act → List Action
actions_of (Goes m d now) = now
actions_of (Halts s m) = []

-- the instruction may be carried out for some process that the store stands for
abbrev pub MayAct : Option Instr → Machine → Standing → Type 0
MayAct i m stands = (p : Program) × (class : Class) × (d : Data) × stands p class d × IsAllowed p class i m d

-- it was carried out for each of them
abbrev pub Acted : Option Instr → Machine → Machine → Standing → Standing → List Action → List Action → Option Stop → Type 0
Acted i m m1 stands stands1 old new answer =
    (p : Program) (class : Class) (d : Data) → stands p class d → IsAct (act class.queries i m d) answer m1 (stands1 p class) d old new

-- memory was refused on the way
abbrev pub Began : Option Instr → Machine → Standing → List Action → List Action → Type 0
Began i m stands old new =
    (p : Program) (class : Class) (d : Data) → stands p class d → AddsPrefix old new (actions_of (act class.queries i m d))

-- the code may be run for some process that the store stands for
abbrev pub MayRun : Code → Machine → Standing → Type 0
MayRun code m stands =
    (p : Program) × (class : Class) × (d : Data) × stands p class d × ((due : List Action) × (s : Stop) × (m2 : Machine) × (d2 : Data) × RunsTo p class code m d due s m2 d2)

-- it was run for each of them
abbrev pub RanTo : Code → Machine → Machine → Standing → Standing → List Action → List Action → Stop → Type 0
RanTo code m m1 stands stands1 old new stop =
    (p : Program) (class : Class) (d : Data) (due : List Action) (s : Stop) (m2 : Machine) (d2 : Data) → stands p class d → RunsTo p class code m d due s m2 d2
    → (stop ≡ s) × (m1 ≡ m2) × stands1 p class d2 × (new ≡ old ++ due)

-- memory was refused on the way
abbrev pub RanPart : Code → Machine → Standing → List Action → List Action → Type 0
RanPart code m stands old new =
    (p : Program) (class : Class) (d : Data) (due : List Action) (s : Stop) (m2 : Machine) (d2 : Data) → stands p class d → RunsTo p class code m d due s m2 d2 → AddsPrefix old new due
