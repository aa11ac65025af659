-- A program with the code and the plans of its classes.
use Rattle.std.specs.Prelude.{◌≡◌, ℕ, suc, ◌-◌, nat_eq, if◌then◌else◌, List, [], ◌∷◌, map, take, Option, Some, None, slice_get}
use Rattle.da_lang.specs.declared.program.Class.{Class}
use Rattle.da_lang.specs.declared.program.ProcDecl.{ProcDecl}
use Rattle.da_lang.specs.declared.program.Program.{Program}
use Rattle.da_lang.specs.Accepted.{IsAccepted}
use Rattle.da_lang.specs.World.{at_number}
use Rattle.code_gen.specs.ClassCode.{IsCodeOf}
use Rattle.query_plan.specs.PlanLive.{plan_live}
use Rattle.query_plan.specs.Questions.{norm_class}
use Rattle.query_plan.specs.Seen.{IsStored}
use Rattle.da_core.specs.declared.compiled.ClassCode.{ClassCode}
use Rattle.da_core.specs.declared.compiled.Compiled.{Compiled}
use Rattle.da_core.specs.Opened.{opened}
use Rattle.da_core.specs.Waits.{waits_of}

abbrev pub program_of : Compiled → Program
program_of c = c.typed

-- the code of the class at this place of the program, its plan and what is stored of that, what is waited for at each of its
-- yield points, its live patterns, and the opened patterns of its handlers
pub record IsCodeFor (p : Program) (place : ℕ) (class : Class) (c : ClassCode) : Type 0 where
  pub code : IsCodeOf p place class c.code
  pub plan : c.plan ≡ norm_class class
  pub stored : IsStored (norm_class class).nodes c.stored
  pub waits : c.waits ≡ waits_of class (norm_class class).flags
  pub live : c.live.patterns ≡ plan_live (norm_class class).nodes
  pub opened : c.opened ≡ map opened class.handlers

-- it stands in the list of codes
pub record HasCode (p : Program) (codes : List ClassCode) (place : ℕ) (class : Class) : Type 0 where
  pub code : ClassCode
  pub there : slice_get codes place ≡ Some code
  pub is : IsCodeFor p place class code

-- an accepted program, and the code of each of its classes
pub record IsCompiled (c : Compiled) : Type 0 where
  pub accepted : IsAccepted (program_of c)
  pub classes : (place : ℕ) (class : Class) → slice_get (program_of c).classes place ≡ Some class → HasCode (program_of c) c.codes place class

-- the code of the class of a process
abbrev pub code_at : List ClassCode → Option ProcDecl → Option ClassCode
code_at codes None = None
code_at codes (Some decl) = slice_get codes decl.class

abbrev pub code_of : Compiled → ℕ → Option ClassCode
code_of c me = code_at c.codes (at_number (program_of c).procs me)

-- how many of these processes are of the class at this place
abbrev pub count_of : ℕ → List ProcDecl → ℕ
count_of class [] = 0
count_of class (d ∷ ds) = if nat_eq d.class class then suc (count_of class ds) else count_of class ds

-- how many processes of the same class are made before this one
abbrev pub rank_in : Program → Option ProcDecl → ℕ → Option ℕ
rank_in p None me = None
rank_in p (Some decl) me = Some (count_of decl.class (take (me - 1) p.procs))

-- where the code begins of what a process has to do at first
abbrev pub start_at : Option ℕ → ClassCode → Option ℕ
start_at None code = None
start_at (Some place) code = slice_get code.code.starts place

abbrev pub start_in : Program → Option ClassCode → ℕ → Option ℕ
start_in p None me = None
start_in p (Some code) me = start_at (rank_in p (at_number p.procs me) me) code
