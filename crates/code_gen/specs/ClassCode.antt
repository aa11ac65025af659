-- The code of a class.
use Rattle.std.specs.Prelude.{◌≡◌, ℕ, suc, ◌==◌, true, if◌then◌else◌, List, [], ◌∷◌, length, Some, slice_get}
use Rattle.da_values.specs.declared.val.Val.{Val}
use Rattle.da_lang.specs.declared.program.Class.{Class}
use Rattle.da_lang.specs.declared.program.Handler.{Handler}
use Rattle.da_lang.specs.declared.program.Item.{Item}
use Rattle.da_lang.specs.declared.program.ProcDecl.{ProcDecl}
use Rattle.da_lang.specs.declared.program.Program.{Program}
use Rattle.da_lang.specs.Runs.{kind_yields}
use Rattle.da_lang.specs.Steps.{first_tasks}
use Rattle.da_lang.specs.Turns.{do_all, kind_of}
use Rattle.da_lang.specs.World.{Task, Do}
use Rattle.da_machine.specs.declared.code.Code.{Code}
use Rattle.da_machine.specs.CodeFor.{CodeFor}
use Rattle.da_machine.specs.Entries.{IsPoint}
use Rattle.da_machine.specs.Forward.{IsForward}
use Rattle.da_machine.specs.Points.{class_points}

-- the processes of the class of this number among those declared, ascending, where the first of them has the number me
abbrev pub numbered_from : ℕ → ℕ → List ProcDecl → List ℕ
numbered_from me number [] = []
numbered_from me number (d ∷ ds) = if d.class == number then me ∷ numbered_from (suc me) number ds else numbered_from (suc me) number ds

-- the processes of the class of this number, ascending
abbrev pub processes_of : Program → ℕ → List ℕ
processes_of p number = numbered_from 1 number p.procs

-- what is to do in a handler that took a message
abbrev pub handler_tasks : Handler → List Task
handler_tasks h = do_all h.body []

-- there is an entry for each of these, in their order, and the code there stands for what is to do
pub record IsEntered (code : Code) (class : Class) (A : Type 0) (tasks : A → List Task) (xs : List A) (entries : List ℕ) : Type 0 where
  pub one_each : length entries ≡ length xs
  pub stands : (k : ℕ) (x : A) (entry : ℕ) → slice_get xs k ≡ Some x → slice_get entries k ≡ Some entry → CodeFor code class entry [] (tasks x)

-- The code of the class of this number in a program.
pub record IsCodeOf (p : Program) (number : ℕ) (class : Class) (code : Code) : Type 0 where
  -- each process of the class begins at its start
  pub starts : IsEntered code class ℕ (first_tasks p class) (processes_of p number) code.starts
  -- each handler has its entry
  pub handlers : IsEntered code class Handler handler_tasks class.handlers code.handlers
  -- there is a yield point for each label and each `await` of the class
  pub yields : length code.yields ≡ length (class_points class)
  -- where the code stands for what begins with a label or an `await`, a yield point of the class goes on with it
  pub points : (at : ℕ) (loops : List (List Val)) (i : Item) (todo : List Task) → CodeFor code class at loops (Do i ∷ todo) → kind_yields (kind_of i) ≡ true → (k : ℕ) × IsPoint code class k loops (Do i ∷ todo)
  -- the code leads from turn to turn
  pub forward : IsForward code
