-- What types promise of the statements of a class.
use Rattle.std.specs.Prelude.{◌≡◌, ℕ, ◌≤◌, true, List, [], ◌∷◌, map, length, Some, Ok}
use Rattle.std.specs.List.{AllByRecursion}
use Rattle.da_values.specs.declared.val.Val.{Val}
use Rattle.da_values.specs.Sets.{Distinct}
use Rattle.da_lang.specs.declared.program.Alt.{Alt}
use Rattle.da_lang.specs.declared.program.Class.{Class}
use Rattle.da_lang.specs.declared.program.Item.{Item}
use Rattle.da_lang.specs.declared.program.ItemKind.{ItemKind}
use Rattle.da_lang.specs.declared.program.ItemKind.TheOpen as kind
use Rattle.da_lang.specs.declared.program.ItemKind.TheOpen.{ItemKind-F}
use Rattle.da_lang.specs.declared.program.ItemKind.TheViews.{out-RBranch}
use Rattle.da_lang.specs.declared.program.Program.{Program}
use Rattle.da_lang.specs.declared.program.RBranch.{RBranch}
use Rattle.da_lang.specs.declared.program.RExpr.{RExpr}
use Rattle.da_lang.specs.declared.program.SetupCall.{SetupCall}
use Rattle.da_lang.specs.Evaluation.{eval, eval_all}
use Rattle.da_lang.specs.Queries.{least_row}
use Rattle.da_lang.specs.Shaped.{IsItemOf, IsLoop, IsSetUp, ShapedData, ShapedTasks}
use Rattle.da_lang.specs.Turns.{kind_of, packet_len, max_packet, recipients, slot_of_arg, turn, value_of_arg}
use Rattle.da_lang.specs.World.{Data, Task, at_number, class_of}
use Rattle.da_machine.specs.Allowed.{TakesRow}
use Rattle.da_machine.specs.Conditions.{HasSome, IsPrintable, IsSendable, Takes, TakesElement, TakesAll}
use Rattle.da_machine.specs.Reads.{reads}

-- the expressions that a statement evaluates itself
abbrev pub exprs_in : ItemKind-F ItemKind Alt Item RBranch → List RExpr
exprs_in (kind.Assign s e) = e ∷ []
exprs_in (kind.Add s e) = e ∷ []
exprs_in (kind.Del s e) = e ∷ []
exprs_in (kind.Send m e) = m ∷ e ∷ []
exprs_in (kind.Output e) = e ∷ []
exprs_in (kind.If branches other) = map (λ b. (out-RBranch b).cond) branches
exprs_in (kind.While e body) = e ∷ []
exprs_in (kind.For s e body) = e ∷ []
exprs_in (kind.Call args body) = map value_of_arg args
exprs_in (kind.Await alts timeout label) = []
exprs_in (kind.Label label) = []
exprs_in kind.Pass = []

abbrev pub AllRead : Class → List RExpr → Type 0
AllRead class es = AllByRecursion (λ e. reads class e ≡ true) es

module _ (p : Program) (class : Class) where
  -- the expression has this value for a process that knows d, where it has one
  abbrev pub Gives : RExpr → (Data → Val → Type 0) → Type 0
  Gives e holds = (d : Data) (v : Val) → ShapedData p class d → eval class.queries e d ≡ Ok v → holds d v

  -- a branch that binds a row binds that of a `some`, whose parts the slots take
  abbrev pub BindsRow : RBranch → Type 0
  BindsRow b = (n : ℕ) → (out-RBranch b).found ≡ Some n → HasSome class n × ((d : Data) → ShapedData p class d → TakesRow p class (out-RBranch b).binds (least_row class.queries n d))

  -- there is an argument for each parameter, no parameter stands twice, and each takes the value of its argument
  pub record IsEntered (args : List RExpr) (params : List ℕ) : Type 0 where
    pub one_each : length args ≡ length params
    pub distinct : Distinct params
    pub takes : (d : Data) (vs : List Val) → ShapedData p class d → eval_all class.queries args d ≡ Ok vs → TakesAll p class params vs

  -- what is promised of a statement by its kind
  abbrev pub Promised : ItemKind-F ItemKind Alt Item RBranch → Type 0
  Promised (kind.Assign s e) = Gives e (λ d v. Takes p class s v)
  Promised (kind.Add s e) = Gives e (λ d v. TakesElement p class s v)
  Promised (kind.Del s e) = Gives e (λ d v. TakesElement p class s v)
  Promised (kind.Send m e) = Gives m (λ d v. (w : Val) → eval class.queries e d ≡ Ok w → packet_len v ≤ max_packet → IsSendable p v (recipients w))
  Promised (kind.Output e) = Gives e (λ d v. IsPrintable p v)
  Promised (kind.If branches other) = AllByRecursion BindsRow branches
  Promised (kind.Call args body) = IsEntered (map value_of_arg args) (map slot_of_arg args)
  Promised _ = Unit {0}

  pub record Promises : Type 0 where
    -- a turn leaves a world as types say
    pub keeps : (t : Task) (d : Data) (todo : List Task) → ShapedData p class d → ShapedTasks p class d.me (t ∷ todo)
        → ShapedData p class (turn class t d todo).data' × ShapedTasks p class (turn class t d todo).data'.me (turn class t d todo).todo
    -- the slots and queries of its expressions are there
    pub reads_all : (i : Item) → IsItemOf class i → AllRead class (exprs_in (kind_of i))
    -- its values are those that the store takes
    pub kinds : (i : Item) → IsItemOf class i → Promised (kind_of i)
    -- the elements of a loop go into its slot
    pub next_element : (s line : ℕ) (x : Val) (left : List Val) (body : List Item) → IsLoop p class s (x ∷ left) body line → Takes p class s x
    -- the same of a line of `setup`
    pub setup_reads : (me : ℕ) (call : SetupCall) → class_of p me ≡ Some class → IsSetUp (at_number p.procs me) call → AllRead class call.args
    pub setup : (me : ℕ) (call : SetupCall) → class_of p me ≡ Some class → IsSetUp (at_number p.procs me) call → IsEntered call.args class.params
