-- The worlds that a typed program can have, as far as types say.
use Rattle.std.specs.Prelude.{◌≡◌, ℕ, ◌^◌, ◌<◌, ◌≤◌, nat_lt, nat_le, Bool, true, ◌&&◌, List, [], ◌∷◌, ◌++◌, map, length, Option, Some, None, option_to_list}
use Rattle.std.specs.List.{All, list_all}
use Rattle.da_values.specs.declared.val.Val.{Val, out-Val}
use Rattle.da_values.specs.declared.val.Val.TheFolds.{fold-Val}
use Rattle.da_values.specs.declared.val.Val.TheOpen as vo
use Rattle.da_values.specs.Narrow.{is_narrow}
use Rattle.da_values.specs.Proper.{IsValue}
use Rattle.da_values.specs.Sets.{Has}
use Rattle.da_lang.specs.declared.program.Alt.{Alt}
use Rattle.da_lang.specs.declared.program.Class.{Class}
use Rattle.da_lang.specs.declared.program.Item.{Item}
use Rattle.da_lang.specs.declared.program.ItemKind.{ItemKind}
use Rattle.da_lang.specs.declared.program.ItemKind.TheOpen.{ItemKind-F}
use Rattle.da_lang.specs.declared.program.ItemKind.TheVariants as it
use Rattle.da_lang.specs.declared.program.ItemKind.TheViews.{out-Alt, out-RBranch}
use Rattle.da_lang.specs.declared.program.ProcDecl.{ProcDecl}
use Rattle.da_lang.specs.declared.program.Program.{Program}
use Rattle.da_lang.specs.declared.program.RBranch.{RBranch}
use Rattle.da_lang.specs.declared.program.RExpr.{RExpr}
use Rattle.da_lang.specs.declared.program.SetupCall.{SetupCall}
use Rattle.da_lang.specs.declared.tree.MessageDecl.{MessageDecl}
use Rattle.da_lang.specs.declared.ty.Ty.{Ty}
use Rattle.da_lang.specs.BodyMeaning.{item_at}
use Rattle.da_lang.specs.Limits.{item_lists}
use Rattle.da_lang.specs.QueryTypes.{given, holds_of, type_at, declared}
use Rattle.da_lang.specs.Turns.{kind_of}
use Rattle.da_lang.specs.Types.{is_of}
use Rattle.da_lang.specs.World.{Data, Entry, Task, Do, Loop, Prepare, World, at_number, slot_of, class_of}

-- the processes in a value are among the first so many
abbrev pub processes_step : ℕ → vo.Val-F Bool → Bool
processes_step most (vo.Proc process) = nat_lt 0 process && nat_le process most
processes_step most (vo.Tuple parts) = list_all (λ part. part) parts
processes_step most (vo.Set elements) = list_all (λ element. element) elements
processes_step most _ = true

unfoldable pub has_processes : ℕ → Val → Bool
has_processes most = fold-Val Bool (processes_step most)

-- the tag of a message: the text that is its first part
abbrev pub as_tag : vo.Val-F Val → Option (List ℕ)
as_tag (vo.Text tag) = Some tag
as_tag _ = None

abbrev pub first_tag : List Val → Option (List ℕ)
first_tag [] = None
first_tag (x ∷ xs) = as_tag (out-Val x)

abbrev pub tag_of : vo.Val-F Val → Option (List ℕ)
tag_of (vo.Tuple parts) = first_tag parts
tag_of _ = None

-- a message of the type that is declared for its tag
abbrev pub is_declared : List MessageDecl → Val → Bool
is_declared messages v = holds_of (given (tag_of (out-Val v)) (declared messages)) (λ ty. is_of ty v)

-- a message that may be delivered: a declared one, whose integers lie in an i64 and whose processes are there
abbrev pub well_typed : Program → Val → Bool
well_typed p v = is_declared p.messages v && is_narrow v && has_processes (length p.procs) v

abbrev pub IsProcess : Program → ℕ → Type 0
IsProcess p process = (0 < process) × (process ≤ length p.procs)

-- a proper value of a type, all of whose integers lie in an i64 and whose processes are there
pub record IsOf (p : Program) (ty : Ty) (v : Val) : Type 0 where
  pub proper : IsValue v
  pub narrow : is_narrow v ≡ true
  pub typed : is_of ty v ≡ true
  pub processes : has_processes (length p.procs) v ≡ true

pub record IsEntry (p : Program) (e : Entry) : Type 0 where
  pub proper : IsValue e.message
  pub typed : well_typed p e.message ≡ true
  pub peer : IsProcess p e.peer

-- the blocks of a statement
abbrev pub blocks_in : ItemKind-F ItemKind Alt Item RBranch → List (List Item)
blocks_in (ItemKind-F.If branches other) = map (λ b. (out-RBranch b).body) branches ++ other ∷ []
blocks_in (ItemKind-F.While x body) = body ∷ []
blocks_in (ItemKind-F.For slot x body) = body ∷ []
blocks_in (ItemKind-F.Call args body) = body ∷ []
blocks_in (ItemKind-F.Await alts timeout label) = map (λ a. (out-Alt a).body) alts ++ option_to_list timeout
blocks_in _ = []

abbrev pub blocks_of : Item → List (List Item)
blocks_of i = blocks_in (kind_of i)

-- a statement stands in a list of statements, or in a block of one of them
pub data Within (i : Item) : List Item → Type 0 where
  here : {items : List Item} → Has items i → Within i items
  deeper : {items : List Item} (j : Item) (body : List Item) → Has items j → Has (blocks_of j) body → Within i body → Within i items

-- a statement of a class
abbrev pub IsItemOf : Class → Item → Type 0
IsItemOf c i = (items : List Item) × Has (item_lists c) items × Within i items

-- the type of a slot of a class
abbrev pub HasType : Class → ℕ → Ty → Type 0
HasType c slot ty = type_at c.slots slot ≡ Some ty

-- the rest of a `for` of the class, with elements of the type of its slot
pub record IsLoop (p : Program) (c : Class) (slot : ℕ) (left : List Val) (body : List Item) (line : ℕ) : Type 0 where
  pub over : RExpr
  pub stands : IsItemOf c (item_at line (it.For slot over body))
  pub elements : (ty : Ty) → HasType c slot ty → All (IsOf p ty) left

-- the process is set up by this line
abbrev pub IsSetUp : Option ProcDecl → SetupCall → Type 0
IsSetUp None call = ⊥
IsSetUp (Some d) call = d.setup ≡ Some call

abbrev pub IsTask : Program → Class → ℕ → Task → Type 0
IsTask p c me (Do i) = IsItemOf c i
IsTask p c me (Loop slot left body line) = IsLoop p c slot left body line
IsTask p c me (Prepare call) = IsSetUp (at_number p.procs me) call

-- What a process of this class knows is as types say: as many slots as the class has, each with a value of its type,
-- histories of declared messages between processes that are there, and a clock of 63 bits.
pub record ShapedData (p : Program) (class : Class) (d : Data) : Type 0 where
  pub me : IsProcess p d.me
  pub is_class : class_of p d.me ≡ Some class
  pub size : length d.slots ≡ length class.slots
  pub slots : (slot : ℕ) (ty : Ty) → HasType class slot ty → IsOf p ty (slot_of d slot)
  pub sent : All (IsEntry p) d.sent
  pub received : All (IsEntry p) d.received
  pub clock : d.clock < 2 ^ 63

-- and what it has to do comes from its class
abbrev pub ShapedTasks : Program → Class → ℕ → List Task → Type 0
ShapedTasks p class me todo = All (IsTask p class me) todo

pub record Shaped (p : Program) (w : World) : Type 0 where
  pub class : Class
  pub knows : ShapedData p class w.data'
  pub todo : ShapedTasks p class w.data'.me w.todo
