-- What is shown of each accepted program beside its types, and what later crates rely on.
use Rattle.std.specs.Prelude.{◌≡◌, ℕ, ◌^◌, ◌<◌, false, true, List, [], ◌∷◌, ◌++◌, map, length, Option, Some, slice_get}
use Rattle.da_values.specs.Sets.{Has, Distinct}
use Rattle.da_lang.specs.declared.program.Alt.{Alt}
use Rattle.da_lang.specs.declared.program.Class.{Class}
use Rattle.da_lang.specs.declared.program.Handler.{Handler}
use Rattle.da_lang.specs.declared.program.Item.{Item}
use Rattle.da_lang.specs.declared.program.ItemKind.{ItemKind}
use Rattle.da_lang.specs.declared.program.ItemKind.TheOpen.{ItemKind-F}
use Rattle.da_lang.specs.declared.program.ItemKind.TheViews.{out-Alt, out-RBranch}
use Rattle.da_lang.specs.declared.program.ProcDecl.{ProcDecl}
use Rattle.da_lang.specs.declared.program.Program.{Program}
use Rattle.da_lang.specs.declared.program.RBranch.{RBranch}
use Rattle.da_lang.specs.declared.program.SetupCall.{SetupCall}
use Rattle.da_lang.specs.declared.query.Cond.{Cond}
use Rattle.da_lang.specs.declared.query.Query.{Query}
use Rattle.da_lang.specs.declared.query.Query.TheVariants as query
use Rattle.da_lang.specs.declared.query.RGen.{RGen}
use Rattle.da_lang.specs.declared.ty.Ty.{Ty}
use Rattle.da_lang.specs.QueryTypes.{query_row}
use Rattle.da_lang.specs.Shaped.{IsItemOf, IsProcess}
use Rattle.da_lang.specs.Turns.{kind_of, slot_of_arg}
use Rattle.da_lang.specs.Typing.{handler_row, have_types, known}
use Rattle.da_lang.specs.World.{at_number, class_of}
use Rattle.da_types.specs.Constants.{ConstantsAreThere}
use Rattle.da_types.specs.QueryNotes.{AreThere, cond_notes, match_notes, query_notes}

-- the numbers of the queries whose rows a statement binds, with the slots that take their parts
abbrev pub Bound : Type 0
Bound = Option ℕ × List ℕ

abbrev pub bound_by : ItemKind-F ItemKind Alt Item RBranch → List Bound
bound_by (ItemKind-F.If branches other) = map (λ b. ((out-RBranch b).found, (out-RBranch b).binds)) branches
bound_by (ItemKind-F.Await alts timeout label) = map (λ a. ((out-Alt a).found, (out-Alt a).binds)) alts
bound_by _ = []

-- the slots that are bound at once
abbrev pub slots_bound_by : ItemKind-F ItemKind Alt Item RBranch → List (List ℕ)
slots_bound_by (ItemKind-F.If branches other) = map (λ b. (out-RBranch b).binds) branches
slots_bound_by (ItemKind-F.Await alts timeout label) = map (λ a. (out-Alt a).binds) alts
slots_bound_by (ItemKind-F.Call args body) = map slot_of_arg args ∷ []
slots_bound_by _ = []

-- the conditions that a statement waits for
abbrev pub awaited : ItemKind-F ItemKind Alt Item RBranch → List Cond
awaited (ItemKind-F.Await alts timeout label) = map (λ a. (out-Alt a).cond) alts
awaited _ = []

-- the query of this number is a `some`
pub record IsSome (queries : List Query) (n : ℕ) : Type 0 where
  pub gens : List RGen
  pub cond : Option Cond
  pub is : at_number queries n ≡ Some (query.Quant false gens cond)

-- these slots have the types of a row, one each
pub record TakeRow (p : Program) (c : Class) (binds : List ℕ) (row : Option (List Ty)) : Type 0 where
  pub types : List Ty
  pub is : row ≡ Some types
  pub size : length binds ≡ length types
  pub each : have_types p.messages c.queries c.slots binds types ≡ true

-- what a statement binds is the row of a `some`
pub record BindsSome (p : Program) (c : Class) (n : ℕ) (binds : List ℕ) : Type 0 where
  pub asks : IsSome c.queries n
  pub takes : TakeRow p c binds (query_row (known p.messages c.queries c.slots) (query.Quant false asks.gens asks.cond))

-- a statement of a class
pub record IsSoundItem (p : Program) (c : Class) (i : Item) : Type 0 where
  pub finds : (n : ℕ) (binds : List ℕ) → Has (bound_by (kind_of i)) (Some n, binds) → BindsSome p c n binds
  pub distinct : (slots : List ℕ) → Has (slots_bound_by (kind_of i)) slots → Distinct slots
  pub waits : (b : Cond) → Has (awaited (kind_of i)) b → AreThere p (cond_notes b)

-- a handler of a class
pub record IsSoundHandler (p : Program) (c : Class) (h : Handler) : Type 0 where
  pub takes : TakeRow p c h.binds (handler_row p.messages c.queries h c.slots)
  pub distinct : Distinct h.binds
  pub patterns : AreThere p (match_notes h.message ++ match_notes h.from)

-- a class
pub record IsSoundClass (p : Program) (c : Class) : Type 0 where
  pub items : (i : Item) → IsItemOf c i → IsSoundItem p c i
  pub handlers : (h : Handler) → Has c.handlers h → IsSoundHandler p c h
  pub queries : (q : Query) → Has c.queries q → AreThere p (query_notes q)
  pub params : Distinct c.params

-- a line of `setup` has as many arguments as its class has parameters
abbrev pub IsSoundSetup : Program → ProcDecl → Type 0
IsSoundSetup p d = (c : Class) (call : SetupCall) → slice_get p.classes d.class ≡ Some c → d.setup ≡ Some call → length call.args ≡ length c.params

-- the program: among the rest, its processes have numbers of 16 bits, and each of them is of a class that is there
pub record IsSound (p : Program) : Type 0 where
  pub constants : ConstantsAreThere p
  pub classes : (c : Class) → Has p.classes c → IsSoundClass p c
  pub setups : (d : ProcDecl) → Has p.procs d → IsSoundSetup p d
  pub few : length p.procs < 2 ^ 16
  pub placed : (me : ℕ) → IsProcess p me → (c : Class) × (class_of p me ≡ Some c)
