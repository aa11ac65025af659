-- What a store stands for, and what it may be asked.
use Rattle.std.specs.Prelude.{◌≡◌, ℕ, ◌≤◌, true, false, List, [], ◌∷◌, Option, Some}
use Rattle.std.specs.List.{All}
use Rattle.da_values.specs.declared.val.Val.{Val}
use Rattle.da_values.specs.Proper.{IsValue}
use Rattle.da_lang.specs.declared.program.Class.{Class}
use Rattle.da_lang.specs.declared.program.Program.{Program}
use Rattle.da_lang.specs.declared.query.Cond.{Cond}
use Rattle.da_lang.specs.declared.query.Query.{Query}
use Rattle.da_lang.specs.declared.query.Query.TheVariants as query
use Rattle.da_lang.specs.declared.query.RGen.{RGen}
use Rattle.da_lang.specs.declared.ty.Ty.{Ty}
use Rattle.da_lang.specs.declared.ty.Ty.TheVariants as t
use Rattle.da_lang.specs.Accepted.{IsAccepted}
use Rattle.da_lang.specs.Shaped.{HasType, IsOf, IsProcess, ShapedData, well_typed}
use Rattle.da_lang.specs.Turns.{packet_len, max_packet}
use Rattle.da_lang.specs.World.{Data, at_number}

-- a store stands for what a process of a class of a program knows
abbrev pub Standing : Type 1
Standing = Program → Class → Data → Type 0

-- a process of this class of an accepted program may know this
pub record IsKnown (p : Program) (class : Class) (d : Data) : Type 0 where
  pub accepted : IsAccepted p
  pub shaped : ShapedData p class d

-- it holds of some process that the store stands for
abbrev pub SomeProcess : Standing → Standing → Type 0
SomeProcess stands holds = (p : Program) × (class : Class) × (d : Data) × stands p class d × IsKnown p class d × holds p class d

-- it holds of each process that the store stands for
abbrev pub EachProcess : Standing → Standing → Type 0
EachProcess stands holds = (p : Program) (class : Class) (d : Data) → stands p class d → holds p class d

-- the class has this slot; this query; this query, and it is a `some`
abbrev pub HasSlot : Class → ℕ → Type 0
HasSlot class s = (ty : Ty) × HasType class s ty

abbrev pub HasQuery : Class → ℕ → Type 0
HasQuery class n = (q : Query) × (at_number class.queries n ≡ Some q)

abbrev pub HasSome : Class → ℕ → Type 0
HasSome class n = (gens : List RGen) × (cond : Option Cond) × (at_number class.queries n ≡ Some (query.Quant false gens cond))

-- the slot takes values of this type, and this is one; it takes sets of such values
pub record Takes (p : Program) (class : Class) (s : ℕ) (v : Val) : Type 0 where
  pub ty : Ty
  pub slot : HasType class s ty
  pub fits : IsOf p ty v

pub record TakesElement (p : Program) (class : Class) (s : ℕ) (v : Val) : Type 0 where
  pub ty : Ty
  pub slot : HasType class s (t.Set ty)
  pub fits : IsOf p ty v

-- the slots take the values, as many as there are of both
abbrev pub TakesAll : Program → Class → List ℕ → List Val → Type 0
TakesAll p class [] vs = Unit {0}
TakesAll p class (s ∷ ss) [] = Unit {0}
TakesAll p class (s ∷ ss) (v ∷ vs) = Takes p class s v × TakesAll p class ss vs

-- a message that may be sent to these processes
pub record IsSendable (p : Program) (m : Val) (ps : List ℕ) : Type 0 where
  pub proper : IsValue m
  pub typed : well_typed p m ≡ true
  pub small : packet_len m ≤ max_packet
  pub recipients : All (IsProcess p) ps

-- a value that may be printed
pub record IsPrintable (p : Program) (v : Val) : Type 0 where
  pub ty : Ty
  pub fits : IsOf p ty v
