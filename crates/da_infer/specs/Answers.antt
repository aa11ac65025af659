-- What is answered for a program without declarations.
use Rattle.std.specs.Prelude.{◌≡◌, ℕ, ◌<◌, true, List, [], Some}
use Rattle.da_lang.specs.declared.refusal.LimitKind.{LimitKind}
use Rattle.da_lang.specs.declared.refusal.ScopeKind.{ScopeKind}
use Rattle.da_lang.specs.declared.program.Program.{Program}
use Rattle.da_lang.specs.declared.tree.Tree.{Tree}
use Rattle.da_lang.specs.declared.ty.Ty.{Ty}
use Rattle.da_lang.specs.Accepted.{IsWritten}
use Rattle.da_lang.specs.Limits.{Resolves, limit_fault, limit_refusals}
use Rattle.da_lang.specs.NameRules.{name_fault, name_refusals}
use Rattle.da_lang.specs.Resolution.{resolved}
use Rattle.da_lang.specs.Typing.{Typed, type_breaks}
use Rattle.da_parse.specs.declared.loose.LooseTree.{LooseTree}
use Rattle.da_unparse.specs.Prints.{SpellsAgain}
use Rattle.da_unparse.specs.Programs.{tree_text}
use Rattle.class_demands.specs.Prefix.{none_upto}
use Rattle.type_choice.specs.Lean.{AreLean}
use Rattle.da_infer.specs.declared.top.InferFault.{InferFault}
use Rattle.da_infer.specs.declared.top.InferFault.TheVariants as fault
use Rattle.da_infer.specs.Fills.{Fills}

-- no rule of types is broken on a line up to this one
abbrev pub Upto : Tree → ℕ → Type 0
Upto t n = none_upto n (type_breaks (resolved t)) ≡ true

-- some types keep the rules up to a line
pub record HasTypes (l : LooseTree) (n : ℕ) : Type 0 where
  pub types : List Ty
  pub tree : Tree
  pub fills : Fills l types tree
  pub keeps : Upto tree n

-- the program with some types breaks a rule of names: this is the one that is told, whatever the types
pub record IsMisnamed (l : LooseTree) (kind : ScopeKind) (line : ℕ) : Type 0 where
  pub types : List Ty
  pub tree : Tree
  pub fills : Fills l types tree
  pub is : name_fault tree ≡ Some (record { kind = kind; line = line })

-- it breaks no rule of names, and exceeds a limit: this is the one that is told, whatever the types
pub record IsTooLarge (l : LooseTree) (which : LimitKind) (line : ℕ) : Type 0 where
  pub types : List Ty
  pub tree : Tree
  pub fills : Fills l types tree
  pub named : name_refusals tree ≡ []
  pub is : limit_fault tree ≡ Some (record { kind = which; line = line })

-- it does neither, and this is the least line up to which no types keep the rules
pub record HasNoTypes (l : LooseTree) (line : ℕ) : Type 0 where
  pub types : List Ty
  pub tree : Tree
  pub fills : Fills l types tree
  pub named : name_refusals tree ≡ []
  pub within : limit_refusals tree ≡ []
  pub none : HasTypes l line → ⊥
  pub before : (n : ℕ) → n < line → HasTypes l n

abbrev pub IsRefusedAs : LooseTree → InferFault → Type 0
IsRefusedAs l (fault.Name kind line) = IsMisnamed l kind line
IsRefusedAs l (fault.Limit which line) = IsTooLarge l which line
IsRefusedAs l (fault.NoTypes line) = HasNoTypes l line
IsRefusedAs l fault.Memory = ⊥

-- A program with types for what has none: it has a program, which keeps all rules of types. No other types with which it does are
-- better: each type is that of any others, with `int` or `proc` in place of some parts (`IsLean`). Some tokens spell the program,
-- few enough to be counted by 32 bits, and the tokens of what is printed of it spell it again, but for the numbers of lines.
pub record IsInferred (l : LooseTree) (t : Tree) : Type 0 where
  pub types : List Ty
  pub fills : Fills l types t
  pub program : Program
  pub resolves : Resolves t program
  pub whole : Program
  pub typed : Typed program whole
  pub lean : (others : List Ty) (u : Tree) → Fills l others u → type_breaks (resolved u) ≡ [] → AreLean types others
  pub written : IsWritten t
  pub printed : SpellsAgain (tree_text t) t
