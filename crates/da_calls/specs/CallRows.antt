-- The calls of methods by their numbers, their yield points, and what is done outside of methods.
use Rattle.std.specs.Prelude.{◌≡◌, ◌↔◌, ℕ, true, List, map, filter, flat_map, Option, Some, None, slice_get, Contains}
use Rattle.da_lang.specs.declared.tree.Member.{Member}
use Rattle.da_lang.specs.declared.tree.Member.TheVariants as member
use Rattle.da_lang.specs.declared.tree.Stmt.{Stmt}
use Rattle.da_lang.specs.ClassParts.{Body}
use Rattle.da_lang.specs.Deeds.{Deed, deeds}
use Rattle.da_lang.specs.Limits.{is_root}
use Rattle.da_calls.specs.CallBodies.{calls_by, some_yield}

-- for each method those that it calls
abbrev pub call_rows : (List ℕ → Option ℕ) → List Body → List (List ℕ)
call_rows number methods = map (λ b. calls_by number (deeds b.stmts)) methods

-- a place of a method with a yield point
abbrev pub HoldsYield : List Body → ℕ → Type 0
HoldsYield methods k = (b : Body) × (slice_get methods k ≡ Some b) × (some_yield (deeds b.stmts) ≡ true)

pub record AreYieldPoints (methods : List Body) (points : List ℕ) : Type 0 where
  pub all : (k : ℕ) → Contains points k ↔ HoldsYield methods k

-- the statements of what is no method
abbrev pub outside_stmts : Member → Option (List Stmt)
outside_stmts (member.Var name ty line) = None
outside_stmts (member.Setup params stmts line) = Some stmts
outside_stmts (member.Run stmts line) = Some stmts
outside_stmts (member.Method name params stmts line) = None
outside_stmts (member.Receive message from labels stmts line) = Some stmts

abbrev pub outside_deeds : List Body → List Deed
outside_deeds bodies = flat_map (λ b. deeds b.stmts) (filter (λ b. is_root b.place) bodies)
