-- Slots that hold sets.
use Rattle.std.specs.Prelude.{◌≡◌, ℕ, true, false, List, Some}
use Rattle.da_values.specs.Sets.{Has}
use Rattle.da_lang.specs.declared.program.Class.{Class}
use Rattle.da_lang.specs.declared.program.Program.{Program}
use Rattle.da_lang.specs.declared.query.Node.{Node}
use Rattle.da_lang.specs.declared.ty.Ty.{Ty}
use Rattle.da_lang.specs.QueryTypes.{slot_type}
use Rattle.da_lang.specs.Types.{is_set}
use Rattle.da_lang.specs.Typing.{known}
use Rattle.query_plan.specs.PlanTerms.{node_names}

-- a slot of a class has a set type
abbrev pub HasSetType : Program → Class → ℕ → Type 0
HasSetType p class s = (ty : Ty) × (slot_type (known p.messages class.queries class.slots) s ≡ Some ty) × (is_set ty ≡ true)

-- no node names such a slot in its condition, pattern, term or default
abbrev pub SparesSets : Program → Class → List Node → Type 0
SparesSets p class nodes = (s : ℕ) → HasSetType p class s → (n : Node) → Has nodes n → node_names s n ≡ false
