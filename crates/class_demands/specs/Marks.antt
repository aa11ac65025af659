-- Marks of the slots that are in use.
use Rattle.std.specs.Prelude.{◌≡◌, ℕ, Bool, false, List, [], ◌∷◌, ◌++◌, slice_get, unwrap_or}
use Rattle.std.specs.List.{list_any}
use Rattle.type_demands.specs.declared.demand.Demand.{Demand}
use Rattle.class_demands.specs.Prefix.{is_use}

-- a slot has a mark
abbrev pub is_marked : List Bool → ℕ → Bool
is_marked used slot = unwrap_or (slice_get used slot) false

-- exactly the slots have marks that these demands use
abbrev pub Marks : List Bool → List Demand → Type 0
Marks used demands = (slot : ℕ) → is_marked used slot ≡ list_any (is_use (slot ∷ [])) demands

-- demands come after others, and their slots have marks too
abbrev pub Puts : List Bool → List Demand → List Bool → List Demand → List Demand → Type 0
Puts used found then_used then_found added = (then_found ≡ found ++ added) × (Marks used found → Marks then_used then_found)
