-- Which refusal is reported where they are found one after the other.
use Rattle.std.specs.Prelude.{ℕ, List, [], ◌∷◌, Option, Some}
use Rattle.da_lang.specs.declared.refusal.LimitKind.{LimitKind}
use Rattle.da_lang.specs.declared.refusal.ScopeKind.{ScopeKind}
use Rattle.da_lang.specs.Limits as limits
use Rattle.da_lang.specs.NameRules as names
use Rattle.da_lang.specs.Scopes.{Refused, sooner_of}
use Rattle.da_bodies.specs.declared.earliest.Fault.{Fault}

abbrev pub refusal_of : {K : Type 0} → Fault K → Refused K
refusal_of fault = record { kind = fault.kind; line = fault.line }

-- the one that is reported where one was reported so far, and these are found; the ranks are those of kinds on one line
unfoldable pub telling_by : {K : Type 0} → (K → ℕ) → Option (Refused K) → List (Refused K) → Option (Refused K)
telling_by rank found [] = found
telling_by rank found (x ∷ xs) = telling_by rank (Some (sooner_of rank x found)) xs

-- a refusal by names
abbrev pub Refusal : Type 0
Refusal = Refused ScopeKind

abbrev pub telling : Option Refusal → List Refusal → Option Refusal
telling = telling_by names.rank

-- a refusal by limits
abbrev pub LimitRefusal : Type 0
LimitRefusal = Refused LimitKind

abbrev pub telling_limits : Option LimitRefusal → List LimitRefusal → Option LimitRefusal
telling_limits = telling_by limits.rank
