-- Types with which demands are met.
use Rattle.std.specs.Prelude.{◌≡◌, ℕ, true, List, length, slice_get, unwrap_or}
use Rattle.std.specs.List.{All}
use Rattle.da_lang.specs.declared.ty.Ty.{Ty}
use Rattle.da_lang.specs.declared.ty.Ty.TheVariants as t
use Rattle.type_table.specs.Fits.{Meaning}
use Rattle.type_table.specs.Schemes.{IsKnown}
use Rattle.type_demands.specs.declared.demand.Demand.{Demand}
use Rattle.type_demands.specs.declared.demand.Demand.TheVariants as d
use Rattle.type_demands.specs.Demands.{all_met}
use Rattle.type_choice.specs.Lean.{AreLean}
use Rattle.type_fitting.specs.Declarable.{IsDeclarable}

-- the type of each number in a list; `int` after its end
abbrev pub meaning_of : List Ty → Meaning
meaning_of types k = unwrap_or (slice_get types k) t.Int

-- these are so many types that may be declared, and with them all is met, where nothing more is demanded of slots in use
pub record Fits (count : ℕ) (demands : List Demand) (types : List Ty) : Type 0 where
  pub size : length types ≡ count
  pub each : All IsDeclarable types
  pub met : all_met (meaning_of types) (λ slot. true) demands ≡ true

-- these are such types, and no others are better: each is that of any others, with `int` or `proc` in place of some parts, but `proc`
-- in that of no `int`
pub record FitsBest (count : ℕ) (demands : List Demand) (types : List Ty) : Type 0 where
  pub fits : Fits count demands types
  pub lean : (others : List Ty) → Fits count demands others → AreLean types others

-- a demand speaks of the first so many unknown types alone
abbrev pub Knows : ℕ → Demand → Type 0
Knows count d.Never = Unit {0}
Knows count (d.Same x y) = IsKnown count x × IsKnown count y
Knows count (d.Int x) = IsKnown count x
Knows count (d.Truth x) = IsKnown count x
Knows count (d.Width x parts) = IsKnown count x
Knows count (d.Elements x) = IsKnown count x
Knows count (d.Ordered x) = IsKnown count x
Knows count (d.Adds x) = IsKnown count x
Knows count (d.Single x) = IsKnown count x
Knows count (d.Receives x) = IsKnown count x
Knows count (d.Flat x) = IsKnown count x
Knows count (d.Uses slot) = Unit {0}
