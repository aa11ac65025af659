-- What types stand for that are made of unknown types.
use Rattle.std.specs.Prelude.{ℕ, suc, ◌==◌, ◌≤◌, if◌then◌else◌, List, [], ◌∷◌, length, map, max, Option, Some, None, slice_get}
use Rattle.da_lang.specs.declared.ty.Ty.{Ty}
use Rattle.da_lang.specs.declared.ty.Ty.TheVariants as t
use Rattle.da_lang.specs.QueryTypes.{given, all_types}
use Rattle.da_lang.specs.Types.{parts_of, element_of}
use Rattle.type_table.specs.declared.scheme.Scheme.{Scheme}
use Rattle.type_table.specs.declared.scheme.Scheme.TheFolds.{fold-Scheme}
use Rattle.type_table.specs.declared.scheme.Scheme.TheOpen as layer
use Rattle.type_table.specs.Fits.{Meaning}

-- the part at a place of a tuple with so many parts
abbrev pub part_in : ℕ → ℕ → List Ty → Option Ty
part_in at count types = if length types == count then slice_get types at else None

abbrev pub part_of : ℕ → ℕ → Ty → Option Ty
part_of at count ty = given (parts_of ty) (part_in at count)

-- the type that it stands for, where there is one
abbrev pub stands_step : Meaning → layer.Scheme-F (Option Ty) → Option Ty
stands_step m (layer.Unknown number) = Some (m number)
stands_step m layer.Int = Some t.Int
stands_step m layer.Bool = Some t.Bool
stands_step m layer.Text = Some t.Text
stands_step m layer.Proc = Some t.Proc
stands_step m (layer.Tuple parts) = given (all_types parts) (λ types. Some (t.Tuple types))
stands_step m (layer.Set element) = given element (λ ty. Some (t.Set ty))
stands_step m (layer.Element whole) = given whole element_of
stands_step m (layer.Part whole at count) = given whole (part_of at count)

unfoldable pub stands : Meaning → Scheme → Option Ty
stands m = fold-Scheme (Option Ty) (stands_step m)

abbrev pub highest : List ℕ → ℕ
highest [] = 0
highest (x ∷ xs) = max x (highest xs)

-- each number of an unknown type lies below this one
abbrev pub reach_step : layer.Scheme-F ℕ → ℕ
reach_step (layer.Unknown number) = suc number
reach_step layer.Int = 0
reach_step layer.Bool = 0
reach_step layer.Text = 0
reach_step layer.Proc = 0
reach_step (layer.Tuple parts) = highest parts
reach_step (layer.Set element) = element
reach_step (layer.Element whole) = whole
reach_step (layer.Part whole at count) = whole

unfoldable pub reach : Scheme → ℕ
reach = fold-Scheme ℕ reach_step

-- its unknown types are numbers of a table of this size
abbrev pub IsKnown : ℕ → Scheme → Type 0
IsKnown size scheme = reach scheme ≤ size

abbrev pub AreKnown : ℕ → List Scheme → Type 0
AreKnown size schemes = highest (map reach schemes) ≤ size
