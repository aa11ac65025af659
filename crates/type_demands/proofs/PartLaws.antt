-- The parts of a tuple, one by one.
use Rattle.std.specs.Prelude.{◌≡◌, ℕ, zero, suc, ◌+◌, true, if◌then◌else◌, List, [], ◌∷◌, Some, None, slice_get}
use Rattle.std.proofs.Common.{◌∙◌, ap, subst, arith}
use Rattle.da_lang.specs.declared.ty.Ty.{Ty}
use Rattle.da_lang.specs.QueryTypes.{given}
use Rattle.da_lang.specs.Types.{parts_of}
use Rattle.type_table.specs.declared.scheme.Scheme.{Scheme}
use Rattle.type_table.specs.declared.scheme.Scheme.TheVariants as s
use Rattle.type_table.specs.Fits.{Meaning}
use Rattle.type_table.specs.Schemes.{stands, part_of, part_in}
use Rattle.type_table.proofs.SchemeLaws.{stands_part}
use Rattle.type_demands.specs.Demands.{has_width}

module _ (m : Meaning) (asked : Scheme) (count : ℕ) where
  -- the parts from a place on stand for these types
  abbrev pub PartsStand : ℕ → List Ty → Type 0
  PartsStand at [] = Unit {0}
  PartsStand at (ty ∷ types) = (stands m (s.Part asked at count) ≡ Some ty) × PartsStand (suc at) types

  from_place : (at : ℕ) (types : List Ty) → ((j : ℕ) → stands m (s.Part asked (at + j) count) ≡ slice_get types j) → PartsStand at types
  from_place at [] each = tt
  from_place at (ty ∷ types) each =
      let here : at + zero ≡ at = omega arith in
      (subst (λ n. stands m (s.Part asked n count) ≡ Some ty) here (each zero), from_place (suc at) types (λ j. let next : at + suc j ≡ suc at + j = omega arith in subst (λ n. stands m (s.Part asked n count) ≡ slice_get types j) next (each (suc j))))

  pub parts_stand : (ty : Ty) (types : List Ty) → stands m asked ≡ Some ty → parts_of ty ≡ Some types → has_width count types ≡ true → PartsStand zero types
  parts_stand ty types stand parts width =
      from_place zero types (λ j. let same : zero + j ≡ j = omega arith in subst (λ n. stands m (s.Part asked (zero + j) count) ≡ slice_get types n) same
      (stands_part m asked (zero + j) count ∙ ap (λ o. given o (part_of (zero + j) count)) stand ∙ ap (λ o. given o (part_in (zero + j) count)) parts ∙ ap (λ b. if b then slice_get types (zero + j) else None) width))
