-- Types that are found where demands are met.
use Rattle.std.specs.Prelude.{ℕ, Bool, if◌then◌else◌, List, [], ◌∷◌, ◌++◌, map, flat_map, Option, Some, None}
use Rattle.da_values.specs.declared.value.Value.{Value}
use Rattle.da_values.specs.declared.value.Value.TheVariants as kept
use Rattle.da_values.specs.Narrow.{is_i64}
use Rattle.da_lang.specs.declared.ty.Ty.{Ty}
use Rattle.type_table.specs.declared.scheme.Scheme.{Scheme}
use Rattle.type_table.specs.declared.scheme.Scheme.TheVariants as s
use Rattle.type_table.specs.Fits.{Meaning}
use Rattle.type_table.specs.Schemes.{stands}
use Rattle.type_demands.specs.declared.demand.Demand.{Demand}
use Rattle.type_demands.specs.declared.demand.Demand.TheVariants as d
use Rattle.type_demands.specs.Demands.{all_met}

-- a type, where the demands are met
pub record Sym : Type 0 where
  pub demands : List Demand
  pub scheme : Scheme

abbrev pub found : Meaning → (ℕ → Bool) → Sym → Option Ty
found m headed x = if all_met m headed x.demands then stands m x.scheme else None

-- what stands for the types of slots, and of messages by their tags
pub record Context : Type 0 where
  pub slot : ℕ → Sym
  pub message : List ℕ → Sym

abbrev pub plain : Scheme → Sym
plain scheme = record { demands = []; scheme = scheme }

abbrev pub never : Sym
never = record { demands = d.Never ∷ []; scheme = s.Int }

abbrev pub plain_or_never : Option Scheme → Sym
plain_or_never None = never
plain_or_never (Some scheme) = plain scheme

-- with one demand more of the type
abbrev pub demanding : (Scheme → Demand) → Sym → List Demand
demanding make x = x.demands ++ make x.scheme ∷ []

abbrev pub flat_sym : Sym → Sym
flat_sym x = record { demands = demanding d.Flat x; scheme = x.scheme }

abbrev pub single_sym : Sym → Sym
single_sym x = record { demands = demanding d.Single x; scheme = x.scheme }

-- it is the same type as one that is asked for
abbrev pub same_as : Scheme → Sym → List Demand
same_as asked x = demanding (d.Same asked) x

abbrev pub demands_in : List Sym → List Demand
demands_in xs = flat_map (λ x. x.demands) xs

abbrev pub schemes_in : List Sym → List Scheme
schemes_in xs = map (λ x. x.scheme) xs

abbrev pub tuple_sym : List Sym → Sym
tuple_sym xs = record { demands = demands_in xs; scheme = s.Tuple (schemes_in xs) }

abbrev pub literal_sym : Value → Sym
literal_sym (kept.Int number) = if is_i64 number then plain s.Int else never
literal_sym (kept.Bool truth) = plain s.Bool
literal_sym (kept.Text bytes) = plain s.Text
literal_sym (kept.Proc process) = plain s.Proc
literal_sym (kept.Tuple parts) = never
literal_sym (kept.Set elements) = never
