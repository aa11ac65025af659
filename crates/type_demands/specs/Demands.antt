-- Whether demands are met.
use Rattle.std.specs.Prelude.{ℕ, Bool, true, false, ◌&&◌, ◌||◌, ◌==◌, if◌then◌else◌, List, [], ◌∷◌, map, length}
use Rattle.da_lang.specs.declared.ty.Ty.{Ty}
use Rattle.da_lang.specs.QueryTypes.{given, holds_of, is_typed}
use Rattle.da_lang.specs.Types.{ordered, is_flat, is_int, is_bool, is_proc, is_set, parts_of, element_of}
use Rattle.type_table.specs.Fits.{Meaning}
use Rattle.type_table.specs.Schemes.{stands}
use Rattle.type_demands.specs.declared.demand.Demand.{Demand}
use Rattle.type_demands.specs.declared.demand.Demand.TheVariants as d
use Rattle.type_demands.specs.declared.demand.LineDemand.{LineDemand}

-- a process, or a set of them
abbrev pub is_recipient : Ty → Bool
is_recipient ty = is_proc ty || holds_of (element_of ty) is_proc

abbrev pub is_single : Ty → Bool
is_single ty = if is_set ty then false else true

abbrev pub has_width : ℕ → List Ty → Bool
has_width count types = length types == count

-- a demand is met, where the unknown types are these, and of these slots all is met that their headers demand
abbrev pub met : Meaning → (ℕ → Bool) → Demand → Bool
met m headed d.Never = false
met m headed (d.Same asked x) = holds_of (stands m asked) (is_typed (stands m x))
met m headed (d.Int x) = holds_of (stands m x) is_int
met m headed (d.Truth x) = holds_of (stands m x) is_bool
met m headed (d.Width x count) = holds_of (given (stands m x) parts_of) (has_width count)
met m headed (d.Elements x) = holds_of (stands m x) is_set
met m headed (d.Ordered x) = holds_of (stands m x) ordered
met m headed (d.Adds x) = holds_of (stands m x) (λ ty. is_int ty || is_set ty)
met m headed (d.Single x) = holds_of (stands m x) is_single
met m headed (d.Receives x) = holds_of (stands m x) is_recipient
met m headed (d.Flat x) = holds_of (stands m x) is_flat
met m headed (d.Uses slot) = headed slot

abbrev pub all_met : Meaning → (ℕ → Bool) → List Demand → Bool
all_met m headed [] = true
all_met m headed (x ∷ xs) = met m headed x && all_met m headed xs

-- demands of the statement on a line
abbrev pub on_line : ℕ → Demand → LineDemand
on_line line demand = record { line = line; demand = demand }

abbrev pub at_line : ℕ → List Demand → List LineDemand
at_line line demands = map (on_line line) demands
