-- What is demanded up to a line, with what the headers demand whose slots are in use.
use Rattle.std.specs.Prelude.{ℕ, nat_le, ◌==◌, ◌&&◌, Bool, true, false, not, if◌then◌else◌, List, [], ◌∷◌, ◌++◌, map, flat_map, Option, Some, None, slice_get}
use Rattle.std.specs.Borrow.{Bor}
use Rattle.std.specs.List.{list_any, list_all}
use Rattle.type_table.specs.Fits.{Meaning}
use Rattle.type_demands.specs.declared.demand.Demand.{Demand}
use Rattle.type_demands.specs.declared.demand.Demand.TheVariants as d
use Rattle.type_demands.specs.declared.demand.LineDemand.{LineDemand}
use Rattle.type_demands.specs.Demands.{all_met}
use Rattle.class_demands.specs.declared.demands.ClassDemands.{ClassDemands}
use Rattle.class_demands.specs.declared.demands.Head.{Head}
use Rattle.class_demands.specs.declared.demands.ProgramDemands.{ProgramDemands}
use Rattle.class_demands.specs.declared.demands.SetupDemands.{SetupDemands}

-- no line of these is at most this one
abbrev pub none_upto : ℕ → List ℕ → Bool
none_upto n lines = list_all (λ line. not (nat_le line n)) lines

-- the demands on the lines up to this one
abbrev pub upto : ℕ → List LineDemand → List Demand
upto n [] = []
upto n (x ∷ xs) = if nat_le x.line n then x.demand ∷ upto n xs else upto n xs

-- a slot is among these
abbrev pub binds : List ℕ → ℕ → Bool
binds slots slot = list_any (λ b. b == slot) slots

-- one of these slots is in use
abbrev pub is_use : List ℕ → Demand → Bool
is_use slots (d.Uses slot) = binds slots slot
is_use slots _ = false

-- what a header demands besides, where its slots are in use
abbrev pub with_head : Head → List Demand → List Demand
with_head h demands = if list_any (is_use h.binds) demands then demands ++ h.demands else demands

-- from the last header to the first, since a header uses the slots of those before it
abbrev pub needed : List Head → List Demand → List Demand
needed [] demands = demands
needed (h ∷ hs) demands = with_head h (needed hs demands)

-- of a slot all is met that the headers demand which bind it
abbrev pub headed : Meaning → List Head → (ℕ → Bool) → ℕ → Bool
headed m [] before = before
headed m (h ∷ hs) before = headed m hs (λ slot. before slot && (if binds h.binds slot then all_met m before h.demands else true))

abbrev pub always : ℕ → Bool
always slot = true

-- all that a program demands up to a line
abbrev pub class_upto : ℕ → ClassDemands → List Demand
class_upto n c = needed c.heads (upto n c.demands)

abbrev pub heads_of : Option ClassDemands → List Head
heads_of None = []
heads_of (Some c) = c.heads

abbrev pub setup_upto : ℕ → List ClassDemands → SetupDemands → List Demand
setup_upto n classes x = needed (heads_of (slice_get classes x.class)) (upto n x.demands)

unfoldable pub demands_upto : ℕ → ProgramDemands → List Demand
demands_upto n p = flat_map (class_upto n) p.classes ++ flat_map (setup_upto n p.classes) p.setups

-- demands that are lent
abbrev pub seen : List (Bor Demand) → List Demand
seen demands = map (λ (x : Bor Demand). x.now) demands
