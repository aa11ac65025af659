-- Whether the demands of a program speak of the first so many unknown types alone.
use Rattle.std.specs.Prelude.{ℕ, nat_le, Bool, true, ◌&&◌, List}
use Rattle.std.specs.List.{list_all}
use Rattle.type_table.specs.declared.scheme.Scheme.{Scheme}
use Rattle.type_table.specs.Schemes.{reach}
use Rattle.type_demands.specs.declared.demand.Demand.{Demand}
use Rattle.type_demands.specs.declared.demand.Demand.TheVariants as d
use Rattle.type_demands.specs.declared.demand.LineDemand.{LineDemand}
use Rattle.class_demands.specs.declared.demands.ClassDemands.{ClassDemands}
use Rattle.class_demands.specs.declared.demands.Head.{Head}
use Rattle.class_demands.specs.declared.demands.ProgramDemands.{ProgramDemands}
use Rattle.class_demands.specs.declared.demands.SetupDemands.{SetupDemands}

abbrev pub is_known : ℕ → Scheme → Bool
is_known count x = nat_le (reach x) count

abbrev pub knows : ℕ → Demand → Bool
knows count d.Never = true
knows count (d.Same x y) = is_known count x && is_known count y
knows count (d.Int x) = is_known count x
knows count (d.Truth x) = is_known count x
knows count (d.Width x parts) = is_known count x
knows count (d.Elements x) = is_known count x
knows count (d.Ordered x) = is_known count x
knows count (d.Adds x) = is_known count x
knows count (d.Single x) = is_known count x
knows count (d.Receives x) = is_known count x
knows count (d.Flat x) = is_known count x
knows count (d.Uses slot) = true

abbrev pub all_known : ℕ → List Demand → Bool
all_known count demands = list_all (knows count) demands

abbrev pub lines_known : ℕ → List LineDemand → Bool
lines_known count demands = list_all (λ (x : LineDemand). knows count x.demand) demands

abbrev pub heads_known : ℕ → List Head → Bool
heads_known count heads = list_all (λ (h : Head). all_known count h.demands) heads

abbrev pub class_known : ℕ → ClassDemands → Bool
class_known count c = heads_known count c.heads && lines_known count c.demands

abbrev pub classes_known : ℕ → List ClassDemands → Bool
classes_known count classes = list_all (class_known count) classes

abbrev pub setups_known : ℕ → List SetupDemands → Bool
setups_known count setups = list_all (λ (x : SetupDemands). lines_known count x.demands) setups

abbrev pub program_known : ℕ → ProgramDemands → Bool
program_known count p = classes_known count p.classes && setups_known count p.setups
