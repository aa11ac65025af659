-- Types with which all is met that a program demands up to a line.
use Rattle.std.specs.Prelude.{ℕ, ◌<◌, ◌≤◌, max, List, [], ◌∷◌}
use Rattle.std.specs.List.{AllByRecursion}
use Rattle.da_lang.specs.declared.ty.Ty.{Ty}
use Rattle.type_demands.specs.declared.demand.LineDemand.{LineDemand}
use Rattle.type_choice.specs.Lean.{AreLean}
use Rattle.type_fitting.specs.Fit.{Fits, FitsBest}
use Rattle.class_demands.specs.declared.demands.ClassDemands.{ClassDemands}
use Rattle.class_demands.specs.declared.demands.ProgramDemands.{ProgramDemands}
use Rattle.class_demands.specs.declared.demands.SetupDemands.{SetupDemands}
use Rattle.class_demands.specs.Prefix.{demands_upto}
use Rattle.da_infer.specs.declared.search.Found.{Found}
use Rattle.da_infer.specs.declared.search.Found.TheVariants as found

abbrev pub FitsUpto : ℕ → ProgramDemands → ℕ → List Ty → Type 0
FitsUpto count p n types = Fits count (demands_upto n p) types

abbrev pub FitsBestUpto : ℕ → ProgramDemands → ℕ → List Ty → Type 0
FitsBestUpto count p n types = FitsBest count (demands_upto n p) types

-- the last line of demands, of classes and of lines of `setup`, or the line before them
abbrev pub last_of : ℕ → List LineDemand → ℕ
last_of before [] = before
last_of before (x ∷ xs) = last_of (max before x.line) xs

abbrev pub last_in_classes : ℕ → List ClassDemands → ℕ
last_in_classes before [] = before
last_in_classes before (c ∷ cs) = last_in_classes (last_of before c.demands) cs

abbrev pub last_in_setups : ℕ → List SetupDemands → ℕ
last_in_setups before [] = before
last_in_setups before (x ∷ xs) = last_in_setups (last_of before x.demands) xs

abbrev pub last_line : ProgramDemands → ℕ
last_line p = last_in_setups (last_in_classes 0 p.classes) p.setups

-- each demand is on a line up to this one
abbrev pub AreUpto : ℕ → List LineDemand → Type 0
AreUpto last demands = AllByRecursion (λ (x : LineDemand). x.line ≤ last) demands

pub record IsLast (p : ProgramDemands) (last : ℕ) : Type 0 where
  pub classes : AllByRecursion (λ (c : ClassDemands). AreUpto last c.demands) p.classes
  pub setups : AllByRecursion (λ (x : SetupDemands). AreUpto last x.demands) p.setups

-- the least line up to which there are none
pub record IsClash (count : ℕ) (p : ProgramDemands) (line : ℕ) : Type 0 where
  pub none : (types : List Ty) → FitsUpto count p line types → ⊥
  pub before : (n : ℕ) → n < line → (types : List Ty) × FitsUpto count p n types

-- with these types all is met, and they are lean beside any others with which all is met
pub record FitsLast (count : ℕ) (p : ProgramDemands) (types : List Ty) : Type 0 where
  pub fits : (n : ℕ) → FitsUpto count p n types
  pub lean : (others : List Ty) → ((n : ℕ) → FitsUpto count p n others) → AreLean types others

abbrev pub IsFound : ℕ → ProgramDemands → Found → Type 0
IsFound count p (found.Types types) = FitsLast count p types
IsFound count p (found.Clash line) = IsClash count p line
