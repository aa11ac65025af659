-- Places that fit the nodes of a plan.
use Rattle.std.specs.Prelude.{◌≡◌, ◌<◌, ◌≤◌, ℕ, List, length}
use Rattle.std.specs.List.{AllByRecursion}
use Rattle.da_lang.specs.declared.query.Node.{Node}
use Rattle.query_plan.specs.Nodes.{width_of, IsPlan}
use Rattle.query_plan.specs.Plans.{Place}

-- a part that is there in rows of this width
abbrev pub IsIn : ℕ → ℕ → Type 0
IsIn width part = (0 < part) × (part ≤ width)

abbrev pub AllIn : List ℕ → ℕ → Type 0
AllIn vars width = AllByRecursion (IsIn width) vars

-- a place among the nodes of a plan: its node is there, with rows of its width, in which its variables stand
pub record Good (nodes : List Node) (at : Place) : Type 0 where
  pub plan : IsPlan nodes
  pub there : at.node < length nodes
  pub wide : width_of nodes at.node ≡ at.width
  pub vars_in : AllIn at.vars at.width
