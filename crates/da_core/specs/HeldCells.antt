-- The values that a process has to keep.
use Rattle.std.specs.Prelude.{◌≡◌, ◌⊎◌, ℕ, List, length, Option, Some, None}
use Rattle.da_values.specs.Order.{val_cmp}
use Rattle.da_values.specs.Sets.{Ascends, Has}
use Rattle.da_values.specs.declared.val.Val.{Val}
use Rattle.da_lang.specs.declared.program.Class.{Class}
use Rattle.da_lang.specs.declared.query.LivePattern.{LivePattern}
use Rattle.da_lang.specs.declared.query.Node.{Node}
use Rattle.da_lang.specs.Live.{live_rows}
use Rattle.da_lang.specs.Matching.{Row}
use Rattle.da_lang.specs.World.{Data}
use Rattle.query_plan.specs.Nodes.{node_rows}
use Rattle.query_plan.specs.PlanLive.{plan_live}
use Rattle.query_plan.specs.Questions.{norm_class}
use Rattle.row_pool.specs.InUse.{Within}

module _ (nodes : List Node) (d : Data) where
  -- x is a part of a row of a node
  pub record IsNodePart (x : Val) : Type 0 where
    pub node : ℕ
    pub row : Row
    pub there : Has (node_rows d nodes node) row
    pub part : Has row x

  -- x is a part of a live row; the live patterns of a plan give the rows that those of its class give (`typed_live` of LiveLaw, quant_norm)
  pub record IsLivePart (x : Val) : Type 0 where
    pub pattern : LivePattern
    pub row : Row
    pub of_plan : Has (plan_live nodes) pattern
    pub there : Has (live_rows pattern d) row
    pub part : Has row x

  -- x is the value of a slot, or one of these
  abbrev pub IsKeptValue : Val → Type 0
  IsKeptValue x = Has d.slots x ⊎ IsNodePart x ⊎ IsLivePart x

  -- the set of these values and of all that is within them
  pub record HeldCells (set : List Val) : Type 0 where
    pub ascends : Ascends val_cmp set
    pub all : (x y : Val) → IsKeptValue x → Within x y → Has set y
    pub only : (y : Val) → Has set y → (x : Val) × IsKeptValue x × Within x y

-- so many are held for a process of this class; one of no class holds none
abbrev pub AreHeldCells : Option Class → Data → ℕ → Type 0
AreHeldCells None d n = n ≡ 0
AreHeldCells (Some class) d n = (set : List Val) × HeldCells (norm_class class).nodes d set × (n ≡ length set)
