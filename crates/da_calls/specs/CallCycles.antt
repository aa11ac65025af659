-- Graphs with their steps turned round, and marks of cycles.
use Rattle.std.specs.Prelude.{◌≡◌, ◌↔◌, ℕ, ◌<◌, ◌⊎◌, List, length, Option, Contains}
use Rattle.da_calls.specs.CallPaths.{Graph, Edge, mark}
use Rattle.da_calls.specs.CallOrder.{Same}

-- one graph has the steps of the other, turned round
pub record IsTurned (g back : Graph) : Type 0 where
  pub sized : length back ≡ length g
  pub turns : (m n : ℕ) → Edge back n m ↔ Edge g m n

-- steps from each of these nodes to one were added
pub record AddsSteps (to : ℕ) (nodes : List ℕ) (old new : Graph) : Type 0 where
  pub sized : length new ≡ length old
  pub adds : (m n : ℕ) → Edge new n m ↔ (Edge old n m ⊎ ((m ≡ to) × Contains nodes n))

-- two nodes have one mark where each leads to the other
pub record MarksCycles (g : Graph) (marks : List (Option ℕ)) : Type 0 where
  pub sized : length marks ≡ length g
  pub same : (m n : ℕ) → m < length g → n < length g → (mark marks m ≡ mark marks n) ↔ Same g m n
