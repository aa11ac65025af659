-- The order in which a walk leaves the nodes of a graph, the one that was left last at the front.
use Rattle.std.specs.Prelude.{ℕ, ◌<◌, ◌⊎◌, List, [], ◌∷◌, length, reverse, Contains}
use Rattle.da_calls.specs.CallPaths.{Graph, Edge, Leads}

-- each leads to the other
abbrev pub Same : Graph → ℕ → ℕ → Type 0
Same g m n = Leads g m n × Leads g n m

-- which of these leads to another node is on a cycle with one that is not among these
abbrev pub IsSealed : Graph → List ℕ → Type 0
IsSealed g nodes =
    (x y : ℕ) → Contains nodes x → (Contains nodes y → ⊥) → Leads g x y → (z : ℕ) × (Contains nodes z → ⊥) × Same g x z

-- a node that is left after earlier ones
pub record IsLeft (g : Graph) (earlier : List ℕ) (node : ℕ) : Type 0 where
  pub within : node < length g
  pub fresh : Contains earlier node → ⊥
  pub goes : (n : ℕ) → Edge g node n → Contains earlier n ⊎ Leads g n node
  pub sealed : IsSealed g (node ∷ earlier)

abbrev pub AreLeft : Graph → List ℕ → Type 0
AreLeft g [] = Unit {0}
AreLeft g (node ∷ earlier) = IsLeft g earlier node × AreLeft g earlier

-- all the nodes, in the order in which they were left
pub record Leaves (g : Graph) (order : List ℕ) : Type 0 where
  pub left : AreLeft g (reverse order)
  pub all : (m : ℕ) → m < length g → Contains (reverse order) m
