-- What leads to what, by steps from each to those that it goes to; and graphs, whose nodes are numbers from 0.
use Rattle.std.specs.Prelude.{◌≡◌, ◌↔◌, ℕ, ◌<◌, List, [], length, Option, Some, None, Contains, slice_index_or}

-- it is the goal, or it goes to one that leads there
pub data LeadsTo {A : Type 0} (next : A → List A) (goal : A) : A → Type 0 where
  here : (m : A) → m ≡ goal → LeadsTo next goal m
  on : (m k : A) → Contains (next m) k → LeadsTo next goal k → LeadsTo next goal m

-- each node has the list of those that it goes to
abbrev pub Graph : Type 0
Graph = List (List ℕ)

abbrev pub next_in : Graph → ℕ → List ℕ
next_in g m = slice_index_or g m []

abbrev pub Edge : Graph → ℕ → ℕ → Type 0
Edge g m n = Contains (next_in g m) n

-- every node goes to nodes
abbrev pub IsGraph : Graph → Type 0
IsGraph g = (m n : ℕ) → Edge g m n → n < length g

abbrev pub Leads : Graph → ℕ → ℕ → Type 0
Leads g m n = LeadsTo (next_in g) n m

-- marks of nodes
abbrev pub mark : List (Option ℕ) → ℕ → Option ℕ
mark marks m = slice_index_or marks m None

abbrev pub IsMarked : List (Option ℕ) → ℕ → Type 0
IsMarked marks m = (l : ℕ) × (mark marks m ≡ Some l)

-- what `from` leads to by nodes with no mark was marked with it
pub record MarkedFrom (g : Graph) (from : ℕ) (old new : List (Option ℕ)) : Type 0 where
  pub sized : length new ≡ length old
  pub kept : (m l : ℕ) → mark old m ≡ Some l → mark new m ≡ Some l
  pub start : IsMarked new from
  pub found : (m l : ℕ) → mark old m ≡ None → mark new m ≡ Some l → (l ≡ from) × Leads g from m
  pub closed : (m n : ℕ) → mark old m ≡ None → IsMarked new m → Edge g m n → IsMarked new n

-- the nodes that some of these lead to have marks
pub record MarksReached (g : Graph) (starts : List ℕ) (marks : List (Option ℕ)) : Type 0 where
  pub sized : length marks ≡ length g
  pub reached : (m : ℕ) → IsMarked marks m ↔ ((s : ℕ) × Contains starts s × Leads g s m)
