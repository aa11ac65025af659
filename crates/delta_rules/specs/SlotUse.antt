-- Which slots the nodes of a plan use: those that they name, and those over whose sets they go.
use Rattle.std.specs.Prelude.{◌≡◌, ◌==◌, ℕ, Bool, false, ◌||◌, List, length, slice_get, Some}
use Rattle.std.specs.List.{list_any}
use Rattle.da_lang.specs.declared.query.Node.{Node}
use Rattle.da_lang.specs.declared.query.Node.TheVariants as node
use Rattle.da_lang.specs.declared.query.Source.{Source}
use Rattle.da_lang.specs.declared.query.Source.TheVariants as source
use Rattle.query_plan.specs.PlanTerms.{node_names}

-- whether a source is the set in a slot
abbrev pub is_set_of : ℕ → Source → Bool
is_set_of s (source.Slot k) = k == s
is_set_of s _ = false

-- whether a node is a generator over the set in a slot
abbrev pub goes_over : ℕ → Node → Bool
goes_over s (node.Gen p g) = is_set_of s g.source
goes_over s _ = false

-- whether it uses a slot
abbrev pub uses : ℕ → Node → Bool
uses s n = node_names s n || goes_over s n

-- whether some of the nodes does
abbrev pub is_used : ℕ → List Node → Bool
is_used s nodes = list_any (uses s) nodes

-- whether a slot is in a list of slots
abbrev pub is_listed : ℕ → List ℕ → Bool
is_listed s slots = list_any (λ t. t == s) slots

-- a list of slots has all that it had, and those of which a test is true
abbrev pub Adds : (ℕ → Bool) → List ℕ → List ℕ → Type 0
Adds test olds news = (s : ℕ) → is_listed s news ≡ (is_listed s olds || test s)

-- a list has the slots that a node names, and no others
abbrev pub ListsNamed : Node → List ℕ → Type 0
ListsNamed n slots = (s : ℕ) → is_listed s slots ≡ node_names s n

-- there is such a list for each of some nodes
pub record AreNamed (nodes : List Node) (lists : List (List ℕ)) : Type 0 where
  pub many : length lists ≡ length nodes
  pub each : (i : ℕ) (n : Node) (slots : List ℕ) → slice_get nodes i ≡ Some n → slice_get lists i ≡ Some slots → ListsNamed n slots
