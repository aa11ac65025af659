-- How a plan is found that is stored in the place of another one.
use Rattle.std.specs.Prelude.{◌≡◌, ◌≤◌, ℕ, zero, suc, Bool, true, false, not, if◌then◌else◌, List, [], ◌∷◌, ◌++◌, length, map, get_or, slice_get, slice_set, Some}
use Rattle.std.specs.List.{AllByRecursion, list_any, filter}
use Rattle.da_values.specs.Sets.{Has}
use Rattle.da_lang.specs.declared.query.Node.{Node}
use Rattle.da_lang.specs.declared.query.Node.TheVariants as node
use Rattle.da_lang.specs.declared.query.RGen.{RGen}
use Rattle.da_lang.specs.Matching.{Row}
use Rattle.da_lang.specs.World.{Data}
use Rattle.query_plan.specs.declared.stored.Seen.{Seen}
use Rattle.query_plan.specs.declared.stored.Test.{Test}
use Rattle.query_plan.specs.declared.twins.NextNode.{NextNode}
use Rattle.query_plan.specs.Nodes.{IsPlan, Tables, extends, node_rows, reads, width_of}
use Rattle.query_plan.specs.Seen.{are_met, given, is_met, redirected}
use Rattle.query_plan.specs.Told.{has_row}

-- the second list begins with the first one
abbrev pub IsFront : List Test → List Test → Type 0
IsFront front all = (rest : List Test) × (all ≡ front ++ rest)

-- the nodes of tests, and all nodes by which an entry tells rows
abbrev pub test_nodes : List Test → List ℕ
test_nodes tests = map (λ t. t.node) tests

abbrev pub named_nodes : Seen → List ℕ
named_nodes s = s.node ∷ test_nodes s.tests

-- none of them is above node i
abbrev pub AreBelow : ℕ → List ℕ → Type 0
AreBelow i = AllByRecursion (λ k. k ≤ i)

-- Node i is told by an entry that names no later node. Of a generator it names the node of an equal one.
pub record IsEntry (nodes : List Node) (i : ℕ) (s : Seen) : Type 0 where
  pub rows : (d : Data) → given (node_rows d nodes) s ≡ node_rows d nodes i
  pub below : AreBelow i (named_nodes s)
  pub same_gen : (p : ℕ) (g : RGen) → slice_get nodes i ≡ Some (node.Gen p g)
      → (t : ℕ) × (q : ℕ) × Has (named_nodes s) t × (slice_get nodes t ≡ Some (node.Gen q g))

-- these are the entries of the first nodes
abbrev pub AreEntries : List Node → List Seen → Type 0
AreEntries nodes entries = (i : ℕ) (s : Seen) → slice_get entries i ≡ Some s → IsEntry nodes i s

-- the node by whose rows an entry tells those of node j
abbrev pub base_in : List Seen → ℕ → ℕ
base_in entries j = (get_or entries j (record { node = 0; tests = [] })).node

-- node j is told by these tests, and no others
abbrev pub HasTests : List Seen → List Test → ℕ → Type 0
HasTests entries tests j = (s : Seen) × (slice_get entries j ≡ Some s) × (s.tests ≡ tests)

-- It is a plan that begins with the root, and the nodes before this one have their entries.
pub record IsNext (next : NextNode) : Type 0 where
  pub plan : IsPlan next.nodes.now
  pub root : slice_get next.nodes.now 0 ≡ Some node.Root
  pub entries : AreEntries next.nodes.now next.entries.now
  pub many : length next.entries.now ≡ next.place
  pub there : slice_get next.nodes.now next.place ≡ Some next.node.now
  pub width : next.width ≡ width_of next.nodes.now next.place

-- each node that a node reads is told by these tests, and it reads one
pub record ReadsTold (entries : List Seen) (tests : List Test) (n : Node) : Type 0 where
  pub some : reads n ≡ [] → ⊥
  pub each : AllByRecursion (HasTests entries tests) (reads n)

-- each entry gives its rows, and names no node above this one
abbrev pub GiveAll : Tables → List Seen → Type 0
GiveAll rows entries = (j : ℕ) (s : Seen) → slice_get entries j ≡ Some s → given rows s ≡ rows j

abbrev pub AllBelow : ℕ → List Seen → Type 0
AllBelow i entries = (j : ℕ) (s : Seen) → slice_get entries j ≡ Some s → AreBelow i (named_nodes s)

-- the rows of node t where tests are met, and else none
abbrev pub rows_if : Tables → List Test → ℕ → List Row
rows_if rows tests t = if are_met rows tests then rows t else []

-- Where tests are met, a last test is met exactly where an entry gives a row; it is of a node that the entry names.
pub record IsLast (tests : List Test) (entry : Seen) (last : Test) : Type 0 where
  pub row : (rows : Tables) → rows 0 ≡ [] ∷ [] → are_met rows tests ≡ true → has_row (given rows entry) ≡ is_met rows last
  pub named : (end : ℕ) → AreBelow end (named_nodes entry) → last.node ≤ end

-- Of two nodes the rows of the first that some row of the second extends, or that none does.
abbrev pub joined_rows : Bool → List Row → List Row → List Row
joined_rows true rows child = filter (λ row. list_any (extends row) child) rows
joined_rows false rows child = filter (λ row. not (list_any (extends row) child)) rows

-- the node that has them
abbrev pub joining : Bool → ℕ → ℕ → Node
joining true p c = node.Semi p c
joining false p c = node.Anti p c

-- It gives the rows that an entry of the first node and one of the second give, joined, and names no node that these do not.
pub record JoinsEntries (filled : Bool) (over under s : Seen) : Type 0 where
  pub rows : (known : Tables) → known 0 ≡ [] ∷ [] → given known s ≡ joined_rows filled (given known over) (given known under)
  pub named : (end : ℕ) → AreBelow end (named_nodes over) → AreBelow end (named_nodes under) → AreBelow end (named_nodes s)

-- the same of two nodes that have their entries
pub record JoinsNodes (filled : Bool) (entries : List Seen) (p c : ℕ) (s : Seen) : Type 0 where
  pub rows : (known : Tables) → known 0 ≡ [] ∷ [] → GiveAll known entries → given known s ≡ joined_rows filled (known p) (known c)
  pub named : (end : ℕ) → AllBelow end entries → AreBelow end (named_nodes s)

-- rows of no parts
abbrev pub AreFlat : List Row → Type 0
AreFlat rows = rows ≡ (if has_row rows then [] ∷ [] else [])

-- Which nodes are kept: each by which a node is told, and each that a kept one reads.

abbrev pub is_kept : List Bool → ℕ → Bool
is_kept kept i = get_or kept i false

abbrev pub AreKept : List Bool → List ℕ → Type 0
AreKept kept = AllByRecursion (λ i. is_kept kept i ≡ true)

pub record IsChoice (nodes : List Node) (entries : List Seen) (kept : List Bool) : Type 0 where
  pub many : length kept ≡ length nodes
  pub named : (i : ℕ) (s : Seen) → slice_get entries i ≡ Some s → AreKept kept (named_nodes s)
  pub read : (i : ℕ) (n : Node) → slice_get nodes i ≡ Some n → is_kept kept i ≡ true → AreKept kept (reads n)

-- How they are found. These nodes are kept; those by which nodes are told; and from node `end` down those that a kept one reads.

abbrev pub all_kept : List Bool → List ℕ → List Bool
all_kept kept [] = kept
all_kept kept (k ∷ ks) = all_kept (slice_set kept k true) ks

abbrev pub named_kept : List Bool → List Seen → List Bool
named_kept kept [] = kept
named_kept kept (s ∷ entries) = named_kept (all_kept kept (named_nodes s)) entries

abbrev pub reads_kept : ℕ → Node → List Bool → List Bool
reads_kept i n kept = if is_kept kept i then all_kept kept (reads n) else kept

abbrev pub read_down : ℕ → List Node → List Bool → List Bool
read_down zero nodes kept = kept
read_down (suc i) nodes kept = read_down i nodes (reads_kept i (get_or nodes i node.Root) kept)

-- how many of the nodes below node i are kept, which is the number of a kept node i among them
abbrev pub rank : List Bool → ℕ → ℕ
rank [] i = 0
rank (k ∷ kept) zero = 0
rank (true ∷ kept) (suc i) = suc (rank kept i)
rank (false ∷ kept) (suc i) = rank kept i

-- the numbers of nodes, from a number on
abbrev pub ranks : ℕ → List Bool → List ℕ
ranks next [] = []
ranks next (k ∷ kept) = next ∷ ranks (if k then suc next else next) kept

-- the kept nodes, which read others by their new numbers
abbrev pub picked : (ℕ → ℕ) → List Bool → List Node → List Node
picked f [] nodes = []
picked f (k ∷ kept) [] = []
picked f (true ∷ kept) (n ∷ nodes) = redirected f n ∷ picked f kept nodes
picked f (false ∷ kept) (n ∷ nodes) = picked f kept nodes

-- a number in a list of new numbers
abbrev pub number_in : List ℕ → ℕ → ℕ
number_in numbers i = get_or numbers i 0

-- a test and an entry by the new numbers
abbrev pub renumbered_test : (ℕ → ℕ) → Test → Test
renumbered_test f t = record { node = f t.node; filled = t.filled }

abbrev pub renumbered : (ℕ → ℕ) → Seen → Seen
renumbered f s = record { node = f s.node; tests = map (renumbered_test f) s.tests }

-- a kept node is seen by itself, and another one by its entry
abbrev pub seen_as : (ℕ → ℕ) → Bool → ℕ → Seen → Seen
seen_as f true i s = record { node = f i; tests = [] }
seen_as f false i s = renumbered f s

-- the table of all nodes, from node i on
abbrev pub table_from : (ℕ → ℕ) → List Bool → ℕ → List Seen → List Seen
table_from f kept i [] = []
table_from f kept i (s ∷ entries) = seen_as f (is_kept kept i) i s ∷ table_from f kept (suc i) entries
