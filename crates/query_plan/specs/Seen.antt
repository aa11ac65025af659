-- Nodes that are seen: their rows are told by those of other nodes, so they need not be stored.
use Rattle.std.specs.Prelude.{◌≡◌, ◌≤◌, ℕ, Bool, not, if◌then◌else◌, List, [], slice_get, Option, Some, None}
use Rattle.std.specs.List.{list_all}
use Rattle.da_values.specs.Sets.{Has}
use Rattle.da_lang.specs.declared.query.Node.{Node}
use Rattle.da_lang.specs.declared.query.Node.TheVariants as node
use Rattle.da_lang.specs.Matching.{Row}
use Rattle.da_lang.specs.World.{Data}
use Rattle.query_plan.specs.declared.stored.Seen.{Seen}
use Rattle.query_plan.specs.declared.stored.Stored.{Stored}
use Rattle.query_plan.specs.declared.stored.Test.{Test}
use Rattle.query_plan.specs.Nodes.{Tables, IsPlan, node_rows}
use Rattle.query_plan.specs.PlainNodes.{PlainNodes}
use Rattle.query_plan.specs.PlanLive.{plan_live}
use Rattle.query_plan.specs.Told.{has_row}
use Rattle.query_plan.specs.Updates.{Update}
use Rattle.query_plan.specs.Work.{work}

-- whether a test is met: its node has a row, or has none
abbrev pub is_met : Tables → Test → Bool
is_met rows t = if t.filled then has_row (rows t.node) else not (has_row (rows t.node))

abbrev pub are_met : Tables → List Test → Bool
are_met rows tests = list_all (is_met rows) tests

-- the rows that an entry gives: those of its node where each of its tests is met, and else none
abbrev pub given : Tables → Seen → List Row
given rows s = if are_met rows s.tests then rows s.node else []

abbrev pub given_if : Tables → Option Seen → List Row
given_if rows None = []
given_if rows (Some s) = given rows s

-- the rows of node i by a table of entries
abbrev pub seen_rows : Tables → List Seen → ℕ → List Row
seen_rows rows table i = given_if rows (slice_get table i)

-- a node that reads others in the place of those that it reads
abbrev pub redirected : (ℕ → ℕ) → Node → Node
redirected f node.Root = node.Root
redirected f (node.Gen p g) = node.Gen (f p) g
redirected f (node.Filter p b) = node.Filter (f p) b
redirected f (node.Semi p c) = node.Semi (f p) (f c)
redirected f (node.Anti p c) = node.Anti (f p) (f c)
redirected f (node.Union a b) = node.Union (f a) (f b)
redirected f (node.AggBind p c op t other) = node.AggBind (f p) (f c) op t other

-- A plan that is stored in the place of another one, with a table by which each node of that one is seen.
pub record IsStored (nodes : List Node) (s : Stored) : Type 0 where
  pub plan : IsPlan s.plan.nodes
  pub plain : PlainNodes s.plan.nodes
  -- each node has the rows that are seen, whatever the process knows
  pub rows : (d : Data) (i : ℕ) → seen_rows (node_rows d s.plan.nodes) s.seen i ≡ node_rows d nodes i
  -- each stored node is one of the nodes, which reads others by their new numbers
  pub same : (m : Node) → Has s.plan.nodes m → (f : ℕ → ℕ) × (n : Node) × Has nodes n × (m ≡ redirected f n)
  -- it has the rows of some node, so no further value is held
  pub only : (d : Data) (k : ℕ) → (i : ℕ) × (node_rows d s.plan.nodes k ≡ node_rows d nodes i)
  -- no update may read more rows
  pub fewer : (u : Update) (d : Data) → work u d s.plan.nodes ≤ work u d nodes
  -- it needs the same of the histories
  pub live : plan_live s.plan.nodes ≡ plan_live nodes
