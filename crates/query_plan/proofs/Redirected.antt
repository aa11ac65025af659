-- A node that reads others in the place of those that it reads.
use Rattle.std.specs.Prelude.{◌≡◌, ℕ, not, List, [], ◌∷◌, ◌++◌, map, refl}
use Rattle.std.specs.List.{AllByRecursion, list_any, filter, flat_map}
use Rattle.std.proofs.Common.{ap, sym, ◌∙◌, arith}
use Rattle.da_values.specs.Order.{row_cmp}
use Rattle.da_values.specs.Sets.{canon}
use Rattle.da_lang.specs.declared.query.Node.{Node}
use Rattle.da_lang.specs.declared.query.Node.TheVariants as node
use Rattle.da_lang.specs.Queries.{step_rows, holds}
use Rattle.da_lang.specs.World.{Data}
use Rattle.query_plan.specs.Nodes.{Tables, bound_part, extends, node_step, reads, width_step, IsEven}
use Rattle.query_plan.specs.PlainNodes.{is_plain_node}
use Rattle.query_plan.specs.PlanLive.{gen_of}
use Rattle.query_plan.specs.PlanTerms.{node_names}
use Rattle.query_plan.specs.Seen.{redirected}
use Rattle.query_plan.specs.Updates.{Update, Receives, Sends, Joins, Leaves, Assigns}
use Rattle.query_plan.specs.Work.{moves, names_assigned}

pub step_redirected : (d : Data) (rows : Tables) (f : ℕ → ℕ) (n : Node) → node_step d rows (redirected f n) ≡ node_step d (λ j. rows (f j)) n
step_redirected d rows f node.Root = refl
step_redirected d rows f (node.Gen p g) = refl
step_redirected d rows f (node.Filter p b) = refl
step_redirected d rows f (node.Semi p c) = refl
step_redirected d rows f (node.Anti p c) = refl
step_redirected d rows f (node.Union a b) = refl
step_redirected d rows f (node.AggBind p c op t other) = refl

pub width_redirected : (widths : ℕ → ℕ) (f : ℕ → ℕ) (n : Node) → width_step widths (redirected f n) ≡ width_step (λ j. widths (f j)) n
width_redirected widths f node.Root = refl
width_redirected widths f (node.Gen p g) = refl
width_redirected widths f (node.Filter p b) = refl
width_redirected widths f (node.Semi p c) = refl
width_redirected widths f (node.Anti p c) = refl
width_redirected widths f (node.Union a b) = refl
width_redirected widths f (node.AggBind p c op t other) = refl

pub reads_redirected : (f : ℕ → ℕ) (n : Node) → reads (redirected f n) ≡ map f (reads n)
reads_redirected f node.Root = refl
reads_redirected f (node.Gen p g) = refl
reads_redirected f (node.Filter p b) = refl
reads_redirected f (node.Semi p c) = refl
reads_redirected f (node.Anti p c) = refl
reads_redirected f (node.Union a b) = refl
reads_redirected f (node.AggBind p c op t other) = refl

pub even_redirected : (widths other : ℕ → ℕ) (f : ℕ → ℕ) (n : Node) → AllByRecursion (λ j. widths (f j) ≡ other j) (reads n) → IsEven other n → IsEven widths (redirected f n)
even_redirected widths other f node.Root same even = even
even_redirected widths other f (node.Gen p g) same even = even
even_redirected widths other f (node.Filter p b) same even = even
even_redirected widths other f (node.Semi p c) same even = omega (arith, same.0, same.1.0, even)
even_redirected widths other f (node.Anti p c) same even = omega (arith, same.0, same.1.0, even)
even_redirected widths other f (node.Union a b) same even = same.0 ∙ even ∙ sym same.1.0
even_redirected widths other f (node.AggBind p c op t default) same even = omega (arith, same.0, same.1.0, even)

pub plain_redirected : (f : ℕ → ℕ) (n : Node) → is_plain_node (redirected f n) ≡ is_plain_node n
plain_redirected f node.Root = refl
plain_redirected f (node.Gen p g) = refl
plain_redirected f (node.Filter p b) = refl
plain_redirected f (node.Semi p c) = refl
plain_redirected f (node.Anti p c) = refl
plain_redirected f (node.Union a b) = refl
plain_redirected f (node.AggBind p c op t other) = refl

pub gen_redirected : (f : ℕ → ℕ) (n : Node) → gen_of (redirected f n) ≡ gen_of n
gen_redirected f node.Root = refl
gen_redirected f (node.Gen p g) = refl
gen_redirected f (node.Filter p b) = refl
gen_redirected f (node.Semi p c) = refl
gen_redirected f (node.Anti p c) = refl
gen_redirected f (node.Union a b) = refl
gen_redirected f (node.AggBind p c op t other) = refl

pub moves_redirected : (u : Update) (d : Data) (f : ℕ → ℕ) (n : Node) → moves u d (redirected f n) ≡ moves u d n
moves_redirected u d f node.Root = refl
moves_redirected u d f (node.Gen p g) = refl
moves_redirected u d f (node.Filter p b) = refl
moves_redirected u d f (node.Semi p c) = refl
moves_redirected u d f (node.Anti p c) = refl
moves_redirected u d f (node.Union a b) = refl
moves_redirected u d f (node.AggBind p c op t other) = refl

pub names_redirected : (s : ℕ) (f : ℕ → ℕ) (n : Node) → node_names s (redirected f n) ≡ node_names s n
names_redirected s f node.Root = refl
names_redirected s f (node.Gen p g) = refl
names_redirected s f (node.Filter p b) = refl
names_redirected s f (node.Semi p c) = refl
names_redirected s f (node.Anti p c) = refl
names_redirected s f (node.Union a b) = refl
names_redirected s f (node.AggBind p c op t other) = refl

pub assigned_redirected : (u : Update) (f : ℕ → ℕ) (n : Node) → names_assigned u (redirected f n) ≡ names_assigned u n
assigned_redirected (Receives m p time) f n = refl
assigned_redirected (Sends m p time) f n = refl
assigned_redirected (Joins s x) f n = refl
assigned_redirected (Leaves s x) f n = refl
assigned_redirected (Assigns s x) f n = names_redirected s f n

-- A node that reads some nodes, none of which has a row, has none.
pub step_none : (d : Data) (rows : Tables) (n : Node) → (reads n ≡ [] → ⊥) → AllByRecursion (λ j. rows j ≡ []) (reads n) → canon row_cmp (node_step d rows n) ≡ []
step_none d rows node.Root some none = absurd (some refl)
step_none d rows (node.Gen p g) some none = ap (λ z. canon row_cmp (flat_map (step_rows d g) z)) none.0
step_none d rows (node.Filter p b) some none = ap (λ z. canon row_cmp (filter (holds d b) z)) none.0
step_none d rows (node.Semi p c) some none = ap (λ z. canon row_cmp (filter (λ row. list_any (extends row) (rows c)) z)) none.0
step_none d rows (node.Anti p c) some none = ap (λ z. canon row_cmp (filter (λ row. not (list_any (extends row) (rows c))) z)) none.0
step_none d rows (node.Union a b) some none = ap (λ z. canon row_cmp (z ++ rows b)) none.0 ∙ ap (canon row_cmp) none.1.0
step_none d rows (node.AggBind p c op t other) some none = ap (λ z. canon row_cmp (map (λ row. row ++ bound_part d rows c op t other row ∷ []) z)) none.0

-- What holds of each of some numbers.
pub each_from : (P Q : ℕ → Type 0) → ((j : ℕ) → P j → Q j) → (js : List ℕ) → AllByRecursion P js → AllByRecursion Q js
each_from P Q into [] all = tt
each_from P Q into (j ∷ js) all = (into j all.0, each_from P Q into js all.1)
