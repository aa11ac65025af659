-- The plan of a class: its numbered queries and the conditions of its `await`s, in the order of the inlined text.
use Rattle.std.specs.Prelude.{ℕ, zero, suc, ◌+◌, if◌then◌else◌, List, [], ◌∷◌, ◌++◌, map, flat_map, sum, unwrap_or}
use Rattle.da_lang.specs.declared.program.Class.{Class}
use Rattle.da_lang.specs.declared.program.Item.{Item}
use Rattle.da_lang.specs.declared.program.ItemKind.TheOpen.{ItemKind-F, Item-F, RBranch-F, Alt-F}
use Rattle.da_lang.specs.declared.program.ItemKind.TheFolds.{fold-Item}
use Rattle.da_lang.specs.declared.program.RExpr.{RExpr}
use Rattle.da_lang.specs.declared.program.RExpr.TheOpen.{RExpr-F, ChainPart-F}
use Rattle.da_lang.specs.declared.program.RExpr.TheFolds.{fold-RExpr}
use Rattle.da_lang.specs.declared.query.Cond.{Cond}
use Rattle.da_lang.specs.declared.query.Cond.TheOpen.{Cond-F, Operand-F, Agg-F, SignedOperand-F}
use Rattle.da_lang.specs.declared.query.Cond.TheFolds.{fold-Cond}
use Rattle.da_lang.specs.declared.query.Node.{Node}
use Rattle.da_lang.specs.declared.query.Node.TheVariants as node
use Rattle.da_lang.specs.declared.query.Query.{Query}
use Rattle.da_lang.specs.declared.query.Query.TheVariants as query
use Rattle.da_lang.specs.declared.query.QueryNode.{QueryNode}
use Rattle.da_lang.specs.declared.query.Shape.TheVariants as shape
use Rattle.query_plan.specs.declared.plan.Plan.{Plan}
use Rattle.query_plan.specs.Plans.{Place, gens_on, test_on, denied_on, known, rename, norm, norm_if, agg_bound}

-- How many numbered queries a part of the text has.

-- of an expression outside queries, each where its number is asked for
abbrev pub asks_step : RExpr-F ℕ ℕ → ℕ
asks_step (RExpr-F.Ask n) = 1
asks_step (RExpr-F.Range a b) = a + b
asks_step (RExpr-F.Tuple parts) = sum parts
asks_step (RExpr-F.SetOf parts) = sum parts
asks_step (RExpr-F.Or parts) = sum parts
asks_step (RExpr-F.And parts) = sum parts
asks_step (RExpr-F.Not a) = a
asks_step (RExpr-F.Cmp op a b) = a + b
asks_step (RExpr-F.Member a b) = a + b
asks_step (RExpr-F.Chain a more) = a + sum more
asks_step _ = 0

abbrev pub part_asks_step : ChainPart-F ℕ ℕ → ℕ
part_asks_step part = part.operand

abbrev pub asks : RExpr → ℕ
asks = fold-RExpr ℕ ℕ asks_step part_asks_step

-- of the condition of an alternative: its largest quantifications and aggregates
abbrev pub cond_asks_step : Cond-F ℕ ℕ ℕ ℕ → ℕ
cond_asks_step (Cond-F.Truth t) = 0
cond_asks_step (Cond-F.Cmp op a b) = a + b
cond_asks_step (Cond-F.Not b) = b
cond_asks_step (Cond-F.And bs) = sum bs
cond_asks_step (Cond-F.Or bs) = sum bs
cond_asks_step (Cond-F.Quant each gens b) = 1

abbrev pub operand_asks_step : Operand-F ℕ ℕ ℕ ℕ → ℕ
operand_asks_step (Operand-F.Term t) = 0
operand_asks_step (Operand-F.Agg a) = 1
operand_asks_step (Operand-F.Chain a more) = a + sum more

abbrev pub agg_asks_step : Agg-F ℕ ℕ ℕ ℕ → ℕ
agg_asks_step a = 1

abbrev pub signed_asks_step : SignedOperand-F ℕ ℕ ℕ ℕ → ℕ
signed_asks_step s = s.operand

abbrev pub cond_asks : Cond → ℕ
cond_asks = fold-Cond ℕ ℕ ℕ ℕ cond_asks_step operand_asks_step agg_asks_step signed_asks_step

-- What is met in the order of the text: so many numbered queries, and the condition of an alternative.
pub data Met : Type 0 where
  Asked : ℕ → Met
  Awaited : Cond → Met

-- one list after the other
abbrev pub joined : List (List Met) → List Met
joined = flat_map (λ met. met)

abbrev pub kind_met_step : ItemKind-F (List Met) (List Met) (List Met) (List Met) → List Met
kind_met_step (ItemKind-F.Assign s e) = Asked (asks e) ∷ []
kind_met_step (ItemKind-F.Add s e) = Asked (asks e) ∷ []
kind_met_step (ItemKind-F.Del s e) = Asked (asks e) ∷ []
kind_met_step (ItemKind-F.Send m to) = Asked (asks m + asks to) ∷ []
kind_met_step (ItemKind-F.Output e) = Asked (asks e) ∷ []
kind_met_step (ItemKind-F.If branches otherwise) = joined branches ++ joined otherwise
kind_met_step (ItemKind-F.While e body) = Asked (asks e) ∷ joined body
kind_met_step (ItemKind-F.For s e body) = Asked (asks e) ∷ joined body
kind_met_step (ItemKind-F.Call args body) = Asked (sum (map (λ a. asks a.value) args)) ∷ joined body
kind_met_step (ItemKind-F.Await alts timeout label) = joined alts ++ joined (unwrap_or timeout [])
kind_met_step (ItemKind-F.Label l) = []
kind_met_step ItemKind-F.Pass = []

abbrev pub branch_met_step : RBranch-F (List Met) (List Met) (List Met) (List Met) → List Met
branch_met_step b = Asked (asks b.cond) ∷ joined b.body

-- of an alternative first its numbered queries, then its condition, then its block
abbrev pub alt_met_step : Alt-F (List Met) (List Met) (List Met) (List Met) → List Met
alt_met_step alt = Asked (cond_asks alt.cond) ∷ Awaited alt.cond ∷ joined alt.body

abbrev pub item_met_step : Item-F (List Met) (List Met) (List Met) (List Met) → List Met
item_met_step i = i.kind

abbrev pub item_met : Item → List Met
item_met = fold-Item (List Met) (List Met) (List Met) (List Met) kind_met_step alt_met_step item_met_step branch_met_step

-- of a class: `run`, and then the handlers (in `setup` no query stands)
abbrev pub class_met : Class → List Met
class_met class = flat_map item_met class.run ++ flat_map (λ h. flat_map item_met h.body) class.handlers

-- the conditions alone
abbrev pub awaited : List Met → List Cond
awaited [] = []
awaited (Asked n ∷ met) = awaited met
awaited (Awaited b ∷ met) = b ∷ awaited met

-- A plan that is made from left to right.

-- node 0, the node of the one empty row
abbrev pub opening_plan : Plan
opening_plan = record { nodes = node.Root ∷ []; queries = []; flags = [] }

abbrev pub root : Place
root = record { node = 0; width = 0; vars = [] }

-- with further nodes and a query
abbrev pub with_query_node : Plan → List Node × QueryNode → Plan
with_query_node plan last = record plan { nodes = last.0; queries = plan.queries ++ last.1 ∷ [] }

abbrev pub query_node : List Node → Query → List Node × QueryNode
query_node nodes (query.Quant each gens b) =
    let last = gens_on gens root nodes in
    let end = if each then denied_on (norm_if b) last.1 last.0 else test_on (norm_if b) last.1 last.0 in
    (end.0, record { node = end.1; shape = if each then shape.Each else shape.Exists })
query_node nodes (query.Comp t gens b) =
    let last = gens_on gens root nodes in
    let end = test_on (norm_if b) last.1 last.0 in
    (end.0, record { node = end.1; shape = shape.Comp (rename (known last.1.vars) t) })
query_node nodes (query.Agg a) =
    let end = agg_bound a root nodes in
    (end.0, record { node = end.1.node; shape = shape.Agg })

abbrev pub with_query : Plan → Query → Plan
with_query plan q = with_query_node plan (query_node plan.nodes q)

abbrev pub with_flag : Plan → Cond → Plan
with_flag plan b = let end = norm b root plan.nodes in record plan { nodes = end.0; flags = plan.flags ++ end.1 ∷ [] }

-- with so many of the queries, and what is left of them
abbrev pub with_asked : ℕ → List Query → Plan → Plan × List Query
with_asked zero queries plan = (plan, queries)
with_asked (suc n) [] plan = (plan, [])
with_asked (suc n) (q ∷ queries) plan = with_asked n queries (with_query plan q)

abbrev pub with_all : List Query → Plan → Plan
with_all [] plan = plan
with_all (q ∷ queries) plan = with_all queries (with_query plan q)

-- with all that is met; queries that are left over come last
abbrev pub with_met : List Met → List Query → Plan → Plan
with_met [] queries plan = with_all queries plan
with_met (Asked n ∷ met) queries plan = let next = with_asked n queries plan in with_met met next.1 next.0
with_met (Awaited b ∷ met) queries plan = with_met met queries (with_flag plan b)

-- the plan of a class
abbrev pub norm_class : Class → Plan
norm_class class = with_met (class_met class) class.queries opening_plan
