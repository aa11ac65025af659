-- What the code that makes a plan holds, in the words of the definitions.
use Rattle.std.specs.Prelude.{◌≡◌, ◌<◌, ℕ, suc, List, [], ◌∷◌, flat_map, length, Option, Result, MatchResult}
use Rattle.std.specs.List.{sum_by}
use Rattle.da_lang.specs.declared.program.Alt.{Alt}
use Rattle.da_lang.specs.declared.program.BindArg.{BindArg}
use Rattle.da_lang.specs.declared.program.ChainPart.{ChainPart}
use Rattle.da_lang.specs.declared.program.Handler.{Handler}
use Rattle.da_lang.specs.declared.program.Item.{Item}
use Rattle.da_lang.specs.declared.program.ItemKind.{ItemKind}
use Rattle.da_lang.specs.declared.program.ItemKind.TheFolds.{fold-Alt, fold-ItemKind, fold-RBranch}
use Rattle.da_lang.specs.declared.program.RBranch.{RBranch}
use Rattle.da_lang.specs.declared.program.RExpr.{RExpr}
use Rattle.da_lang.specs.declared.program.RExpr.TheFolds.{fold-ChainPart}
use Rattle.da_lang.specs.declared.query.Agg.{Agg, out-Agg}
use Rattle.da_lang.specs.declared.query.Cond.{Cond}
use Rattle.da_lang.specs.declared.query.Cond.TheFolds.{fold-Operand, fold-SignedOperand}
use Rattle.da_lang.specs.declared.query.Node.{Node}
use Rattle.da_lang.specs.declared.query.Node.TheVariants as node
use Rattle.da_lang.specs.declared.query.Operand.{Operand}
use Rattle.da_lang.specs.declared.query.Operand.TheVariants as operand
use Rattle.da_lang.specs.declared.query.Query.{Query}
use Rattle.da_lang.specs.declared.query.RGen.{RGen}
use Rattle.da_lang.specs.declared.query.SignedOperand.{SignedOperand}
use Rattle.da_lang.specs.declared.query.Term.TheVariants as term
use Rattle.query_plan.specs.declared.plan.Plan.{Plan}
use Rattle.query_plan.specs.Plans.{Place, Norm, added, at_node, place_after, after_agg, denied_on, gen_node, gens_on, known, norm_if, rename, rename_other, test_on}
use Rattle.query_plan.specs.Questions.{Met, Asked, Awaited, asks, cond_asks, asks_step, part_asks_step, cond_asks_step, operand_asks_step, agg_asks_step, signed_asks_step, kind_met_step, alt_met_step, item_met_step, branch_met_step, item_met, with_asked, with_flag}
use Rattle.quant_norm.specs.declared.limit.Halt.{Halt}
use Rattle.quant_norm.specs.declared.limit.Halt.TheVariants.{Full, Memory}
use Rattle.quant_norm.specs.declared.place.Place.{Place as PlaceOf}

-- the place that the code holds
abbrev pub place_of : PlaceOf → Place
place_of at = record { node = at.node; width = at.width; vars = at.vars }

-- after one generator
abbrev pub one_gen : RGen → Place → List Node → List Node × Place
one_gen g at nodes = let first = added nodes (gen_node at g) in (first.0, place_after at g first.1)

-- how many numbered queries stand in a further part of a chain, in an operand and in a further operand
abbrev pub part_asks : ChainPart → ℕ
part_asks = fold-ChainPart ℕ ℕ asks_step part_asks_step

abbrev pub operand_asks : Operand → ℕ
operand_asks = fold-Operand ℕ ℕ ℕ ℕ cond_asks_step operand_asks_step agg_asks_step signed_asks_step

abbrev pub signed_asks : SignedOperand → ℕ
signed_asks = fold-SignedOperand ℕ ℕ ℕ ℕ cond_asks_step operand_asks_step agg_asks_step signed_asks_step

-- what is met in a statement of each kind, in a branch and in an alternative
abbrev pub kind_met : ItemKind → List Met
kind_met = fold-ItemKind (List Met) (List Met) (List Met) (List Met) kind_met_step alt_met_step item_met_step branch_met_step

abbrev pub branch_met : RBranch → List Met
branch_met = fold-RBranch (List Met) (List Met) (List Met) (List Met) kind_met_step alt_met_step item_met_step branch_met_step

abbrev pub alt_met : Alt → List Met
alt_met = fold-Alt (List Met) (List Met) (List Met) (List Met) kind_met_step alt_met_step item_met_step branch_met_step

abbrev pub handler_met : Handler → List Met
handler_met h = flat_map item_met h.body

-- what is met in an expression and in the block after it, and in the condition of an alternative
abbrev pub block_met : RExpr → List Item → List Met
block_met e body = Asked (asks e) ∷ flat_map item_met body

abbrev pub awaited_met : Cond → List Met
awaited_met b = Asked (cond_asks b) ∷ Awaited b ∷ []

-- how many numbered queries stand in the arguments of a call
abbrev pub args_ask : List BindArg → ℕ
args_ask args = sum_by (λ (arg : BindArg). asks arg.value) args

-- a plan so far, and the queries that are not yet in it
abbrev pub Made : Type 0
Made = Plan × List Query

-- with what is met
abbrev pub made_with : List Met → Made → Made
made_with [] made = made
made_with (Asked n ∷ met) made = made_with met (with_asked n made.1 made.0)
made_with (Awaited b ∷ met) made = made_with met (with_flag made.0 b, made.1)

-- After generators: the place at the rows for which a condition holds that may be left out, and the node of the rows
-- for which it does not hold.
abbrev pub rows_on : Option Cond → List RGen → Place → List Node → List Node × Place
rows_on b gens at nodes = let last = gens_on gens at nodes in let child = test_on (norm_if b) last.1 last.0 in (child.0, at_node last.1 child.1)

abbrev pub none_on : Option Cond → List RGen → Norm
none_on b gens at nodes = let last = gens_on gens at nodes in denied_on (norm_if b) last.1 last.0

-- the node of an aggregate over rows, and after it
abbrev pub over_rows : Agg → Place → Place → Node
over_rows a at rows = node.AggBind at.node rows.node (out-Agg a).op (rename (known rows.vars) (out-Agg a).term) (rename_other (known at.vars) (out-Agg a).other)

abbrev pub agg_over : Agg → Place → Place → List Node → List Node × Place × Operand
agg_over a at rows nodes = let end = added nodes (over_rows a at rows) in (end.0, after_agg at end.1, operand.Term (term.Part (suc at.width)))

-- more nodes than a plan may have
abbrev pub Over : List Node → Type 0
Over nodes = 4096 < length nodes

-- What code answers that is to make this much: it has made it, or it halts. It is full only where that has too many nodes.
abbrev pub Makes : {A B : Type 0} → List Node × B → (A → List Node × B) → Result A Halt → Type 0
Makes whole made result = MatchResult result (λ x. whole ≡ made x) (λ halt. halt ≡ Full → Over whole.0)

-- What code answers that makes no node: what it is to give, or memory was refused.
abbrev pub Gives : {A : Type 0} → (A → Type 0) → Result A Halt → Type 0
Gives told result = MatchResult result told (λ halt. halt ≡ Memory)

-- the same of what is bound, of a plan, and of a plan with the queries that are not yet in it
abbrev pub Binds : {A B : Type 0} → List Node × Place × B → (A → List Node × Place × B) → Result A Halt → Type 0
Binds whole made result = MatchResult result (λ x. whole ≡ made x) (λ halt. halt ≡ Full → Over whole.0)

abbrev pub MakesPlan : {A : Type 0} → Plan → (A → Plan) → Result A Halt → Type 0
MakesPlan whole made result = MatchResult result (λ x. whole ≡ made x) (λ halt. halt ≡ Full → Over whole.nodes)

abbrev pub Puts : {A : Type 0} → Made → (A → Made) → Result A Halt → Type 0
Puts whole made result = MatchResult result (λ x. whole ≡ made x) (λ halt. halt ≡ Full → Over whole.0.nodes)
