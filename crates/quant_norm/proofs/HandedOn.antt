-- Functions that end in a call, and hand on what it answers: what the call is to make is what the function is to make.
use Rattle.std.specs.Prelude.{◌≡◌, ◌≤◌, ◌+◌, ℕ, suc, Bool, true, false, List, [], ◌∷◌, ◌++◌, map, length, position, Option, Some, None, Result, Ok, Err, MatchResult, refl}
use Rattle.std.proofs.Common.{ap, sym, subst, ◌∙◌, arith, drop}
use Rattle.da_values.specs.declared.value.Value.TheVariants as kept
use Rattle.da_lang.specs.declared.query.Agg.{Agg, out-Agg, roll-out-Agg}
use Rattle.da_lang.specs.declared.query.Cond.{Cond}
use Rattle.da_lang.specs.declared.query.Cond.TheVariants as cond
use Rattle.da_lang.specs.declared.query.Node.{Node}
use Rattle.da_lang.specs.declared.query.Node.TheVariants as node
use Rattle.da_lang.specs.declared.query.Operand.{Operand}
use Rattle.da_lang.specs.declared.query.Operand.TheVariants as operand
use Rattle.da_lang.specs.declared.query.RGen.{RGen}
use Rattle.da_lang.specs.declared.query.SignedOperand.{SignedOperand}
use Rattle.da_lang.specs.declared.query.Term.{Term}
use Rattle.da_lang.specs.declared.query.Term.TheVariants as term
use Rattle.da_lang.specs.declared.tree.CmpOp.{CmpOp}
use Rattle.query_plan.specs.Plans.{Place, placed, added, at_node, anti_on, gens_on, all_on, any_on, test_on, denied_on, all_bound, compared, known, rename, rename_other, norm, norm_if, operand_bound, agg_bound, signed_bound}
use Rattle.query_plan.specs.Spelled.{same_node}
use Rattle.query_plan.proofs.PlansAt.{norm-Not, norm-Quant, bound-Agg, bound-agg}
use Rattle.quant_norm.specs.declared.limit.Halt.{Halt}
use Rattle.quant_norm.specs.declared.limit.Halt.TheVariants.{Full}
use Rattle.quant_norm.specs.Either.{any_left, any_from}
use Rattle.quant_norm.specs.Making.{Over, Makes, Binds, Gives, rows_on, none_on, over_rows, agg_over}
use Rattle.quant_norm.proofs.GrowthLaws.{added_grows, denied_grows, guard_grows, test_grows}
use Rattle.quant_norm.proofs.FullNodes.{more_over, over_as, found_over, denied_over_none}
use Rattle.quant_norm.proofs.NodeSteps.{found_there}
use Rattle.quant_norm.proofs.PlanSteps.{End, EndAt, EndWith, truth_made, denied_none, cmp_made, and_made, or_made, any_ended, term_made, chain_made}

pub makes_as : {A B : Type 0} (whole rest : List Node × B) (made : A → List Node × B) (r : Result A Halt) → whole ≡ rest → Makes rest made r → Makes whole made r
makes_as whole rest made (Ok x) e m = e ∙ m
makes_as whole rest made (Err h) e m = λ full. over_as whole rest e (m full)

pub binds_as : {A B : Type 0} (whole rest : EndWith B) (made : A → EndWith B) (r : Result A Halt) → whole ≡ rest → Binds rest made r → Binds whole made r
binds_as whole rest made (Ok x) e m = e ∙ m
binds_as {A} {B} whole rest made (Err h) e m = λ full. subst (λ (z : EndWith B). Over z.0) (sym e) (m full)

-- memory that was refused is no plan that is full
pub binds_given : {A B : Type 0} (whole : EndWith B) (told : A → Type 0) (made : A → EndWith B) (r : Result A Halt) → ((x : A) → told x → whole ≡ made x) → Gives told r → Binds whole made r
binds_given whole told made (Ok x) f is = f x is
binds_given whole told made (Err h) f is = λ full. cc

-- A node that is there, and one that is not.

pub found_ends : (nodes read : List Node) (n : Node) (place : Option ℕ) (k : ℕ) (r : Result ℕ Halt) → place ≡ position (same_node n) read → read ≡ nodes → place ≡ Some k → MatchResult r (λ number. number ≡ k) (λ halt. halt ≡ Full → 4096 ≤ k) → Makes (added nodes n) (λ number. (nodes, number)) r
found_ends nodes read n place k (Ok number) e same f g = found_there nodes read n place k number e same f g
found_ends nodes read n place k (Err h) e same f g = λ full. found_over nodes read n place k e same f (g full)

pub new_ends : (nodes read : List Node) (n : Node) (place : Option ℕ) (made : ℕ → End) (r : Result ℕ Halt) → place ≡ position (same_node n) read → read ≡ nodes → place ≡ None → Makes (nodes ++ n ∷ [], length nodes) made r → Makes (added nodes n) made r
new_ends nodes read n place made r e same f = makes_as (added nodes n) (nodes ++ n ∷ [], length nodes) made r (ap (placed n nodes) (ap (position (same_node n)) (sym same) ∙ sym e ∙ f))

-- Parts of conditions.

pub truth_filters : (t renamed : Term) (test : Cond) (at : Place) (nodes : List Node) (made : ℕ → End) (r : Result ℕ Halt) → renamed ≡ rename (known at.vars) t → test ≡ cond.Truth renamed → Makes (added nodes (node.Filter at.node test)) made r → Makes (norm (cond.Truth t) at nodes) made r
truth_filters t renamed test at nodes made r e f = makes_as (norm (cond.Truth t) at nodes) (added nodes (node.Filter at.node test)) made r (truth_made (cond.Truth t) t renamed test at nodes (added nodes (node.Filter at.node test)) refl e f refl)

pub never_filters : (test : Cond) (at : Place) (nodes first : List Node) (k : ℕ) (made : ℕ → End) (r : Result ℕ Halt) → test ≡ cond.Truth (term.Const (kept.Bool true)) → ◌≡◌ {A = End} (added nodes (node.Filter at.node test)) (first, k) → Makes (added first (node.Anti at.node k)) made r → Makes (denied_on None at nodes) made r
never_filters test at nodes first k made r e f = makes_as (denied_on None at nodes) (added first (node.Anti at.node k)) made r (denied_none None test at nodes first k (added first (node.Anti at.node k)) refl e f refl)

pub never_over : (test : Cond) (at : Place) (nodes : List Node) → test ≡ cond.Truth (term.Const (kept.Bool true)) → Over (added nodes (node.Filter at.node test)).0 → Over (denied_on None at nodes).0
never_over test at nodes = denied_over_none None test at nodes refl

pub both_compare : (op : CmpOp) (left right : Operand) (test : Cond) (at last : Place) (nodes : List Node) (made : ℕ → End) (r : Result ℕ Halt) → test ≡ cond.Cmp op left right → Makes (compared at last test nodes) made r → Makes (compared at last (cond.Cmp op left right) nodes) made r
both_compare op left right test at last nodes made r e = makes_as (compared at last (cond.Cmp op left right) nodes) (compared at last test nodes) made r (ap (λ b. compared at last b nodes) (sym e))

-- Conditions.

pub truth_ends : (whole : Cond) (t : Term) (at : Place) (nodes : List Node) (made : ℕ → End) (r : Result ℕ Halt) → whole ≡ cond.Truth t → Makes (norm (cond.Truth t) at nodes) made r → Makes (norm whole at nodes) made r
truth_ends whole t at nodes made r form = makes_as (norm whole at nodes) (norm (cond.Truth t) at nodes) made r (ap (λ z. norm z at nodes) form)

pub cmp_ends : (whole : Cond) (op : CmpOp) (a b a_read b_read : Operand) (at : Place) (nodes : List Node) (made : ℕ → End) (r : Result ℕ Halt) → whole ≡ cond.Cmp op a b → a_read ≡ a → b_read ≡ b → Makes (norm (cond.Cmp op a_read b_read) at nodes) made r → Makes (norm whole at nodes) made r
cmp_ends whole op a b a_read b_read at nodes made r form ra rb = makes_as (norm whole at nodes) (norm (cond.Cmp op a_read b_read) at nodes) made r (ap (λ z. norm z at nodes) (form ∙ ap (λ z. cond.Cmp op z b) (sym ra) ∙ ap (cond.Cmp op a_read) (sym rb)))

pub not_ends : (whole b read : Cond) (at : Place) (nodes : List Node) (made : ℕ → End) (r : Result ℕ Halt) → whole ≡ cond.Not b → read ≡ b → Makes (anti_on at (norm read at nodes)) made r → Makes (norm whole at nodes) made r
not_ends whole b read at nodes made r form same = makes_as (norm whole at nodes) (anti_on at (norm read at nodes)) made r (ap (λ z. norm z at nodes) (form ∙ ap cond.Not (sym same)) ∙ norm-Not read at nodes)

pub and_ends : (whole : Cond) (bs read : List Cond) (at : Place) (nodes : List Node) (made : ℕ → End) (r : Result ℕ Halt) → whole ≡ cond.And bs → read ≡ bs → Makes (all_on (map norm read) at nodes) made r → Makes (norm whole at nodes) made r
and_ends whole bs read at nodes made r form same = makes_as (norm whole at nodes) (all_on (map norm read) at nodes) made r (and_made whole bs read at nodes (all_on (map norm read) at nodes) form same refl)

pub or_ends : (whole : Cond) (bs read : List Cond) (at : Place) (nodes : List Node) (made : ℕ → End) (r : Result ℕ Halt) → whole ≡ cond.Or bs → read ≡ bs → Makes (any_on (map norm read) at nodes) made r → Makes (norm whole at nodes) made r
or_ends whole bs read at nodes made r form same = makes_as (norm whole at nodes) (any_on (map norm read) at nodes) made r (or_made whole bs read at nodes (any_on (map norm read) at nodes) form same refl)

pub quant_ends : (whole : Cond) (each : Bool) (gens read : List RGen) (b : Option Cond) (at : Place) (nodes : List Node) (made : ℕ → End) (r : Result ℕ Halt) → whole ≡ cond.Quant each gens b → read ≡ gens → Makes (norm (cond.Quant each read b) at nodes) made r → Makes (norm whole at nodes) made r
quant_ends whole each gens read b at nodes made r form same = makes_as (norm whole at nodes) (norm (cond.Quant each read b) at nodes) made r (ap (λ z. norm z at nodes) (form ∙ ap (λ gs. cond.Quant each gs b) (sym same)))

pub compared_ends : (op : CmpOp) (a b left right : Operand) (at start middle last : Place) (nodes first second : List Node) (made : ℕ → End) (r : Result ℕ Halt) → start ≡ at → ◌≡◌ {A = EndWith Operand} (operand_bound a start nodes) (first, middle, left) → ◌≡◌ {A = EndWith Operand} (operand_bound b middle first) (second, last, right)
    → Makes (compared at last (cond.Cmp op left right) second) made r → Makes (norm (cond.Cmp op a b) at nodes) made r
compared_ends op a b left right at start middle last nodes first second made r same e f =
    let end : End = compared at last (cond.Cmp op left right) second in
    makes_as (norm (cond.Cmp op a b) at nodes) end made r (cmp_made (cond.Cmp op a b) op a b a b left right (cond.Cmp op left right) at start middle last nodes first second end refl refl refl same e f refl refl)

-- the node of the rows that no row of another extends, which was made before
pub anti_ends : (child : End) (at : Place) (first : List Node) (k : ℕ) (made : ℕ → End) (r : Result ℕ Halt) → ◌≡◌ {A = End} child (first, k) → Makes (added first (node.Anti at.node k)) made r → Makes (anti_on at child) made r
anti_ends child at first k made r e = makes_as (anti_on at child) (added first (node.Anti at.node k)) made r (ap (anti_on at) e)

pub anti_over : (child : End) (at : Place) → Over child.0 → Over (anti_on at child).0
anti_over child at over = more_over child.0 (anti_on at child).0 (added_grows child.0 (node.Anti at.node child.1)) over

pub any_ends : (start : End) (bs : List Cond) (i : ℕ) (at : Place) (nodes : List Node) (left : Option ℕ) (made : ℕ → End) (r : Result ℕ Halt) → start ≡ any_from left (map norm (drop i bs)) at nodes → length bs ≤ i → Makes (any_left nodes at.node left) made r → Makes start made r
any_ends start bs i at nodes left made r e past = makes_as start (any_left nodes at.node left) made r (any_ended start (any_left nodes at.node left) bs i at nodes left e past refl)

quant_each : (each : Bool) (gens : List RGen) (b : Option Cond) (at : Place) (nodes : List Node) → each ≡ true → norm (cond.Quant each gens b) at nodes ≡ anti_on at (none_on b gens at nodes)
quant_each each gens b at nodes is = ap (λ c. norm (cond.Quant c gens b) at nodes) is ∙ norm-Quant true gens b at nodes

-- a node over rows that were made before
abbrev semi_over : Place → EndAt → End
semi_over at rows = added rows.0 (node.Semi at.node rows.1.node)

quant_some : (each : Bool) (gens : List RGen) (b : Option Cond) (at : Place) (nodes : List Node) → each ≡ false → norm (cond.Quant each gens b) at nodes ≡ semi_over at (rows_on b gens at nodes)
quant_some each gens b at nodes is = ap (λ c. norm (cond.Quant c gens b) at nodes) is ∙ norm-Quant false gens b at nodes

pub each_ends : (each : Bool) (gens : List RGen) (b : Option Cond) (at : Place) (nodes first : List Node) (k : ℕ) (made : ℕ → End) (r : Result ℕ Halt) → each ≡ true → ◌≡◌ {A = End} (none_on b gens at nodes) (first, k) → Makes (added first (node.Anti at.node k)) made r → Makes (norm (cond.Quant each gens b) at nodes) made r
each_ends each gens b at nodes first k made r is e = makes_as (norm (cond.Quant each gens b) at nodes) (added first (node.Anti at.node k)) made r (quant_each each gens b at nodes is ∙ ap (anti_on at) e)

pub each_over_rows : (each : Bool) (gens : List RGen) (b : Option Cond) (at : Place) (nodes : List Node) → each ≡ true → Over (none_on b gens at nodes).0 → Over (norm (cond.Quant each gens b) at nodes).0
each_over_rows each gens b at nodes is over = over_as (norm (cond.Quant each gens b) at nodes) (anti_on at (none_on b gens at nodes)) (quant_each each gens b at nodes is) (anti_over (none_on b gens at nodes) at over)

pub some_ends : (each : Bool) (gens : List RGen) (b : Option Cond) (at rows : Place) (nodes first : List Node) (made : ℕ → End) (r : Result ℕ Halt) → each ≡ false → ◌≡◌ {A = EndAt} (rows_on b gens at nodes) (first, rows) → Makes (added first (node.Semi at.node rows.node)) made r → Makes (norm (cond.Quant each gens b) at nodes) made r
some_ends each gens b at rows nodes first made r is e = makes_as (norm (cond.Quant each gens b) at nodes) (added first (node.Semi at.node rows.node)) made r (quant_some each gens b at nodes is ∙ ap (semi_over at) e)

pub some_over_rows : (each : Bool) (gens : List RGen) (b : Option Cond) (at : Place) (nodes : List Node) → each ≡ false → Over (rows_on b gens at nodes).0 → Over (norm (cond.Quant each gens b) at nodes).0
some_over_rows each gens b at nodes is over =
    let rows : EndAt = rows_on b gens at nodes in
    over_as (norm (cond.Quant each gens b) at nodes) (semi_over at rows) (quant_some each gens b at nodes is) (more_over rows.0 (semi_over at rows).0 (added_grows rows.0 (node.Semi at.node rows.1.node)) over)

-- After generators.

pub rows_made : (b : Option Cond) (gens : List RGen) (at last : Place) (nodes first second : List Node) (k : ℕ) → ◌≡◌ {A = EndAt} (gens_on gens at nodes) (first, last) → ◌≡◌ {A = End} (test_on (norm_if b) last first) (second, k) → ◌≡◌ {A = EndAt} (rows_on b gens at nodes) (second, at_node last k)
rows_made b gens at last nodes first second k e f =
    ap {B = EndAt} (λ (z : EndAt). let child : End = test_on (norm_if b) z.1 z.0 in (child.0, at_node z.1 child.1)) e
    ∙ ap {B = EndAt} (λ (c : End). (c.0, at_node last c.1)) f

pub rows_over_gens : (b : Option Cond) (gens : List RGen) (at : Place) (nodes : List Node) → Over (gens_on gens at nodes).0 → Over (rows_on b gens at nodes).0
rows_over_gens b gens at nodes over =
    let last : EndAt = gens_on gens at nodes in
    more_over last.0 (rows_on b gens at nodes).0 (test_grows b (guard_grows b) last.1 last.0) over

pub rows_over_test : (b : Option Cond) (gens : List RGen) (at last : Place) (nodes first : List Node) → ◌≡◌ {A = EndAt} (gens_on gens at nodes) (first, last) → Over (test_on (norm_if b) last first).0 → Over (rows_on b gens at nodes).0
rows_over_test b gens at last nodes first e over = over_as (rows_on b gens at nodes) ((test_on (norm_if b) last first).0, at_node last (test_on (norm_if b) last first).1) (rows_made b gens at last nodes first (test_on (norm_if b) last first).0 (test_on (norm_if b) last first).1 e refl) over

pub none_ends : (b : Option Cond) (gens : List RGen) (at last : Place) (nodes first : List Node) (made : ℕ → End) (r : Result ℕ Halt) → ◌≡◌ {A = EndAt} (gens_on gens at nodes) (first, last) → Makes (denied_on (norm_if b) last first) made r → Makes (none_on b gens at nodes) made r
none_ends b gens at last nodes first made r e = makes_as (none_on b gens at nodes) (denied_on (norm_if b) last first) made r (ap (λ (z : EndAt). denied_on (norm_if b) z.1 z.0) e)

pub none_over_gens : (b : Option Cond) (gens : List RGen) (at : Place) (nodes : List Node) → Over (gens_on gens at nodes).0 → Over (none_on b gens at nodes).0
none_over_gens b gens at nodes over =
    let last : EndAt = gens_on gens at nodes in
    more_over last.0 (none_on b gens at nodes).0 (denied_grows b (guard_grows b) last.1 last.0) over

pub test_ends : (whole : Option Cond) (b read : Cond) (at : Place) (nodes : List Node) (made : ℕ → End) (r : Result ℕ Halt) → whole ≡ Some b → read ≡ b → Makes (norm read at nodes) made r → Makes (test_on (norm_if whole) at nodes) made r
test_ends whole b read at nodes made r form same = makes_as (test_on (norm_if whole) at nodes) (norm read at nodes) made r (ap (λ z. test_on (norm_if z) at nodes) (form ∙ ap Some (sym same)))

pub never_ends : (whole : Option Cond) (at : Place) (nodes : List Node) (made : ℕ → End) (r : Result ℕ Halt) → whole ≡ None → Makes (denied_on None at nodes) made r → Makes (denied_on (norm_if whole) at nodes) made r
never_ends whole at nodes made r form = makes_as (denied_on (norm_if whole) at nodes) (denied_on None at nodes) made r (ap (λ z. denied_on (norm_if z) at nodes) form)

pub denied_ends : (whole : Option Cond) (b read : Cond) (at : Place) (nodes : List Node) (made : ℕ → End) (r : Result ℕ Halt) → whole ≡ Some b → read ≡ b → Makes (anti_on at (norm read at nodes)) made r → Makes (denied_on (norm_if whole) at nodes) made r
denied_ends whole b read at nodes made r form same = makes_as (denied_on (norm_if whole) at nodes) (anti_on at (norm read at nodes)) made r (ap (λ z. denied_on (norm_if z) at nodes) (form ∙ ap Some (sym same)))

-- Operands.

pub term_ends : (whole : Operand) (t : Term) (at : Place) (nodes : List Node) (r : Result Operand Halt) → whole ≡ operand.Term t → Gives (λ made. made ≡ operand.Term (rename (known at.vars) t)) r → Binds (operand_bound whole at nodes) (λ made. (nodes, at, made)) r
term_ends whole t at nodes r form = binds_given (operand_bound whole at nodes) (λ made. made ≡ operand.Term (rename (known at.vars) t)) (λ made. (nodes, at, made)) r (λ made is. term_made whole t (rename (known at.vars) t) made at nodes form refl is)

pub part_ends : (whole : Operand) (a read : Agg) (at : Place) (nodes : List Node) (made : Operand → EndWith Operand) (r : Result Operand Halt) → whole ≡ operand.Agg a → read ≡ a → Binds (agg_bound read at nodes) made r → Binds (operand_bound whole at nodes) made r
part_ends whole a read at nodes made r form same = binds_as (operand_bound whole at nodes) (agg_bound read at nodes) made r (ap (λ z. operand_bound z at nodes) (form ∙ ap operand.Agg (sym same)) ∙ bound-Agg read at nodes)

pub chain_ends : (whole a a_read : Operand) (bs bs_read : List SignedOperand) (at : Place) (nodes : List Node) (made : Operand → EndWith Operand) (r : Result Operand Halt) → whole ≡ operand.Chain a bs → a_read ≡ a → bs_read ≡ bs → Binds (operand_bound (operand.Chain a_read bs_read) at nodes) made r → Binds (operand_bound whole at nodes) made r
chain_ends whole a a_read bs bs_read at nodes made r form ra rb = binds_as (operand_bound whole at nodes) (operand_bound (operand.Chain a_read bs_read) at nodes) made r (ap (λ z. operand_bound z at nodes) (form ∙ ap (λ z. operand.Chain z bs) (sym ra) ∙ ap (operand.Chain a_read) (sym rb)))

pub chained_ends : (a left : Operand) (bs others : List SignedOperand) (at middle last : Place) (nodes first second : List Node) (r : Result Operand Halt) → ◌≡◌ {A = EndWith Operand} (operand_bound a at nodes) (first, middle, left) → ◌≡◌ {A = EndWith (List SignedOperand)} (all_bound (map signed_bound bs) middle first) (second, last, others)
    → Gives (λ made. made ≡ operand.Chain left others) r → Binds (operand_bound (operand.Chain a bs) at nodes) (λ made. (second, last, made)) r
chained_ends a left bs others at middle last nodes first second r e f = binds_given (operand_bound (operand.Chain a bs) at nodes) (λ made. made ≡ operand.Chain left others) (λ made. (second, last, made)) r (λ made is. chain_made (operand.Chain a bs) a a left made bs bs others at middle last nodes first second refl refl refl e f is)

pub last_ends : (a : Agg) (at last : Place) (nodes more : List Node) (r : Result Operand Halt) → ◌≡◌ {A = EndWith Operand} (agg_bound a at nodes) (more, last, operand.Term (term.Part last.width)) → Gives (λ made. made ≡ operand.Term (term.Part last.width)) r → Binds (agg_bound a at nodes) (λ made. (more, last, made)) r
last_ends a at last nodes more r e = binds_given (agg_bound a at nodes) (λ made. made ≡ operand.Term (term.Part last.width)) (λ made. (more, last, made)) r (λ made is. e ∙ ap {B = EndWith Operand} (λ (o : Operand). (more, last, o)) (sym is))

-- Aggregates.

agg_rows : (a : Agg) (read : List RGen) (at : Place) (nodes : List Node) → read ≡ (out-Agg a).gens → agg_bound a at nodes ≡ agg_over a at (rows_on (out-Agg a).cond read at nodes).1 (rows_on (out-Agg a).cond read at nodes).0
agg_rows a read at nodes same =
    let v = out-Agg a in
    ap (λ z. agg_bound z at nodes) (sym (roll-out-Agg a))
    ∙ bound-agg v.op v.gens v.cond v.term v.other at nodes
    ∙ ap {B = EndWith Operand} (λ (gs : List RGen). agg_over a at (rows_on v.cond gs at nodes).1 (rows_on v.cond gs at nodes).0) (sym same)

pub agg_ends : (a : Agg) (read : List RGen) (at rows : Place) (nodes first : List Node) {A : Type 0} (made : A → EndWith Operand) (r : Result A Halt) → read ≡ (out-Agg a).gens → ◌≡◌ {A = EndAt} (rows_on (out-Agg a).cond read at nodes) (first, rows) → Binds (agg_over a at rows first) made r → Binds (agg_bound a at nodes) made r
agg_ends a read at rows nodes first made r same e = binds_as (agg_bound a at nodes) (agg_over a at rows first) made r (agg_rows a read at nodes same ∙ ap {B = EndWith Operand} (λ (z : EndAt). agg_over a at z.1 z.0) e)

pub agg_over_rows : (a : Agg) (read : List RGen) (at : Place) (nodes : List Node) → read ≡ (out-Agg a).gens → Over (rows_on (out-Agg a).cond read at nodes).0 → Over (agg_bound a at nodes).0
agg_over_rows a read at nodes same over =
    let rows : EndAt = rows_on (out-Agg a).cond read at nodes in
    subst (λ (z : EndWith Operand). Over z.0) (sym (agg_rows a read at nodes same)) (more_over rows.0 (agg_over a at rows.1 rows.0).0 (added_grows rows.0 (over_rows a at rows.1)) over)

-- the node over the rows, with its terms as they were renamed
over_same : (a : Agg) (at rows : Place) (t : Term) (other : Option Term) → t ≡ rename (known rows.vars) (out-Agg a).term → other ≡ rename_other (known at.vars) (out-Agg a).other → over_rows a at rows ≡ node.AggBind at.node rows.node (out-Agg a).op t other
over_same a at rows t other g h =
    ap (λ u. node.AggBind at.node rows.node (out-Agg a).op u (rename_other (known at.vars) (out-Agg a).other)) (sym g)
    ∙ ap (node.AggBind at.node rows.node (out-Agg a).op t) (sym h)

pub over_made : (a : Agg) (at rows : Place) (nodes end : List Node) (k w : ℕ) (t : Term) (other : Option Term) → t ≡ rename (known rows.vars) (out-Agg a).term → other ≡ rename_other (known at.vars) (out-Agg a).other → ◌≡◌ {A = End} (added nodes (node.AggBind at.node rows.node (out-Agg a).op t other)) (end, k) → w ≡ at.width + 1
    → ◌≡◌ {A = EndWith Operand} (agg_over a at rows nodes) (end, record { node = k; width = w; vars = at.vars }, operand.Term (term.Part w))
over_made a at rows nodes end k w t other g h made wide =
    ap {B = EndWith Operand} (λ (z : End). (z.0, record { node = z.1; width = suc at.width; vars = at.vars }, operand.Term (term.Part (suc at.width)))) (ap (added nodes) (over_same a at rows t other g h) ∙ made)
    ∙ ap {B = EndWith Operand} (λ (n : ℕ). (end, record { node = k; width = n; vars = at.vars }, operand.Term (term.Part n))) one
  where
    one : suc at.width ≡ w
    one = omega (arith, wide)

pub over_full : (a : Agg) (at rows : Place) (nodes : List Node) (t : Term) (other : Option Term) → t ≡ rename (known rows.vars) (out-Agg a).term → other ≡ rename_other (known at.vars) (out-Agg a).other → Over (added nodes (node.AggBind at.node rows.node (out-Agg a).op t other)).0 → Over (agg_over a at rows nodes).0
over_full a at rows nodes t other g h over = subst (λ n. Over (added nodes n).0) (sym (over_same a at rows t other g h)) over
