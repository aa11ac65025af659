-- Where code halts since there are too many nodes, the plan that it was to make has too many: one lemma for each way out
-- of a function that puts queries, flags and statements into a plan.
use Rattle.std.specs.Prelude.{◌≡◌, ◌<◌, ◌-◌, ◌+◌, ℕ, Bool, true, false, List, [], ◌∷◌, flat_map, length, get_or, Option, unwrap_or, Result, Ok, Err, IsErrAnd, refl}
use Rattle.std.proofs.Common.{ap, sym, subst, ◌∙◌, drop}
use Rattle.da_lang.specs.declared.program.Alt.{Alt}
use Rattle.da_lang.specs.declared.program.BindArg.{BindArg}
use Rattle.da_lang.specs.declared.program.Class.{Class}
use Rattle.da_lang.specs.declared.program.Handler.{Handler}
use Rattle.da_lang.specs.declared.program.Item.{Item}
use Rattle.da_lang.specs.declared.program.ItemKind.{ItemKind}
use Rattle.da_lang.specs.declared.program.ItemKind.TheVariants as kind
use Rattle.da_lang.specs.declared.program.ItemKind.TheViews.{out-Alt, out-Item, out-RBranch}
use Rattle.da_lang.specs.declared.program.RBranch.{RBranch}
use Rattle.da_lang.specs.declared.program.RExpr.{RExpr}
use Rattle.da_lang.specs.declared.query.Agg.{Agg}
use Rattle.da_lang.specs.declared.query.Cond.{Cond}
use Rattle.da_lang.specs.declared.query.Node.{Node}
use Rattle.da_lang.specs.declared.query.Query.{Query}
use Rattle.da_lang.specs.declared.query.Query.TheVariants as query
use Rattle.da_lang.specs.declared.query.RGen.{RGen}
use Rattle.da_lang.specs.declared.query.Shape.TheVariants as shape
use Rattle.da_lang.specs.declared.query.Term.{Term}
use Rattle.query_plan.specs.declared.plan.Plan.{Plan}
use Rattle.query_plan.specs.Plans.{Place, gens_on, test_on, denied_on, known, rename, norm, norm_if, agg_bound}
use Rattle.query_plan.specs.Questions.{Met, Asked, Awaited, root, query_node, with_query, with_flag, with_asked, with_all, asks, cond_asks, class_met, item_met, norm_class, opening_plan}
use Rattle.quant_norm.specs.declared.limit.Halt.{Halt}
use Rattle.quant_norm.specs.declared.limit.Halt.TheVariants.{Full}
use Rattle.quant_norm.specs.Making.{Over, MakesPlan, Puts, alt_met, args_ask, branch_met, handler_met, kind_met, Made, made_with}
use Rattle.quant_norm.proofs.FullNodes.{more_over, over_as}
use Rattle.quant_norm.proofs.GrowthLaws.{norm_grows, test_grows, denied_grows, guard_grows, asked_grow, all_queries_grow}
use Rattle.quant_norm.proofs.MetAt.{item_met-is, made_with-both, with_met-made}
use Rattle.quant_norm.proofs.PlaceLaws.{Grown, grown_itself, grown_on}
use Rattle.quant_norm.proofs.PlanSteps.{End, EndAt}
use Rattle.quant_norm.proofs.QuerySteps.{each_asked, some_asked, comp_asked, asked_further, met_further, class_made, if_put, while_put, for_put, call_put, await_put, branch_put, alt_put}

-- a halt that is handed on
pub plan_halted : {A : Type 0} (whole : Plan) (made : A → Plan) (r : Result A Halt) (h : Halt) → IsErrAnd r (λ e. e ≡ h) → (h ≡ Full → Over whole.nodes) → MakesPlan whole made r
plan_halted whole made (Ok x) h same over = absurd same
plan_halted whole made (Err e) h same over = λ f. over (sym same ∙ f)

pub put_halted : {A : Type 0} (whole : Made) (made : A → Made) (r : Result A Halt) (h : Halt) → IsErrAnd r (λ e. e ≡ h) → (h ≡ Full → Over whole.0.nodes) → Puts whole made r
put_halted whole made (Ok x) h same over = absurd same
put_halted whole made (Err e) h same over = λ f. over (sym same ∙ f)

pub over_put : (a b : Made) → a ≡ b → Over b.0.nodes → Over a.0.nodes
over_put a b e over = subst (λ (z : Made). Over z.0.nodes) (sym e) over

pub over_rest : (whole part rest : Made) → whole ≡ rest → Grown part.0.nodes rest.0.nodes → Over part.0.nodes → Over whole.0.nodes
over_rest whole part rest e grown over = over_put whole rest e (more_over part.0.nodes rest.0.nodes grown over)

-- Queries.

query_after : (each : Bool) (gens : List RGen) (b : Option Cond) (nodes : List Node) → Grown (gens_on gens root nodes).0 (query_node nodes (query.Quant each gens b)).0
query_after true gens b nodes = let last = gens_on gens root nodes in denied_grows b (guard_grows b) last.1 last.0
query_after false gens b nodes = let last = gens_on gens root nodes in test_grows b (guard_grows b) last.1 last.0

pub asked_over_gens : (whole : Query) (each : Bool) (gens read : List RGen) (b : Option Cond) (at : Place) (nodes : List Node) → whole ≡ query.Quant each gens b → read ≡ gens → at ≡ root → Over (gens_on read at nodes).0 → Over (query_node nodes whole).0
asked_over_gens whole each gens read b at nodes form q r over =
    over_as (query_node nodes whole) (query_node nodes (query.Quant each read b)) (ap (query_node nodes) (form ∙ ap (λ gs. query.Quant each gs b) (sym q)))
    (more_over (gens_on read root nodes).0 (query_node nodes (query.Quant each read b)).0 (query_after each read b nodes) (subst (λ p. Over (gens_on read p nodes).0) r over))

pub each_asked_over : (whole : Query) (each : Bool) (gens read : List RGen) (b : Option Cond) (at last : Place) (nodes first : List Node) → whole ≡ query.Quant each gens b → read ≡ gens → at ≡ root → ◌≡◌ {A = EndAt} (gens_on read at nodes) (first, last) → each ≡ true
    → Over (denied_on (norm_if b) last first).0 → Over (query_node nodes whole).0
each_asked_over whole each gens read b at last nodes first form q r e is over =
    let end : End = denied_on (norm_if b) last first in
    over_as (query_node nodes whole) (end.0, record { node = end.1; shape = shape.Each }) (each_asked whole each gens read b at last nodes first end.0 end.1 form q r e is refl) over

pub some_asked_over : (whole : Query) (each : Bool) (gens read : List RGen) (b : Option Cond) (at last : Place) (nodes first : List Node) → whole ≡ query.Quant each gens b → read ≡ gens → at ≡ root → ◌≡◌ {A = EndAt} (gens_on read at nodes) (first, last) → each ≡ false
    → Over (test_on (norm_if b) last first).0 → Over (query_node nodes whole).0
some_asked_over whole each gens read b at last nodes first form q r e is over =
    let end : End = test_on (norm_if b) last first in
    over_as (query_node nodes whole) (end.0, record { node = end.1; shape = shape.Exists }) (some_asked whole each gens read b at last nodes first end.0 end.1 form q r e is refl) over

pub comp_over_gens : (whole : Query) (t : Term) (gens read : List RGen) (b : Option Cond) (at : Place) (nodes : List Node) → whole ≡ query.Comp t gens b → read ≡ gens → at ≡ root → Over (gens_on read at nodes).0 → Over (query_node nodes whole).0
comp_over_gens whole t gens read b at nodes form q r over =
    let last = gens_on read root nodes in
    over_as (query_node nodes whole) (query_node nodes (query.Comp t read b)) (ap (query_node nodes) (form ∙ ap (λ gs. query.Comp t gs b) (sym q)))
    (more_over last.0 (query_node nodes (query.Comp t read b)).0 (test_grows b (guard_grows b) last.1 last.0) (subst (λ p. Over (gens_on read p nodes).0) r over))

pub comp_over_node : (whole : Query) (t : Term) (gens read : List RGen) (b : Option Cond) (at last : Place) (nodes first : List Node) → whole ≡ query.Comp t gens b → read ≡ gens → at ≡ root → ◌≡◌ {A = EndAt} (gens_on read at nodes) (first, last) → Over (test_on (norm_if b) last first).0 → Over (query_node nodes whole).0
comp_over_node whole t gens read b at last nodes first form q r e over =
    let end : End = test_on (norm_if b) last first in
    over_as (query_node nodes whole) (end.0, record { node = end.1; shape = shape.Comp (rename (known last.vars) t) }) (comp_asked whole t (rename (known last.vars) t) gens read b at last nodes first end.0 end.1 form q r e refl refl) over

pub agg_asked_over : (whole : Query) (a read : Agg) (at : Place) (nodes : List Node) → whole ≡ query.Agg a → read ≡ a → at ≡ root → Over (agg_bound read at nodes).0 → Over (query_node nodes whole).0
agg_asked_over whole a read at nodes form q r over =
    over_as (query_node nodes whole) (query_node nodes (query.Agg read)) (ap (query_node nodes) (form ∙ ap query.Agg (sym q))) (subst (λ p. Over (agg_bound read p nodes).0) r over)

pub flag_over : (plan : Plan) (b : Cond) (at : Place) → at ≡ root → Over (norm b at plan.nodes).0 → Over (with_flag plan b).nodes
flag_over plan b at r over = subst (λ p. Over (norm b p plan.nodes).0) r over

pub asked_over : (start : Made) (left next : ℕ) (qs : List Query) (q : Query) (plan : Plan) → start ≡ with_asked left (drop next qs) plan → 0 < left → next < length qs → q ≡ get_or qs next q → Over (with_query plan q).nodes → Over start.0.nodes
asked_over start left next qs q plan e some within is over =
    let more : Plan = with_query plan q in
    let rest : Made = with_asked (left - 1) (drop (next + 1) qs) more in
    over_rest start (more, qs) rest (asked_further start left next qs q plan more e some within is refl) (asked_grow (left - 1) (drop (next + 1) qs) more) over

-- What is met.

pub made_grows : (met : List Met) (m : Made) → Grown m.0.nodes (made_with met m).0.nodes
made_grows [] m = grown_itself m.0.nodes
made_grows (Asked n ∷ met) m = let next = with_asked n m.1 m.0 in grown_on m.0.nodes next.0.nodes (made_with met next).0.nodes (asked_grow n m.1 m.0) (made_grows met next)
made_grows (Awaited b ∷ met) m =
    let next : Made = (with_flag m.0 b, m.1) in grown_on m.0.nodes next.0.nodes (made_with met next).0.nodes (norm_grows b root m.0.nodes) (made_grows met next)

pub met_over : {A : Type 0} (f : A → List Met) (start : Made) (xs : List A) (i : ℕ) (x : A) (made : Made) → start ≡ made_with (flat_map f (drop i xs)) made → i < length xs → x ≡ get_or xs i x → Over (made_with (f x) made).0.nodes → Over start.0.nodes
met_over f start xs i x made e within is over =
    let next : Made = made_with (f x) made in
    over_rest start next (made_with (flat_map f (drop (i + 1) xs)) next) (met_further f start xs i x made next e within is refl) (made_grows (flat_map f (drop (i + 1) xs)) next) over

pub item_over : (start : Made) (xs : List Item) (i : ℕ) (x : Item) (made : Made) → start ≡ made_with (flat_map item_met (drop i xs)) made → i < length xs → x ≡ get_or xs i x → Over (made_with (kind_met (out-Item x).kind) made).0.nodes → Over start.0.nodes
item_over start xs i x made e within is over = met_over item_met start xs i x made e within is (over_put (made_with (item_met x) made) (made_with (kind_met (out-Item x).kind) made) (ap (λ z. made_with z made) (item_met-is x)) over)

pub handler_over : (start : Made) (xs : List Handler) (i : ℕ) (x : Handler) (body : List Item) (made : Made) → start ≡ made_with (flat_map handler_met (drop i xs)) made → i < length xs → x ≡ get_or xs i x → body ≡ x.body → Over (made_with (flat_map item_met body) made).0.nodes → Over start.0.nodes
handler_over start xs i x body made e within is r over = met_over handler_met start xs i x made e within is (over_put (made_with (handler_met x) made) (made_with (flat_map item_met body) made) (ap (λ z. made_with (flat_map item_met z) made) (sym r)) over)

-- Statements.

abbrev OverKind : ItemKind → Plan → List Query → Type 0
OverKind k plan qs = Over (made_with (kind_met k) (plan, qs)).0.nodes

pub if_over : (k : ItemKind) (branches read : List RBranch) (otherwise : List Item) (plan : Plan) (qs : List Query) → k ≡ kind.If branches otherwise → read ≡ branches → Over (made_with (flat_map branch_met read) (plan, qs)).0.nodes → OverKind k plan qs
if_over k branches read otherwise plan qs form r over =
    let middle : Made = made_with (flat_map branch_met read) (plan, qs) in
    let end : Made = made_with (flat_map item_met otherwise) middle in
    over_rest (made_with (kind_met k) (plan, qs)) middle end (if_put k branches read otherwise otherwise plan qs middle end form r refl refl refl) (made_grows (flat_map item_met otherwise) middle) over

pub await_over : (k : ItemKind) (alts read : List Alt) (timeout : Option (List Item)) (label : Option ℕ) (plan : Plan) (qs : List Query) → k ≡ kind.Await alts timeout label → read ≡ alts → Over (made_with (flat_map alt_met read) (plan, qs)).0.nodes → OverKind k plan qs
await_over k alts read timeout label plan qs form r over =
    let body : List Item = unwrap_or timeout [] in
    let middle : Made = made_with (flat_map alt_met read) (plan, qs) in
    let end : Made = made_with (flat_map item_met body) middle in
    over_rest (made_with (kind_met k) (plan, qs)) middle end (await_put k alts read timeout body label plan qs middle end form r refl refl refl) (made_grows (flat_map item_met body) middle) over

pub while_over : (k : ItemKind) (e : RExpr) (body : List Item) (count : ℕ) (plan : Plan) (qs : List Query) → k ≡ kind.While e body → count ≡ asks e → Over (with_asked count qs plan).0.nodes → OverKind k plan qs
while_over k e body count plan qs form n over =
    let middle : Made = with_asked count qs plan in
    let end : Made = made_with (flat_map item_met body) middle in
    over_rest (made_with (kind_met k) (plan, qs)) middle end (while_put k e body body count plan qs middle end form refl n refl refl) (made_grows (flat_map item_met body) middle) over

pub for_over : (k : ItemKind) (s : ℕ) (e : RExpr) (body : List Item) (count : ℕ) (plan : Plan) (qs : List Query) → k ≡ kind.For s e body → count ≡ asks e → Over (with_asked count qs plan).0.nodes → OverKind k plan qs
for_over k s e body count plan qs form n over =
    let middle : Made = with_asked count qs plan in
    let end : Made = made_with (flat_map item_met body) middle in
    over_rest (made_with (kind_met k) (plan, qs)) middle end (for_put k s e body body count plan qs middle end form refl n refl refl) (made_grows (flat_map item_met body) middle) over

pub call_over : (k : ItemKind) (args read : List BindArg) (body : List Item) (count : ℕ) (plan : Plan) (qs : List Query) → k ≡ kind.Call args body → read ≡ args → count ≡ args_ask read → Over (with_asked count qs plan).0.nodes → OverKind k plan qs
call_over k args read body count plan qs form r n over =
    let middle : Made = with_asked count qs plan in
    let end : Made = made_with (flat_map item_met body) middle in
    over_rest (made_with (kind_met k) (plan, qs)) middle end (call_put k args read body body count plan qs middle end form r refl n refl refl) (made_grows (flat_map item_met body) middle) over

pub branch_over : (b : RBranch) (count : ℕ) (plan : Plan) (qs : List Query) → count ≡ asks (out-RBranch b).cond → Over (with_asked count qs plan).0.nodes → Over (made_with (branch_met b) (plan, qs)).0.nodes
branch_over b count plan qs n over =
    let middle : Made = with_asked count qs plan in
    let body : List Item = (out-RBranch b).body in
    let end : Made = made_with (flat_map item_met body) middle in
    over_rest (made_with (branch_met b) (plan, qs)) middle end (branch_put b body count plan qs middle end refl n refl refl) (made_grows (flat_map item_met body) middle) over

pub alt_over_flag : (alt : Alt) (b : Cond) (count : ℕ) (plan more : Plan) (qs rest : List Query) → b ≡ (out-Alt alt).cond → count ≡ cond_asks (out-Alt alt).cond → ◌≡◌ {A = Made} (with_asked count qs plan) (more, rest) → Over (with_flag more b).nodes → Over (made_with (alt_met alt) (plan, qs)).0.nodes
alt_over_flag alt b count plan more qs rest rb n put over =
    let body : List Item = (out-Alt alt).body in
    let middle : Made = (with_flag more b, rest) in
    let end : Made = made_with (flat_map item_met body) middle in
    over_rest (made_with (alt_met alt) (plan, qs)) middle end (alt_put alt body b count plan more (with_flag more b) qs rest end rb refl n put refl refl) (made_grows (flat_map item_met body) middle) over

pub alt_over_asked : (alt : Alt) (count : ℕ) (plan : Plan) (qs : List Query) → count ≡ cond_asks (out-Alt alt).cond → Over (with_asked count qs plan).0.nodes → Over (made_with (alt_met alt) (plan, qs)).0.nodes
alt_over_asked alt count plan qs n over =
    let middle : Made = with_asked count qs plan in
    let b : Cond = (out-Alt alt).cond in
    alt_over_flag alt b count plan middle.0 qs middle.1 refl n refl (more_over middle.0.nodes (with_flag middle.0 b).nodes (norm_grows b root middle.0.nodes) over)

-- Classes.

class_over : (class : Class) → Over (made_with (class_met class) (opening_plan, class.queries)).0.nodes → Over (norm_class class).nodes
class_over class over =
    let made : Made = made_with (class_met class) (opening_plan, class.queries) in
    subst (λ (p : Plan). Over p.nodes) (sym (with_met-made (class_met class) class.queries opening_plan))
    (more_over made.0.nodes (with_all made.1 made.0).nodes (all_queries_grow made.1 made.0) over)

handlers_over : (class : Class) → Over (made_with (flat_map handler_met class.handlers) (made_with (flat_map item_met class.run) (opening_plan, class.queries))).0.nodes → Over (norm_class class).nodes
handlers_over class over = class_over class (over_put (made_with (class_met class) (opening_plan, class.queries)) _ (made_with-both (flat_map item_met class.run) (flat_map handler_met class.handlers) (opening_plan, class.queries)) over)

same_start : (class : Class) (run : List Item) (qs : List Query) (opened : Plan) → run ≡ class.run → qs ≡ class.queries → opened ≡ opening_plan → ◌≡◌ {A = Made} (made_with (flat_map item_met class.run) (opening_plan, class.queries)) (made_with (flat_map item_met run) (opened, qs))
same_start class run qs opened rr rq ro =
    ap {B = Made} (λ z. made_with (flat_map item_met z) (opening_plan, class.queries)) (sym rr)
    ∙ ap {B = Made} (λ (p : Plan). made_with (flat_map item_met run) (p, class.queries)) (sym ro)
    ∙ ap {B = Made} (λ (zs : List Query). made_with (flat_map item_met run) (opened, zs)) (sym rq)

pub class_over_run : (class : Class) (run : List Item) (qs : List Query) (opened : Plan) → run ≡ class.run → qs ≡ class.queries → opened ≡ opening_plan → Over (made_with (flat_map item_met run) (opened, qs)).0.nodes → Over (norm_class class).nodes
class_over_run class run qs opened rr rq ro over =
    let first : Made = made_with (flat_map item_met class.run) (opening_plan, class.queries) in
    handlers_over class
    (more_over first.0.nodes (made_with (flat_map handler_met class.handlers) first).0.nodes (made_grows (flat_map handler_met class.handlers) first)
    (over_put first (made_with (flat_map item_met run) (opened, qs)) (same_start class run qs opened rr rq ro) over))

pub class_over_handlers : (class : Class) (run : List Item) (handlers : List Handler) (qs one : List Query) (opened first : Plan) → run ≡ class.run → handlers ≡ class.handlers → qs ≡ class.queries → opened ≡ opening_plan → ◌≡◌ {A = Made} (made_with (flat_map item_met run) (opened, qs)) (first, one)
    → Over (made_with (flat_map handler_met handlers) (first, one)).0.nodes → Over (norm_class class).nodes
class_over_handlers class run handlers qs one opened first rr rh rq ro e over =
    handlers_over class
    (over_put (made_with (flat_map handler_met class.handlers) (made_with (flat_map item_met class.run) (opening_plan, class.queries))) (made_with (flat_map handler_met handlers) (first, one))
    (ap (made_with (flat_map handler_met class.handlers)) (same_start class run qs opened rr rq ro ∙ e) ∙ ap (λ z. made_with (flat_map handler_met z) (first, one)) (sym rh)) over)

pub class_over_rest : (class : Class) (run : List Item) (handlers : List Handler) (qs one : List Query) (opened first second : Plan) (next : ℕ) → run ≡ class.run → handlers ≡ class.handlers → qs ≡ class.queries → opened ≡ opening_plan → ◌≡◌ {A = Made} (made_with (flat_map item_met run) (opened, qs)) (first, one)
    → ◌≡◌ {A = Made} (made_with (flat_map handler_met handlers) (first, one)) (second, drop next qs) → Over (with_asked (length qs) (drop next qs) second).0.nodes → Over (norm_class class).nodes
class_over_rest class run handlers qs one opened first second next rr rh rq ro e f over =
    let rest : Made = with_asked (length qs) (drop next qs) second in
    subst (λ (p : Plan). Over p.nodes) (class_made class run handlers qs opened first second rest.0 one rest.1 next rr rh rq ro e f refl) over
