-- What the functions that put queries, flags and statements into a plan do, in the words of the definitions.
use Rattle.std.specs.Prelude.{◌≡◌, ◌⊎◌, ◌<◌, ◌≤◌, ◌+◌, ◌-◌, ℕ, zero, suc, Bool, true, false, List, [], ◌∷◌, ◌++◌, flat_map, length, get_or, Option, unwrap_or, refl}
use Rattle.std.proofs.Common.{ap, sym, ◌∙◌, inl, inr, arith, drop, length-drop}
use Rattle.std.proofs.Math.ListN.{drop_of_length-le}
use Rattle.da_lang.specs.declared.program.Alt.{Alt}
use Rattle.da_lang.specs.declared.program.BindArg.{BindArg}
use Rattle.da_lang.specs.declared.program.Class.{Class}
use Rattle.da_lang.specs.declared.program.Handler.{Handler}
use Rattle.da_lang.specs.declared.program.Item.{Item}
use Rattle.da_lang.specs.declared.program.ItemKind.{ItemKind}
use Rattle.da_lang.specs.declared.program.ItemKind.TheVariants as kind
use Rattle.da_lang.specs.declared.program.ItemKind.TheViews.{out-Alt, out-Item, out-RBranch}
use Rattle.da_lang.specs.declared.program.RBranch.{RBranch}
use Rattle.da_lang.specs.declared.program.RExpr.{RExpr}
use Rattle.da_lang.specs.declared.query.Agg.{Agg}
use Rattle.da_lang.specs.declared.query.Cond.{Cond}
use Rattle.da_lang.specs.declared.query.Node.{Node}
use Rattle.da_lang.specs.declared.query.Operand.{Operand}
use Rattle.da_lang.specs.declared.query.Operand.TheVariants as operand
use Rattle.da_lang.specs.declared.query.Query.{Query}
use Rattle.da_lang.specs.declared.query.Query.TheVariants as query
use Rattle.da_lang.specs.declared.query.QueryNode.{QueryNode}
use Rattle.da_lang.specs.declared.query.RGen.{RGen}
use Rattle.da_lang.specs.declared.query.Shape.TheVariants as shape
use Rattle.da_lang.specs.declared.query.Term.{Term}
use Rattle.da_lang.specs.declared.query.Term.TheVariants as term
use Rattle.query_plan.specs.declared.plan.Plan.{Plan}
use Rattle.query_plan.specs.Plans.{Place, gens_on, test_on, denied_on, known, rename, norm, norm_if, agg_bound}
use Rattle.query_plan.specs.Questions.{Met, Asked, Awaited, root, query_node, with_query, with_flag, with_asked, with_all, with_query_node, asks, cond_asks, class_met, item_met, norm_class, opening_plan}
use Rattle.quant_norm.specs.Making.{alt_met, args_ask, branch_met, handler_met, kind_met, Made, made_with}
use Rattle.quant_norm.proofs.MetAt.{item_met-is, met-Assign, met-Add, met-Del, met-Send, met-Output, met-If, met-While, met-For, met-Call, met-Await, met-Label, met-Pass, branch_met-is, alt_met-is, made_with-both, with_met-made}
use Rattle.quant_norm.proofs.PlanSteps.{End, EndAt, EndWith, dropped}

abbrev Told : Type 0
Told = List Node × QueryNode

-- Queries.

pub each_asked : (whole : Query) (each : Bool) (gens read : List RGen) (b : Option Cond) (at last : Place) (nodes first second : List Node) (k : ℕ) → whole ≡ query.Quant each gens b → read ≡ gens → at ≡ root → ◌≡◌ {A = EndAt} (gens_on read at nodes) (first, last) → each ≡ true → ◌≡◌ {A = End} (denied_on (norm_if b) last first) (second, k)
    → ◌≡◌ {A = Told} (query_node nodes whole) (second, record { node = k; shape = shape.Each })
each_asked whole true gens read b at last nodes first second k form q r e is f =
    ap (query_node nodes) form ∙
    ap {B = Told} (λ (z : EndAt). let end = denied_on (norm_if b) z.1 z.0 in (end.0, record { node = end.1; shape = shape.Each })) (ap (λ gs. gens_on gs root nodes) (sym q) ∙ ap (λ p. gens_on read p nodes) (sym r) ∙ e)
    ∙ ap {B = Told} (λ (end : End). (end.0, record { node = end.1; shape = shape.Each })) f
each_asked whole false gens read b at last nodes first second k form q r e is f = absurd (cc)

pub some_asked : (whole : Query) (each : Bool) (gens read : List RGen) (b : Option Cond) (at last : Place) (nodes first second : List Node) (k : ℕ) → whole ≡ query.Quant each gens b → read ≡ gens → at ≡ root → ◌≡◌ {A = EndAt} (gens_on read at nodes) (first, last) → each ≡ false → ◌≡◌ {A = End} (test_on (norm_if b) last first) (second, k)
    → ◌≡◌ {A = Told} (query_node nodes whole) (second, record { node = k; shape = shape.Exists })
some_asked whole true gens read b at last nodes first second k form q r e is f = absurd (cc)
some_asked whole false gens read b at last nodes first second k form q r e is f =
    ap (query_node nodes) form ∙
    ap {B = Told} (λ (z : EndAt). let end = test_on (norm_if b) z.1 z.0 in (end.0, record { node = end.1; shape = shape.Exists })) (ap (λ gs. gens_on gs root nodes) (sym q) ∙ ap (λ p. gens_on read p nodes) (sym r) ∙ e)
    ∙ ap {B = Told} (λ (end : End). (end.0, record { node = end.1; shape = shape.Exists })) f

pub comp_asked : (whole : Query) (t renamed : Term) (gens read : List RGen) (b : Option Cond) (at last : Place) (nodes first second : List Node) (k : ℕ) → whole ≡ query.Comp t gens b → read ≡ gens → at ≡ root → ◌≡◌ {A = EndAt} (gens_on read at nodes) (first, last) → ◌≡◌ {A = End} (test_on (norm_if b) last first) (second, k) → renamed ≡ rename (known last.vars) t
    → ◌≡◌ {A = Told} (query_node nodes whole) (second, record { node = k; shape = shape.Comp renamed })
comp_asked whole t renamed gens read b at last nodes first second k form q r e f g =
    ap (query_node nodes) form ∙
    ap {B = Told} (λ (z : EndAt). let end = test_on (norm_if b) z.1 z.0 in (end.0, record { node = end.1; shape = shape.Comp (rename (known z.1.vars) t) })) (ap (λ gs. gens_on gs root nodes) (sym q) ∙ ap (λ p. gens_on read p nodes) (sym r) ∙ e)
    ∙ ap {B = Told} (λ (end : End). (end.0, record { node = end.1; shape = shape.Comp (rename (known last.vars) t) })) f
    ∙ ap {B = Told} (λ (u : Term). (second, record { node = k; shape = shape.Comp u })) (sym g)

pub agg_asked : (whole : Query) (a read : Agg) (at last : Place) (nodes first : List Node) → whole ≡ query.Agg a → read ≡ a → at ≡ root → ◌≡◌ {A = EndWith Operand} (agg_bound read at nodes) (first, last, operand.Term (term.Part last.width))
    → ◌≡◌ {A = Told} (query_node nodes whole) (first, record { node = last.node; shape = shape.Agg })
agg_asked whole a read at last nodes first form q r e = ap (query_node nodes) form ∙ ap {B = Told} (λ (z : EndWith Operand). (z.0, record { node = z.1.node; shape = shape.Agg })) (ap (λ z. agg_bound z root nodes) (sym q) ∙ ap (λ p. agg_bound read p nodes) (sym r) ∙ e)

pub query_put : (plan : Plan) (q : Query) (nodes : List Node) (told : QueryNode) (more : List QueryNode) → ◌≡◌ {A = Told} (query_node plan.nodes q) (nodes, told) → more ≡ plan.queries ++ told ∷ [] → with_query plan q ≡ record { nodes = nodes; queries = more; flags = plan.flags }
query_put plan q nodes told more e pushed = ap (with_query_node plan) e ∙ ap {B = Plan} (λ (qs : List QueryNode). record { nodes = nodes; queries = qs; flags = plan.flags }) (sym pushed)

pub flag_put : (plan : Plan) (b : Cond) (at : Place) (nodes : List Node) (flag : ℕ) (more : List ℕ) → at ≡ root → ◌≡◌ {A = End} (norm b at plan.nodes) (nodes, flag) → more ≡ plan.flags ++ flag ∷ [] → with_flag plan b ≡ record { nodes = nodes; queries = plan.queries; flags = more }
flag_put plan b at nodes flag more r e pushed =
    ap {B = Plan} (λ (z : End). record plan { nodes = z.0; flags = plan.flags ++ z.1 ∷ [] }) (ap (λ p. norm b p plan.nodes) (sym r) ∙ e)
    ∙ ap {B = Plan} (λ (ns : List ℕ). record { nodes = nodes; queries = plan.queries; flags = ns }) (sym pushed)

-- Queries that are put one after the other.

pub asked_further : (start : Made) (left next : ℕ) (qs : List Query) (q : Query) (plan more : Plan) → start ≡ with_asked left (drop next qs) plan → 0 < left → next < length qs → q ≡ get_or qs next q → with_query plan q ≡ more → start ≡ with_asked (left - 1) (drop (next + 1) qs) more
asked_further start left next qs q plan more e some within is made =
    let one : left ≡ suc (left - 1) = omega arith in
    e
    ∙ ap (λ n. with_asked n (drop next qs) plan) one
    ∙ ap (λ zs. with_asked (suc (left - 1)) zs plan) (dropped qs next q within is)
    ∙ ap (with_asked (left - 1) (drop (next + 1) qs)) made

ends_empty : (left : ℕ) (qs : List Query) (plan : Plan) → qs ≡ [] → ◌≡◌ {A = Made} (with_asked left qs plan) (plan, qs)
ends_empty zero qs plan e = refl
ends_empty (suc left) [] plan e = refl
ends_empty (suc left) (q ∷ qs) plan e = absurd (cc)

pub asked_none : (left : ℕ) (qs : List Query) (plan : Plan) → left ≡ 0 → ◌≡◌ {A = Made} (with_asked left qs plan) (plan, qs)
asked_none zero qs plan e = refl
asked_none (suc left) qs plan e = absurd (omega (arith, e))

pub asked_ends : (start : Made) (left next : ℕ) (qs : List Query) (plan : Plan) → start ≡ with_asked left (drop next qs) plan → (left ≡ 0) ⊎ (length qs ≤ next) → start ≡ (plan, drop next qs)
asked_ends start left next qs plan e over = e ∙ elim over [
  | inl none ↦ asked_none left (drop next qs) plan none
  | inr past ↦ ends_empty left (drop next qs) plan (drop_of_length-le qs past)
]

-- What is met.

pub met_further : {A : Type 0} (f : A → List Met) (start : Made) (xs : List A) (i : ℕ) (x : A) (made next : Made) → start ≡ made_with (flat_map f (drop i xs)) made → i < length xs → x ≡ get_or xs i x → made_with (f x) made ≡ next → start ≡ made_with (flat_map f (drop (i + 1) xs)) next
met_further f start xs i x made next e within is one =
    e
    ∙ ap (λ zs. made_with (flat_map f zs) made) (dropped xs i x within is)
    ∙ made_with-both (f x) (flat_map f (drop (i + 1) xs)) made
    ∙ ap (made_with (flat_map f (drop (i + 1) xs))) one

pub met_ended : {A : Type 0} (f : A → List Met) (start : Made) (xs : List A) (i : ℕ) (made : Made) → start ≡ made_with (flat_map f (drop i xs)) made → length xs ≤ i → start ≡ made
met_ended f start xs i made e past = e ∙ ap (λ zs. made_with (flat_map f zs) made) (drop_of_length-le xs past)

met_both : (met first second : List Met) (made middle end : Made) → met ≡ first ++ second → made_with first made ≡ middle → made_with second middle ≡ end → made_with met made ≡ end
met_both met first second made middle end e f g = ap (λ z. made_with z made) e ∙ made_with-both first second made ∙ ap (made_with second) f ∙ g

-- so many queries, and then what else is met
pub asked_then : (met more : List Met) (n count : ℕ) (plan : Plan) (qs : List Query) (middle end : Made) → met ≡ Asked n ∷ more → count ≡ n → with_asked count qs plan ≡ middle → made_with more middle ≡ end → made_with met (plan, qs) ≡ end
asked_then met more n count plan qs middle end e f g h = ap (λ z. made_with z (plan, qs)) (e ∙ ap (λ m. Asked m ∷ more) (sym f)) ∙ ap (made_with more) g ∙ h

pub asked_alone : (met : List Met) (n count : ℕ) (plan : Plan) (qs : List Query) (end : Made) → met ≡ Asked n ∷ [] → count ≡ n → with_asked count qs plan ≡ end → made_with met (plan, qs) ≡ end
asked_alone met n count plan qs end e f g = asked_then met [] n count plan qs end end e f g refl

pub awaited_then : (b : Cond) (more : List Met) (plan flagged : Plan) (qs : List Query) (end : Made) → with_flag plan b ≡ flagged → made_with more (flagged, qs) ≡ end → made_with (Awaited b ∷ more) (plan, qs) ≡ end
awaited_then b more plan flagged qs end e f = ap {B = Made} (λ (p : Plan). made_with more (p, qs)) e ∙ f

-- Classes.

all_asked : (n : ℕ) (qs : List Query) (plan : Plan) → length qs ≤ n → with_all qs plan ≡ (with_asked n qs plan).0
all_asked zero [] plan few = refl
all_asked zero (q ∷ qs) plan few = absurd (omega (arith, few))
all_asked (suc n) [] plan few = refl
all_asked (suc n) (q ∷ qs) plan few = all_asked n qs (with_query plan q) (omega (arith, few))

pub class_made : (class : Class) (run : List Item) (handlers : List Handler) (qs : List Query) (opened first second whole : Plan) (one two : List Query) (next : ℕ) → run ≡ class.run → handlers ≡ class.handlers → qs ≡ class.queries → opened ≡ opening_plan → ◌≡◌ {A = Made} (made_with (flat_map item_met run) (opened, qs)) (first, one)
    → ◌≡◌ {A = Made} (made_with (flat_map handler_met handlers) (first, one)) (second, drop next qs) → ◌≡◌ {A = Made} (with_asked (length qs) (drop next qs) second) (whole, two) → whole ≡ norm_class class
class_made class run handlers qs opened first second whole one two next rr rh rq ro e f g =
    sym (
    with_met-made (class_met class) class.queries opening_plan
    ∙ ap {B = Plan} (λ (m : Made). with_all m.1 m.0) made
    ∙ all_asked (length qs) (drop next qs) second (omega (arith, length-drop next qs))
    ∙ ap {B = Plan} (λ (m : Made). m.0) g
    )
  where
    same : ◌≡◌ {A = Made} (opening_plan, class.queries) (opened, qs)
    same = ap {B = Made} (λ (p : Plan). (p, class.queries)) (sym ro) ∙ ap {B = Made} (λ (zs : List Query). (opened, zs)) (sym rq)

    made : ◌≡◌ {A = Made} (made_with (class_met class) (opening_plan, class.queries)) (second, drop next qs)
    made =
        made_with-both (flat_map item_met class.run) (flat_map handler_met class.handlers) (opening_plan, class.queries)
        ∙ ap (made_with (flat_map handler_met class.handlers)) (ap (made_with (flat_map item_met class.run)) same ∙ ap (λ z. made_with (flat_map item_met z) (opened, qs)) (sym rr) ∙ e)
        ∙ ap (λ z. made_with (flat_map handler_met z) (first, one)) (sym rh)
        ∙ f

-- Statements.

abbrev Puts : ItemKind → Plan → List Query → Made → Type 0
Puts k plan qs end = made_with (kind_met k) (plan, qs) ≡ end

pub assign_put : (k : ItemKind) (s : ℕ) (e : RExpr) (count : ℕ) (plan : Plan) (qs : List Query) (end : Made) → k ≡ kind.Assign s e → count ≡ asks e → with_asked count qs plan ≡ end → Puts k plan qs end
assign_put k s e count plan qs end form n put = asked_alone (kind_met k) (asks e) count plan qs end (ap kind_met form ∙ met-Assign s e) n put

pub add_put : (k : ItemKind) (s : ℕ) (e : RExpr) (count : ℕ) (plan : Plan) (qs : List Query) (end : Made) → k ≡ kind.Add s e → count ≡ asks e → with_asked count qs plan ≡ end → Puts k plan qs end
add_put k s e count plan qs end form n put = asked_alone (kind_met k) (asks e) count plan qs end (ap kind_met form ∙ met-Add s e) n put

pub del_put : (k : ItemKind) (s : ℕ) (e : RExpr) (count : ℕ) (plan : Plan) (qs : List Query) (end : Made) → k ≡ kind.Del s e → count ≡ asks e → with_asked count qs plan ≡ end → Puts k plan qs end
del_put k s e count plan qs end form n put = asked_alone (kind_met k) (asks e) count plan qs end (ap kind_met form ∙ met-Del s e) n put

pub output_put : (k : ItemKind) (e : RExpr) (count : ℕ) (plan : Plan) (qs : List Query) (end : Made) → k ≡ kind.Output e → count ≡ asks e → with_asked count qs plan ≡ end → Puts k plan qs end
output_put k e count plan qs end form n put = asked_alone (kind_met k) (asks e) count plan qs end (ap kind_met form ∙ met-Output e) n put

pub send_put : (k : ItemKind) (m e : RExpr) (count : ℕ) (plan : Plan) (qs : List Query) (end : Made) → k ≡ kind.Send m e → count ≡ asks m + asks e → with_asked count qs plan ≡ end → Puts k plan qs end
send_put k m e count plan qs end form n put = asked_alone (kind_met k) (asks m + asks e) count plan qs end (ap kind_met form ∙ met-Send m e) n put

pub both_asked : (count : ℕ) (a b x y : RExpr) → count ≡ asks x + asks y → x ≡ a → y ≡ b → count ≡ asks a + asks b
both_asked count a b x y e f g = e ∙ ap (λ z. asks z + asks y) f ∙ ap (λ z. asks a + asks z) g

pub if_put : (k : ItemKind) (branches branches_read : List RBranch) (otherwise otherwise_read : List Item) (plan : Plan) (qs : List Query) (middle end : Made) → k ≡ kind.If branches otherwise → branches_read ≡ branches → otherwise_read ≡ otherwise → made_with (flat_map branch_met branches_read) (plan, qs) ≡ middle
    → made_with (flat_map item_met otherwise_read) middle ≡ end → Puts k plan qs end
if_put k branches branches_read otherwise otherwise_read plan qs middle end form rb ro one two =
    met_both (kind_met k) (flat_map branch_met branches_read) (flat_map item_met otherwise_read) (plan, qs) middle end
    (ap kind_met (form ∙ ap (λ z. kind.If z otherwise) (sym rb) ∙ ap (kind.If branches_read) (sym ro)) ∙ met-If branches_read otherwise_read) one two

pub while_put : (k : ItemKind) (e : RExpr) (body read : List Item) (count : ℕ) (plan : Plan) (qs : List Query) (middle end : Made) → k ≡ kind.While e body → read ≡ body → count ≡ asks e → with_asked count qs plan ≡ middle → made_with (flat_map item_met read) middle ≡ end → Puts k plan qs end
while_put k e body read count plan qs middle end form r n put rest = asked_then (kind_met k) (flat_map item_met read) (asks e) count plan qs middle end (ap kind_met (form ∙ ap (kind.While e) (sym r)) ∙ met-While e read) n put rest

pub for_put : (k : ItemKind) (s : ℕ) (e : RExpr) (body read : List Item) (count : ℕ) (plan : Plan) (qs : List Query) (middle end : Made) → k ≡ kind.For s e body → read ≡ body → count ≡ asks e → with_asked count qs plan ≡ middle → made_with (flat_map item_met read) middle ≡ end → Puts k plan qs end
for_put k s e body read count plan qs middle end form r n put rest = asked_then (kind_met k) (flat_map item_met read) (asks e) count plan qs middle end (ap kind_met (form ∙ ap (kind.For s e) (sym r)) ∙ met-For s e read) n put rest

pub call_put : (k : ItemKind) (args args_read : List BindArg) (body read : List Item) (count : ℕ) (plan : Plan) (qs : List Query) (middle end : Made) → k ≡ kind.Call args body → args_read ≡ args → read ≡ body → count ≡ args_ask args_read → with_asked count qs plan ≡ middle
    → made_with (flat_map item_met read) middle ≡ end → Puts k plan qs end
call_put k args args_read body read count plan qs middle end form ra r n put rest =
    asked_then (kind_met k) (flat_map item_met read) (args_ask args_read) count plan qs middle end
    (ap kind_met (form ∙ ap (λ z. kind.Call z body) (sym ra) ∙ ap (kind.Call args_read) (sym r)) ∙ met-Call args_read read) n put rest

pub await_put : (k : ItemKind) (alts read : List Alt) (timeout : Option (List Item)) (block : List Item) (label : Option ℕ) (plan : Plan) (qs : List Query) (middle end : Made) → k ≡ kind.Await alts timeout label → read ≡ alts → unwrap_or timeout [] ≡ block → made_with (flat_map alt_met read) (plan, qs) ≡ middle
    → made_with (flat_map item_met block) middle ≡ end → Puts k plan qs end
await_put k alts read timeout block label plan qs middle end form r b first second =
    met_both (kind_met k) (flat_map alt_met read) (flat_map item_met block) (plan, qs) middle end
    (ap kind_met (form ∙ ap (λ z. kind.Await z timeout label) (sym r)) ∙ met-Await read timeout label ∙ ap (λ z. flat_map alt_met read ++ flat_map item_met z) b) first second

pub label_put : (k : ItemKind) (l : ℕ) (plan : Plan) (qs : List Query) → k ≡ kind.Label l → ◌≡◌ {A = Made} (made_with (kind_met k) (plan, qs)) (plan, qs)
label_put k l plan qs form = ap (λ z. made_with z (plan, qs)) (ap kind_met form ∙ met-Label l)

pub pass_put : (k : ItemKind) (plan : Plan) (qs : List Query) → k ≡ kind.Pass → ◌≡◌ {A = Made} (made_with (kind_met k) (plan, qs)) (plan, qs)
pass_put k plan qs form = ap (λ z. made_with z (plan, qs)) (ap kind_met form ∙ met-Pass)

pub branch_put : (b : RBranch) (body : List Item) (count : ℕ) (plan : Plan) (qs : List Query) (middle end : Made) → body ≡ (out-RBranch b).body → count ≡ asks (out-RBranch b).cond → with_asked count qs plan ≡ middle → made_with (flat_map item_met body) middle ≡ end → made_with (branch_met b) (plan, qs) ≡ end
branch_put b body count plan qs middle end r n put rest =
    asked_then (branch_met b) (flat_map item_met body) (asks (out-RBranch b).cond) count plan qs middle end
    (branch_met-is b ∙ ap (λ z. Asked (asks (out-RBranch b).cond) ∷ flat_map item_met z) (sym r)) n put rest

pub alt_put : (alt : Alt) (body : List Item) (b : Cond) (count : ℕ) (plan more flagged : Plan) (qs rest : List Query) (end : Made) → b ≡ (out-Alt alt).cond → body ≡ (out-Alt alt).body → count ≡ cond_asks (out-Alt alt).cond → ◌≡◌ {A = Made} (with_asked count qs plan) (more, rest) → with_flag more b ≡ flagged
    → made_with (flat_map item_met body) (flagged, rest) ≡ end → made_with (alt_met alt) (plan, qs) ≡ end
alt_put alt body b count plan more flagged qs rest end rb r n put flag others =
    asked_then (alt_met alt) (Awaited b ∷ flat_map item_met body) (cond_asks (out-Alt alt).cond) count plan qs (more, rest) end
    (alt_met-is alt ∙ ap (λ z. Asked (cond_asks (out-Alt alt).cond) ∷ Awaited z ∷ flat_map item_met (out-Alt alt).body) (sym rb) ∙ ap (λ z. Asked (cond_asks (out-Alt alt).cond) ∷ Awaited b ∷ flat_map item_met z) (sym r)) n put
    (awaited_then b (flat_map item_met body) more flagged rest end flag others)

pub item_further : (start : Made) (xs : List Item) (i : ℕ) (x : Item) (made next : Made) → start ≡ made_with (flat_map item_met (drop i xs)) made → i < length xs → x ≡ get_or xs i x → made_with (kind_met (out-Item x).kind) made ≡ next → start ≡ made_with (flat_map item_met (drop (i + 1) xs)) next
item_further start xs i x made next e within is one = met_further item_met start xs i x made next e within is (ap (λ z. made_with z made) (item_met-is x) ∙ one)

pub handler_further : (start : Made) (xs : List Handler) (i : ℕ) (x : Handler) (body : List Item) (made next : Made) → start ≡ made_with (flat_map handler_met (drop i xs)) made → i < length xs → x ≡ get_or xs i x → body ≡ x.body → made_with (flat_map item_met body) made ≡ next → start ≡ made_with (flat_map handler_met (drop (i + 1) xs)) next
handler_further start xs i x body made next e within is r one = met_further handler_met start xs i x made next e within is (ap (λ z. made_with (flat_map item_met z) made) (sym r) ∙ one)
