-- Nodes are only added, whatever is asked for, so a plan that has too many at some point has too many in the end.
use Rattle.std.specs.Prelude.{◌≡◌, ◌≤◌, ◌==◌, ℕ, zero, suc, Bool, true, false, if◌then◌else◌, List, [], ◌∷◌, map, length, position, Option, Some, None, refl}
use Rattle.std.specs.List.{AllByRecursion}
use Rattle.std.proofs.Common.{ap, sym, subst, ◌∙◌, arith, length-append}
use Rattle.da_lang.specs.declared.query.Agg.{Agg}
use Rattle.da_lang.specs.declared.query.AggOp.{AggOp}
use Rattle.da_lang.specs.declared.query.Cond.{Cond}
use Rattle.da_lang.specs.declared.query.Cond.TheVariants as cond
use Rattle.da_lang.specs.declared.query.Cond.TheOpen.{Cond-F, Operand-F, SignedOperand-F}
use Rattle.da_lang.specs.declared.query.Cond.TheFolds.{ind-Operand, map-Operand, map-SignedOperand}
use Rattle.da_lang.specs.declared.query.Node.{Node}
use Rattle.da_lang.specs.declared.query.Node.TheVariants as node
use Rattle.da_lang.specs.declared.query.Operand.{Operand, roll-Operand}
use Rattle.da_lang.specs.declared.query.Operand.TheVariants as operand
use Rattle.da_lang.specs.declared.query.Query.{Query}
use Rattle.da_lang.specs.declared.query.Query.TheVariants as query
use Rattle.da_lang.specs.declared.query.RGen.{RGen}
use Rattle.da_lang.specs.declared.query.SignedOperand.{SignedOperand, roll-SignedOperand, out-SignedOperand, roll-out-SignedOperand}
use Rattle.da_lang.specs.declared.query.Term.{Term}
use Rattle.da_lang.specs.declared.tree.CmpOp.{CmpOp}
use Rattle.da_lang.proofs.CondInduction.{Where, cond_induction, agg_induction, Cases}
use Rattle.da_lang.proofs.TermInduction.{bare, all_of-bare}
use Rattle.query_plan.specs.declared.plan.Plan.{Plan}
use Rattle.query_plan.specs.Plans.{Place, Norm, Binding, placed, added, at_node, filter_on, semi_on, place_after, gen_node, gens_on, all_on, or_on, any_on, test_on, denied_on, all_bound, compared, cond_step, agg_node, agg_step, known, rename, norm, norm_if, operand_bound, agg_bound, signed_bound}
use Rattle.query_plan.specs.Questions.{Met, Asked, Awaited, root, query_node, with_query, with_flag, with_asked, with_all, with_met}
use Rattle.query_plan.specs.Spelled.{same_node}
use Rattle.query_plan.proofs.PlansAt.{norm-Truth, norm-Cmp, norm-Not, norm-And, norm-Or, norm-Quant, bound-Term, bound-Agg, bound-Chain, bound-agg, bound-signed}
use Rattle.quant_norm.proofs.PlaceLaws.{Grown, grown_itself, grown_on}

placed_grows : (n : Node) (nodes : List Node) (o : Option ℕ) → Grown nodes (placed n nodes o).0
placed_grows n nodes None = (n ∷ [], refl)
placed_grows n nodes (Some k) = grown_itself nodes

pub added_grows : (nodes : List Node) (n : Node) → Grown nodes (added nodes n).0
added_grows nodes n = placed_grows n nodes (position (same_node n) nodes)

-- further nodes after those that were made
pub then_added : (a b : List Node) (n : Node) → Grown a b → Grown a (added b n).0
then_added a b n grown = grown_on a b (added b n).0 grown (added_grows b n)

pub longer_by : (a b : List Node) → Grown a b → length a ≤ length b
longer_by a b (more, e) = omega (arith, ap length e ∙ length-append a more)

abbrev pub Grows : Norm → Type 0
Grows f = (at : Place) (nodes : List Node) → Grown nodes (f at nodes).0

abbrev pub BindGrows : {A : Type 0} → Binding A → Type 0
BindGrows f = (at : Place) (nodes : List Node) → Grown nodes (f at nodes).0

pub gens_grow : (gens : List RGen) (at : Place) (nodes : List Node) → Grown nodes (gens_on gens at nodes).0
gens_grow [] at nodes = grown_itself nodes
gens_grow (g ∷ gs) at nodes =
    let first = added nodes (gen_node at g) in
    grown_on nodes first.0 (gens_on gs (place_after at g first.1) first.0).0 (added_grows nodes (gen_node at g)) (gens_grow gs (place_after at g first.1) first.0)

pub all_grow : {A : Type 0} (f : A → Norm) (xs : List A) → AllByRecursion (λ x. Grows (f x)) xs → Grows (all_on (map f xs))
all_grow f [] each at nodes = grown_itself nodes
all_grow f (x ∷ xs) each at nodes =
    let first = f x at nodes in
    grown_on nodes first.0 (all_on (map f xs) (at_node at first.1) first.0).0 (each.0 at nodes) (all_grow f xs each.1 (at_node at first.1) first.0)

pub or_grow : {A : Type 0} (f : A → Norm) (xs : List A) → AllByRecursion (λ x. Grows (f x)) xs → (at : Place) (left : List Node × ℕ) → Grown left.0 (or_on (map f xs) at left).0
or_grow f [] each at left = grown_itself left.0
or_grow f (x ∷ xs) each at left =
    let right = f x at left.0 in
    let end = added right.0 (node.Union left.1 right.1) in
    grown_on left.0 end.0 (or_on (map f xs) at end).0 (then_added left.0 right.0 (node.Union left.1 right.1) (each.0 at left.0)) (or_grow f xs each.1 at end)

any_grow : {A : Type 0} (f : A → Norm) (xs : List A) → AllByRecursion (λ x. Grows (f x)) xs → Grows (any_on (map f xs))
any_grow f [] each at nodes = added_grows nodes (node.Anti at.node at.node)
any_grow f (x ∷ xs) each at nodes = let first = f x at nodes in grown_on nodes first.0 (or_on (map f xs) at first).0 (each.0 at nodes) (or_grow f xs each.1 at first)

abbrev pub OfCond : Cond → Type 0
OfCond b = Grows (norm b)

pub test_grows : (b : Option Cond) → Where OfCond b → Grows (test_on (norm_if b))
test_grows None law at nodes = grown_itself nodes
test_grows (Some b) law at nodes = law at nodes

pub denied_grows : (b : Option Cond) → Where OfCond b → Grows (denied_on (norm_if b))
denied_grows None law at nodes =
    let inner = filter_on _ at nodes in
    then_added nodes inner.0 (node.Anti at.node inner.1) (added_grows nodes (node.Filter at.node _))
denied_grows (Some b) law at nodes = let inner = norm b at nodes in then_added nodes inner.0 (node.Anti at.node inner.1) (law at nodes)

quant_grows : (each : Bool) (gens : List RGen) (b : Option Cond) → Where OfCond b → Grows (cond_step (Cond-F.Quant each gens (norm_if b)))
quant_grows true gens b law at nodes =
    let last = gens_on gens at nodes in
    let child = denied_on (norm_if b) last.1 last.0 in
    then_added nodes child.0 (node.Anti at.node child.1) (grown_on nodes last.0 child.0 (gens_grow gens at nodes) (denied_grows b law last.1 last.0))
quant_grows false gens b law at nodes =
    let last = gens_on gens at nodes in
    let child = test_on (norm_if b) last.1 last.0 in
    then_added nodes child.0 (node.Semi at.node child.1) (grown_on nodes last.0 child.0 (gens_grow gens at nodes) (test_grows b law last.1 last.0))

choice_grows : (flat : Bool) (at last : Place) (b : Cond) (nodes : List Node) → Grown nodes (if flat then filter_on b at nodes else semi_on at (filter_on b last nodes)).0
choice_grows true at last b nodes = added_grows nodes (node.Filter at.node b)
choice_grows false at last b nodes =
    let child = filter_on b last nodes in
    then_added nodes child.0 (node.Semi at.node child.1) (added_grows nodes (node.Filter last.node b))

pub compared_grows : (at last : Place) (b : Cond) (nodes : List Node) → Grown nodes (compared at last b nodes).0
compared_grows at last b nodes = choice_grows (at.node == last.node) at last b nodes

abbrev pub OfOperand : Operand → Type 0
OfOperand a = BindGrows (operand_bound a)

abbrev OfAgg : Agg → Type 0
OfAgg a = BindGrows (agg_bound a)

abbrev pub OfSigned : SignedOperand → Type 0
OfSigned s = BindGrows (signed_bound s)

cmp_grows : (op : CmpOp) (a b : Operand) → OfOperand a → OfOperand b → Grows (cond_step (Cond-F.Cmp op (operand_bound a) (operand_bound b)))
cmp_grows op a b one two at nodes =
    let left = operand_bound a at nodes in
    let right = operand_bound b left.1 left.0 in
    let made : Cond = cond.Cmp op left.2 right.2 in
    grown_on nodes right.0 (compared at right.1 made right.0).0 (grown_on nodes left.0 right.0 (one at nodes) (two left.1 left.0)) (compared_grows at right.1 made right.0)

pub signs_grow : (ss : List SignedOperand) → AllByRecursion OfSigned ss → BindGrows (all_bound (map signed_bound ss))
signs_grow [] each at nodes = grown_itself nodes
signs_grow (s ∷ ss) each at nodes =
    let first = signed_bound s at nodes in
    grown_on nodes first.0 (all_bound (map signed_bound ss) first.1 first.0).0 (each.0 at nodes) (signs_grow ss each.1 first.1 first.0)

over_grows : (op : AggOp) (gens : List RGen) (b : Option Cond) (t : Term) (other : Option Term) → Where OfCond b → BindGrows (agg_step (record { op = op; gens = gens; cond = norm_if b; term = t; other = other }))
over_grows op gens b t other law at nodes =
    let last = gens_on gens at nodes in
    let child = test_on (norm_if b) last.1 last.0 in
    then_added nodes child.0 (agg_node (record { op = op; gens = gens; cond = norm_if b; term = t; other = other }) at last.1.vars child.1)
    (grown_on nodes last.0 child.0 (gens_grow gens at nodes) (test_grows b law last.1 last.0))

grows_as : {A : Type 0} (nodes : List Node) (a b : List Node × A) → a ≡ b → Grown nodes b.0 → Grown nodes a.0
grows_as nodes a b e grown = subst (λ z. Grown nodes z.0) (sym e) grown

bind_as : {A : Type 0} (nodes : List Node) (a b : List Node × Place × A) → a ≡ b → Grown nodes b.0 → Grown nodes a.0
bind_as nodes a b e grown = subst (λ z. Grown nodes z.0) (sym e) grown

abbrev cases : Cases
cases = record {
  Of_cond = OfCond;
  Of_operand = OfOperand;
  Of_agg = OfAgg;
  Of_signed = OfSigned;
  truth = λ t at nodes. grows_as nodes _ _ (norm-Truth t at nodes) (added_grows nodes (node.Filter at.node (cond.Truth (rename (known at.vars) t))));
  cmp = λ op a b one two at nodes. grows_as nodes _ _ (norm-Cmp op a b at nodes) (cmp_grows op a b one two at nodes);
  negation = λ b law at nodes. grows_as nodes _ _ (norm-Not b at nodes) (then_added nodes (norm b at nodes).0 (node.Anti at.node (norm b at nodes).1) (law at nodes));
  conjunction = λ bs each at nodes. grows_as nodes _ _ (norm-And bs at nodes) (all_grow norm bs each at nodes);
  disjunction = λ bs each at nodes. grows_as nodes _ _ (norm-Or bs at nodes) (any_grow norm bs each at nodes);
  quant = λ each gens b law at nodes. grows_as nodes _ _ (norm-Quant each gens b at nodes) (quant_grows each gens b law at nodes);
  term = λ t at nodes. bind_as nodes _ _ (bound-Term t at nodes) (grown_itself nodes);
  agg = λ a law at nodes. bind_as nodes _ _ (bound-Agg a at nodes) (law at nodes);
  chain = λ a ss law each at nodes. bind_as nodes _ _ (bound-Chain a ss at nodes)
      (grown_on nodes (operand_bound a at nodes).0 (all_bound (map signed_bound ss) (operand_bound a at nodes).1 (operand_bound a at nodes).0).0 (law at nodes) (signs_grow ss each (operand_bound a at nodes).1 (operand_bound a at nodes).0));
  over = λ op gens b t other law at nodes. bind_as nodes _ _ (bound-agg op gens b t other at nodes) (over_grows op gens b t other law at nodes);
  signed = λ minus a law at nodes. bind_as nodes _ _ (bound-signed minus a at nodes) (law at nodes);
}

pub norm_grows : (b : Cond) → Grows (norm b)
norm_grows = cond_induction cases

pub agg_grows : (a : Agg) → BindGrows (agg_bound a)
agg_grows = agg_induction cases

-- the same of operands, for which that of aggregates is known
abbrev AtCond : Type 0
AtCond = (b : Cond) × Unit {0}

abbrev AtOperand : Type 0
AtOperand = (a : Operand) × OfOperand a

abbrev AtAgg : Type 0
AtAgg = (a : Agg) × Unit {0}

abbrev AtSigned : Type 0
AtSigned = (s : SignedOperand) × OfSigned s

operand_case : (y : Operand-F AtCond AtOperand AtAgg AtSigned) → OfOperand (roll-Operand (map-Operand AtCond AtOperand AtAgg AtSigned Cond Operand Agg SignedOperand (λ e. e.0) (λ e. e.0) (λ e. e.0) (λ e. e.0) y))
operand_case (Operand-F.Term t) = subst OfOperand (sym (operand.rolls-Term t)) (cases.term t)
operand_case (Operand-F.Agg a) = subst OfOperand (sym (operand.rolls-Agg a.0)) (cases.agg a.0 (agg_grows a.0))
operand_case (Operand-F.Chain a more) = subst OfOperand (sym (operand.rolls-Chain a.0 (bare more))) (cases.chain a.0 (bare more) a.1 (all_of-bare OfSigned more))

signed_case : (y : SignedOperand-F AtCond AtOperand AtAgg AtSigned) → OfSigned (roll-SignedOperand (map-SignedOperand AtCond AtOperand AtAgg AtSigned Cond Operand Agg SignedOperand (λ e. e.0) (λ e. e.0) (λ e. e.0) (λ e. e.0) y))
signed_case y = cases.signed y.minus y.operand.0 y.operand.1

pub operand_grows : (a : Operand) → BindGrows (operand_bound a)
operand_grows = ind-Operand (λ b. Unit {0}) OfOperand (λ a. Unit {0}) OfSigned (λ x y is. tt) (λ x y is. subst (λ z. OfOperand (roll-Operand z)) is (operand_case y)) (λ x y is. tt) (λ x y is. subst (λ z. OfSigned (roll-SignedOperand z)) is (signed_case y))

signed_grows : (s : SignedOperand) → OfSigned s
signed_grows s = let v = out-SignedOperand s in subst OfSigned (roll-out-SignedOperand s) (cases.signed v.minus v.operand (operand_grows v.operand))

each_signed : (ss : List SignedOperand) → AllByRecursion OfSigned ss
each_signed [] = tt
each_signed (s ∷ ss) = (signed_grows s, each_signed ss)

pub others_grow : (ss : List SignedOperand) → BindGrows (all_bound (map signed_bound ss))
others_grow ss = signs_grow ss (each_signed ss)

pub each_grows : (bs : List Cond) → AllByRecursion (λ b. Grows (norm b)) bs
each_grows [] = tt
each_grows (b ∷ bs) = (norm_grows b, each_grows bs)

pub guard_grows : (b : Option Cond) → Where OfCond b
guard_grows None = tt
guard_grows (Some b) = norm_grows b

pub query_grows : (nodes : List Node) (q : Query) → Grown nodes (query_node nodes q).0
query_grows nodes (query.Quant true gens b) =
    let last = gens_on gens root nodes in
    grown_on nodes last.0 (denied_on (norm_if b) last.1 last.0).0 (gens_grow gens root nodes) (denied_grows b (guard_grows b) last.1 last.0)
query_grows nodes (query.Quant false gens b) =
    let last = gens_on gens root nodes in
    grown_on nodes last.0 (test_on (norm_if b) last.1 last.0).0 (gens_grow gens root nodes) (test_grows b (guard_grows b) last.1 last.0)
query_grows nodes (query.Comp t gens b) =
    let last = gens_on gens root nodes in
    grown_on nodes last.0 (test_on (norm_if b) last.1 last.0).0 (gens_grow gens root nodes) (test_grows b (guard_grows b) last.1 last.0)
query_grows nodes (query.Agg a) = agg_grows a root nodes

pub all_queries_grow : (queries : List Query) (plan : Plan) → Grown plan.nodes (with_all queries plan).nodes
all_queries_grow [] plan = grown_itself plan.nodes
all_queries_grow (q ∷ qs) plan = grown_on plan.nodes (with_query plan q).nodes (with_all qs (with_query plan q)).nodes (query_grows plan.nodes q) (all_queries_grow qs (with_query plan q))

pub asked_grow : (n : ℕ) (queries : List Query) (plan : Plan) → Grown plan.nodes (with_asked n queries plan).0.nodes
asked_grow zero queries plan = grown_itself plan.nodes
asked_grow (suc n) [] plan = grown_itself plan.nodes
asked_grow (suc n) (q ∷ qs) plan = grown_on plan.nodes (with_query plan q).nodes (with_asked n qs (with_query plan q)).0.nodes (query_grows plan.nodes q) (asked_grow n qs (with_query plan q))

pub met_grow : (met : List Met) (queries : List Query) (plan : Plan) → Grown plan.nodes (with_met met queries plan).nodes
met_grow [] queries plan = all_queries_grow queries plan
met_grow (Asked n ∷ met) queries plan =
    let next = with_asked n queries plan in
    grown_on plan.nodes next.0.nodes (with_met met next.1 next.0).nodes (asked_grow n queries plan) (met_grow met next.1 next.0)
met_grow (Awaited b ∷ met) queries plan =
    grown_on plan.nodes (with_flag plan b).nodes (with_met met queries (with_flag plan b)).nodes (norm_grows b root plan.nodes) (met_grow met queries (with_flag plan b))
