-- The plan of a class has plain nodes alone: what is left in the condition of a Filter has its `some` and `each` in other nodes,
-- and its aggregates in parts of the row.
use Rattle.std.specs.Prelude.{◌≡◌, ◌==◌, ℕ, zero, suc, Bool, true, false, if◌then◌else◌, List, [], ◌∷◌, ◌++◌, map, position, Option, Some, None, refl}
use Rattle.std.specs.List.{AllByRecursion, list_all}
use Rattle.std.proofs.Common.{ap, sym, subst, ◌∙◌}
use Rattle.std.proofs.lemmas.Bool.{and_from, and_parts}
use Rattle.da_values.specs.declared.value.Value.TheVariants as kept
use Rattle.da_lang.specs.declared.program.Class.{Class}
use Rattle.da_lang.specs.declared.query.Agg.{Agg}
use Rattle.da_lang.specs.declared.query.AggOp.{AggOp}
use Rattle.da_lang.specs.declared.query.Cond.{Cond}
use Rattle.da_lang.specs.declared.query.Cond.TheVariants as cond
use Rattle.da_lang.specs.declared.query.Cond.TheOpen.{Cond-F}
use Rattle.da_lang.specs.declared.query.Cond.TheViews.{out-roll-SignedOperand}
use Rattle.da_lang.specs.declared.query.Node.{Node}
use Rattle.da_lang.specs.declared.query.Node.TheVariants as node
use Rattle.da_lang.specs.declared.query.Operand.{Operand}
use Rattle.da_lang.specs.declared.query.Operand.TheVariants as operand
use Rattle.da_lang.specs.declared.query.Query.{Query}
use Rattle.da_lang.specs.declared.query.Query.TheVariants as query
use Rattle.da_lang.specs.declared.query.RGen.{RGen}
use Rattle.da_lang.specs.declared.query.SignedOperand.{SignedOperand, roll-SignedOperand}
use Rattle.da_lang.specs.declared.query.Term.{Term}
use Rattle.da_lang.specs.declared.query.Term.TheVariants as term
use Rattle.da_lang.specs.declared.tree.CmpOp.{CmpOp}
use Rattle.da_lang.proofs.CondInduction.{Where, cond_induction, agg_induction, Cases}
use Rattle.query_plan.specs.declared.plan.Plan.{Plan}
use Rattle.query_plan.specs.PlainNodes.{PlainNodes, is_plain, is_plain_node, is_plain_operand, is_plain_part}
use Rattle.query_plan.specs.Plans.{Place, Norm, Binding, placed, added, at_node, filter_on, semi_on, place_after, gen_node, gens_on, all_on, or_on, any_on, test_on, denied_on, all_bound, compared, cond_step, agg_node, agg_step, known, rename, norm, norm_if, operand_bound, agg_bound, signed_bound}
use Rattle.query_plan.specs.Questions.{Met, Asked, Awaited, class_met, norm_class, opening_plan, root, query_node, with_query, with_flag, with_asked, with_all, with_met}
use Rattle.query_plan.specs.Spelled.{same_node}
use Rattle.query_plan.proofs.PlainAt.{plain-Chain, plain-Cmp, plain-Term, plain-Truth}
use Rattle.query_plan.proofs.PlansAt.{norm-Truth, norm-Cmp, norm-Not, norm-And, norm-Or, norm-Quant, bound-Term, bound-Agg, bound-Chain, bound-agg, bound-signed}

-- a node more

push_plain : (nodes : List Node) (n : Node) → PlainNodes nodes → is_plain_node n ≡ true → PlainNodes (nodes ++ n ∷ [])
push_plain [] n all one = and_from (is_plain_node n) true one refl
push_plain (m ∷ nodes) n all one =
    let both = and_parts (is_plain_node m) (list_all is_plain_node nodes) all in
    and_from (is_plain_node m) (list_all is_plain_node (nodes ++ n ∷ [])) both.0 (push_plain nodes n both.1 one)

placed_plain : (n : Node) (nodes : List Node) (o : Option ℕ) → PlainNodes nodes → is_plain_node n ≡ true → PlainNodes (placed n nodes o).0
placed_plain n nodes None all one = push_plain nodes n all one
placed_plain n nodes (Some k) all one = all

added_plain : (nodes : List Node) (n : Node) → PlainNodes nodes → is_plain_node n ≡ true → PlainNodes (added nodes n).0
added_plain nodes n all one = placed_plain n nodes (position (same_node n) nodes) all one

-- the nodes for a condition, and those for an operand, which becomes a plain one

abbrev Plainly : Norm → Type 0
Plainly f = (at : Place) (nodes : List Node) → PlainNodes nodes → PlainNodes (f at nodes).0

abbrev BindsPlainly : {A : Type 0} → (A → Bool) → Binding A → Type 0
BindsPlainly plain f = (at : Place) (nodes : List Node) → PlainNodes nodes → PlainNodes (f at nodes).0 × (plain (f at nodes).2 ≡ true)

gens_plain : (gens : List RGen) (at : Place) (nodes : List Node) → PlainNodes nodes → PlainNodes (gens_on gens at nodes).0
gens_plain [] at nodes all = all
gens_plain (g ∷ gs) at nodes all = let first = added nodes (gen_node at g) in gens_plain gs (place_after at g first.1) first.0 (added_plain nodes (gen_node at g) all refl)

all_plain : {A : Type 0} (f : A → Norm) (xs : List A) → AllByRecursion (λ x. Plainly (f x)) xs → Plainly (all_on (map f xs))
all_plain f [] each at nodes all = all
all_plain f (x ∷ xs) each at nodes all = let first = f x at nodes in all_plain f xs each.1 (at_node at first.1) first.0 (each.0 at nodes all)

or_plain : {A : Type 0} (f : A → Norm) (xs : List A) → AllByRecursion (λ x. Plainly (f x)) xs → (at : Place) (left : List Node × ℕ) → PlainNodes left.0 → PlainNodes (or_on (map f xs) at left).0
or_plain f [] each at left all = all
or_plain f (x ∷ xs) each at left all =
    let right = f x at left.0 in
    let end = added right.0 (node.Union left.1 right.1) in
    or_plain f xs each.1 at end (added_plain right.0 (node.Union left.1 right.1) (each.0 at left.0 all) refl)

any_plain : {A : Type 0} (f : A → Norm) (xs : List A) → AllByRecursion (λ x. Plainly (f x)) xs → Plainly (any_on (map f xs))
any_plain f [] each at nodes all = added_plain nodes (node.Anti at.node at.node) all refl
any_plain f (x ∷ xs) each at nodes all = let first = f x at nodes in or_plain f xs each.1 at first (each.0 at nodes all)

abbrev OfCond : Cond → Type 0
OfCond b = Plainly (norm b)

test_plain : (b : Option Cond) → Where OfCond b → Plainly (test_on (norm_if b))
test_plain None law at nodes all = all
test_plain (Some b) law at nodes all = law at nodes all

denied_plain : (b : Option Cond) → Where OfCond b → Plainly (denied_on (norm_if b))
denied_plain None law at nodes all =
    let truth : Cond = cond.Truth (term.Const (kept.Bool true)) in
    let inner = filter_on truth at nodes in
    added_plain inner.0 (node.Anti at.node inner.1) (added_plain nodes (node.Filter at.node truth) all (plain-Truth (term.Const (kept.Bool true)))) refl
denied_plain (Some b) law at nodes all = let inner = norm b at nodes in added_plain inner.0 (node.Anti at.node inner.1) (law at nodes all) refl

quant_plain : (each : Bool) (gens : List RGen) (b : Option Cond) → Where OfCond b → Plainly (cond_step (Cond-F.Quant each gens (norm_if b)))
quant_plain true gens b law at nodes all =
    let last = gens_on gens at nodes in
    let child = denied_on (norm_if b) last.1 last.0 in
    added_plain child.0 (node.Anti at.node child.1) (denied_plain b law last.1 last.0 (gens_plain gens at nodes all)) refl
quant_plain false gens b law at nodes all =
    let last = gens_on gens at nodes in
    let child = test_on (norm_if b) last.1 last.0 in
    added_plain child.0 (node.Semi at.node child.1) (test_plain b law last.1 last.0 (gens_plain gens at nodes all)) refl

choice_plain : (flat : Bool) (at last : Place) (b : Cond) (nodes : List Node) → PlainNodes nodes → is_plain b ≡ true → PlainNodes (if flat then filter_on b at nodes else semi_on at (filter_on b last nodes)).0
choice_plain true at last b nodes all one = added_plain nodes (node.Filter at.node b) all one
choice_plain false at last b nodes all one =
    let child = filter_on b last nodes in
    added_plain child.0 (node.Semi at.node child.1) (added_plain nodes (node.Filter last.node b) all one) refl

compared_plain : (at last : Place) (b : Cond) (nodes : List Node) → PlainNodes nodes → is_plain b ≡ true → PlainNodes (compared at last b nodes).0
compared_plain at last b nodes all one = choice_plain (at.node == last.node) at last b nodes all one

abbrev OfOperand : Operand → Type 0
OfOperand a = BindsPlainly is_plain_operand (operand_bound a)

abbrev OfAgg : Agg → Type 0
OfAgg a = BindsPlainly is_plain_operand (agg_bound a)

abbrev OfSigned : SignedOperand → Type 0
OfSigned s = BindsPlainly is_plain_part (signed_bound s)

cmp_plain : (op : CmpOp) (a b : Operand) → OfOperand a → OfOperand b → Plainly (cond_step (Cond-F.Cmp op (operand_bound a) (operand_bound b)))
cmp_plain op a b one two at nodes all =
    let left = operand_bound a at nodes in
    let right = operand_bound b left.1 left.0 in
    let of_left = one at nodes all in
    let of_right = two left.1 left.0 of_left.0 in
    compared_plain at right.1 (cond.Cmp op left.2 right.2) right.0 of_right.0 (plain-Cmp op left.2 right.2 ∙ and_from (is_plain_operand left.2) (is_plain_operand right.2) of_left.1 of_right.1)

signs_plain : (ss : List SignedOperand) → AllByRecursion OfSigned ss → BindsPlainly (list_all is_plain_part) (all_bound (map signed_bound ss))
signs_plain [] each at nodes all = (all, refl)
signs_plain (s ∷ ss) each at nodes all =
    let first = signed_bound s at nodes in
    let of_first = each.0 at nodes all in
    let others = all_bound (map signed_bound ss) first.1 first.0 in
    let of_others = signs_plain ss each.1 first.1 first.0 of_first.0 in
    (of_others.0, and_from (is_plain_part first.2) (list_all is_plain_part others.2) of_first.1 of_others.1)

over_plain : (op : AggOp) (gens : List RGen) (b : Option Cond) (t : Term) (other : Option Term) → Where OfCond b → BindsPlainly is_plain_operand (agg_step (record { op = op; gens = gens; cond = norm_if b; term = t; other = other }))
over_plain op gens b t other law at nodes all =
    let last = gens_on gens at nodes in
    let child = test_on (norm_if b) last.1 last.0 in (
      added_plain child.0 (agg_node (record { op = op; gens = gens; cond = norm_if b; term = t; other = other }) at last.1.vars child.1) (test_plain b law last.1 last.0 (gens_plain gens at nodes all)) refl,
      plain-Term (term.Part (suc at.width)),
    )

chain_plain : (a : Operand) (ss : List SignedOperand) → OfOperand a → AllByRecursion OfSigned ss → (at : Place) (nodes : List Node) → PlainNodes nodes
    → PlainNodes (all_bound (map signed_bound ss) (operand_bound a at nodes).1 (operand_bound a at nodes).0).0
    × (is_plain_operand (operand.Chain (operand_bound a at nodes).2 (all_bound (map signed_bound ss) (operand_bound a at nodes).1 (operand_bound a at nodes).0).2) ≡ true)
chain_plain a ss law each at nodes all =
    let first = operand_bound a at nodes in
    let of_first = law at nodes all in
    let others = all_bound (map signed_bound ss) first.1 first.0 in
    let of_others = signs_plain ss each first.1 first.0 of_first.0 in
    (of_others.0, plain-Chain first.2 others.2 ∙ and_from (is_plain_operand first.2) (list_all is_plain_part others.2) of_first.1 of_others.1)

plain_as : {A : Type 0} (a b : List Node × A) → a ≡ b → PlainNodes b.0 → PlainNodes a.0
plain_as a b e all = subst (λ z. PlainNodes z.0) (sym e) all

bind_as : {A : Type 0} (plain : A → Bool) (a b : List Node × Place × A) → a ≡ b → PlainNodes b.0 × (plain b.2 ≡ true) → PlainNodes a.0 × (plain a.2 ≡ true)
bind_as plain a b e both = subst (λ z. PlainNodes z.0 × (plain z.2 ≡ true)) (sym e) both

part_made : (minus : Bool) (a : Operand) → is_plain_operand a ≡ true → is_plain_part (roll-SignedOperand (record { minus = minus; operand = a })) ≡ true
part_made minus a one = ap (λ z. is_plain_operand z.operand) (out-roll-SignedOperand (record { minus = minus; operand = a })) ∙ one

abbrev cases : Cases
cases = record {
  Of_cond = OfCond;
  Of_operand = OfOperand;
  Of_agg = OfAgg;
  Of_signed = OfSigned;
  truth = λ t at nodes all. plain_as _ _ (norm-Truth t at nodes) (added_plain nodes (node.Filter at.node (cond.Truth (rename (known at.vars) t))) all (plain-Truth (rename (known at.vars) t)));
  cmp = λ op a b one two at nodes all. plain_as _ _ (norm-Cmp op a b at nodes) (cmp_plain op a b one two at nodes all);
  negation = λ b law at nodes all. plain_as _ _ (norm-Not b at nodes) (added_plain (norm b at nodes).0 (node.Anti at.node (norm b at nodes).1) (law at nodes all) refl);
  conjunction = λ bs each at nodes all. plain_as _ _ (norm-And bs at nodes) (all_plain norm bs each at nodes all);
  disjunction = λ bs each at nodes all. plain_as _ _ (norm-Or bs at nodes) (any_plain norm bs each at nodes all);
  quant = λ each gens b law at nodes all. plain_as _ _ (norm-Quant each gens b at nodes) (quant_plain each gens b law at nodes all);
  term = λ t at nodes all. bind_as is_plain_operand _ _ (bound-Term t at nodes) (all, plain-Term (rename (known at.vars) t));
  agg = λ a law at nodes all. bind_as is_plain_operand _ _ (bound-Agg a at nodes) (law at nodes all);
  chain = λ a ss law each at nodes all. bind_as is_plain_operand _ _ (bound-Chain a ss at nodes) (chain_plain a ss law each at nodes all);
  over = λ op gens b t other law at nodes all. bind_as is_plain_operand _ _ (bound-agg op gens b t other at nodes) (over_plain op gens b t other law at nodes all);
  signed = λ minus a law at nodes all. bind_as is_plain_part _ _ (bound-signed minus a at nodes)
      ((law at nodes all).0, part_made minus (operand_bound a at nodes).2 (law at nodes all).1);
}

pub norm_plain : (b : Cond) → Plainly (norm b)
norm_plain = cond_induction cases

agg_plain : (a : Agg) → BindsPlainly is_plain_operand (agg_bound a)
agg_plain = agg_induction cases

guard_plain : (b : Option Cond) → Where OfCond b
guard_plain None = tt
guard_plain (Some b) = norm_plain b

query_plain : (nodes : List Node) (q : Query) → PlainNodes nodes → PlainNodes (query_node nodes q).0
query_plain nodes (query.Quant true gens b) all =
    let last = gens_on gens root nodes in denied_plain b (guard_plain b) last.1 last.0 (gens_plain gens root nodes all)
query_plain nodes (query.Quant false gens b) all =
    let last = gens_on gens root nodes in test_plain b (guard_plain b) last.1 last.0 (gens_plain gens root nodes all)
query_plain nodes (query.Comp t gens b) all =
    let last = gens_on gens root nodes in test_plain b (guard_plain b) last.1 last.0 (gens_plain gens root nodes all)
query_plain nodes (query.Agg a) all = (agg_plain a root nodes all).0

queries_plain : (queries : List Query) (plan : Plan) → PlainNodes plan.nodes → PlainNodes (with_all queries plan).nodes
queries_plain [] plan all = all
queries_plain (q ∷ qs) plan all = queries_plain qs (with_query plan q) (query_plain plan.nodes q all)

asked_plain : (n : ℕ) (queries : List Query) (plan : Plan) → PlainNodes plan.nodes → PlainNodes (with_asked n queries plan).0.nodes
asked_plain zero queries plan all = all
asked_plain (suc n) [] plan all = all
asked_plain (suc n) (q ∷ qs) plan all = asked_plain n qs (with_query plan q) (query_plain plan.nodes q all)

met_plain : (met : List Met) (queries : List Query) (plan : Plan) → PlainNodes plan.nodes → PlainNodes (with_met met queries plan).nodes
met_plain [] queries plan all = queries_plain queries plan all
met_plain (Asked n ∷ met) queries plan all = let next = with_asked n queries plan in met_plain met next.1 next.0 (asked_plain n queries plan all)
met_plain (Awaited b ∷ met) queries plan all = met_plain met queries (with_flag plan b) (norm_plain b root plan.nodes all)

pub class_plain : (class : Class) → PlainNodes (norm_class class).nodes
class_plain class = met_plain (class_met class) class.queries opening_plan refl
