-- Where code halts since there are too many nodes, what it was to make has too many: whatever else is made after a part
-- only adds to its nodes. One lemma for each way out of a function that makes nodes for conditions, but for the last one,
-- where `over_as` serves.
use Rattle.std.specs.Prelude.{◌≡◌, ◌<◌, ◌≤◌, ◌+◌, ℕ, suc, true, List, [], ◌∷◌, ◌++◌, map, length, position, get_or, Option, Some, None, Result, Ok, Err, IsErrAnd, refl}
use Rattle.std.specs.List.{range_with_len}
use Rattle.std.proofs.Common.{ap, sym, subst, ◌∙◌, arith, drop}
use Rattle.std.proofs.lemmas.List.Quantifiers.{position-Some}
use Rattle.da_values.specs.declared.value.Value.TheVariants as kept
use Rattle.da_lang.specs.declared.query.Cond.{Cond}
use Rattle.da_lang.specs.declared.query.Cond.TheVariants as cond
use Rattle.da_lang.specs.declared.query.Node.{Node}
use Rattle.da_lang.specs.declared.query.Node.TheVariants as node
use Rattle.da_lang.specs.declared.query.Operand.{Operand}
use Rattle.da_lang.specs.declared.query.Operand.TheVariants as operand
use Rattle.da_lang.specs.declared.query.RGen.{RGen}
use Rattle.da_lang.specs.declared.query.SignedOperand.{SignedOperand, roll-SignedOperand, out-SignedOperand}
use Rattle.da_lang.specs.declared.query.Term.TheVariants as term
use Rattle.da_lang.specs.declared.tree.CmpOp.{CmpOp}
use Rattle.query_plan.specs.Nodes.{parts_added}
use Rattle.query_plan.specs.Plans.{Place, placed, added, vars_after, gen_node, gens_on, all_on, or_on, denied_on, all_bound, compared, known, rename_gen, norm, norm_if, operand_bound, signed_bound}
use Rattle.query_plan.specs.Spelled.{same_node}
use Rattle.query_plan.proofs.PlansAt.{norm-Cmp, bound-Chain}
use Rattle.quant_norm.specs.declared.limit.Halt.{Halt}
use Rattle.quant_norm.specs.declared.limit.Halt.TheVariants.{Full}
use Rattle.quant_norm.specs.Either.{either_of, any_from}
use Rattle.quant_norm.specs.Making.{Over, Makes, Binds, one_gen}
use Rattle.quant_norm.proofs.GrowthLaws.{added_grows, longer_by, gens_grow, all_grow, or_grow, compared_grows, operand_grows, others_grow, each_grows}
use Rattle.quant_norm.proofs.PlaceLaws.{Grown, grown_itself, grown_on}
use Rattle.quant_norm.proofs.NodeSteps.{compared_after}
use Rattle.quant_norm.proofs.PlanSteps.{End, EndAt, EndWith, dropped, with_bound, cmp_made, all_further, any_further, denied_none, chain_made, signed_further}

-- a halt that is handed on
pub halted : {A B : Type 0} (whole : List Node × B) (made : A → List Node × B) (r : Result A Halt) (h : Halt) → IsErrAnd r (λ e. e ≡ h) → (h ≡ Full → Over whole.0) → Makes whole made r
halted whole made (Ok x) h same over = absurd same
halted whole made (Err e) h same over = λ f. over (sym same ∙ f)

pub more_over : (nodes longer : List Node) → Grown nodes longer → Over nodes → Over longer
more_over nodes longer grown over = omega (arith, longer_by nodes longer grown, over)

pub over_as : {A : Type 0} (a b : List Node × A) → a ≡ b → Over b.0 → Over a.0
over_as {A} a b e over = subst (λ (z : List Node × A). Over z.0) (sym e) over

over_then : {A : Type 0} (whole rest : List Node × A) (part : List Node) → whole ≡ rest → Grown part rest.0 → Over part → Over whole.0
over_then whole rest part e grown over = over_as whole rest e (more_over part rest.0 grown over)

-- the same of what is bound
pub bind_halted : {A B : Type 0} (whole : EndWith B) (made : A → EndWith B) (r : Result A Halt) (h : Halt) → IsErrAnd r (λ e. e ≡ h) → (h ≡ Full → Over whole.0) → Binds whole made r
bind_halted whole made (Ok x) h same over = absurd same
bind_halted whole made (Err e) h same over = λ f. over (sym same ∙ f)

bind_as : {A : Type 0} (a b : EndWith A) → a ≡ b → Over b.0 → Over a.0
bind_as {A} a b e over = subst (λ (z : EndWith A). Over z.0) (sym e) over

bind_then : {A : Type 0} (whole rest : EndWith A) (part : List Node) → whole ≡ rest → Grown part rest.0 → Over part → Over whole.0
bind_then whole rest part e grown over = bind_as whole rest e (more_over part rest.0 grown over)

-- Nodes.

pub found_over : (nodes read : List Node) (n : Node) (place : Option ℕ) (k : ℕ) → place ≡ position (same_node n) read → read ≡ nodes → place ≡ Some k → 4096 ≤ k → Over (added nodes n).0
found_over nodes read n place k e r f past =
    let is : position (same_node n) nodes ≡ Some k = ap (position (same_node n)) (sym r) ∙ sym e ∙ f in
    let there = position-Some (same_node n) nodes k node.Root is in
    over_as (added nodes n) (nodes, k) (ap (placed n nodes) is) (omega (arith, there.0, past))

pub compared_over : (at last : Place) (b : Cond) (nodes : List Node) → (at.node ≡ last.node → ⊥) → Over (added nodes (node.Filter last.node b)).0 → Over (compared at last b nodes).0
compared_over at last b nodes differ over =
    let child : End = added nodes (node.Filter last.node b) in
    let end : End = added child.0 (node.Semi at.node child.1) in
    over_then (compared at last b nodes) end child.0 (compared_after at last b nodes child.0 child.1 end differ refl refl) (added_grows child.0 (node.Semi at.node child.1)) over

-- Generators.

pub gen_over : (g made : RGen) (at : Place) (vars : List ℕ) (nodes : List Node) (more : ℕ) → more ≡ parts_added g → vars ≡ at.vars ++ range_with_len (suc at.width) more → made ≡ rename_gen (known vars) g → Over (added nodes (node.Gen at.node made)).0 → Over (one_gen g at nodes).0
gen_over g made at vars nodes more e h i over =
    let vs : vars_after at g ≡ vars = ap (λ n. at.vars ++ range_with_len (suc at.width) n) (sym e) ∙ sym h in
    let same : gen_node at g ≡ node.Gen at.node made = ap (λ v. node.Gen at.node (rename_gen (known v) g)) vs ∙ ap (node.Gen at.node) (sym i) in
    over_as (added nodes (gen_node at g)) (added nodes (node.Gen at.node made)) (ap (added nodes) same) over

pub gens_over : (start : EndAt) (gens : List RGen) (i : ℕ) (g : RGen) (at : Place) (nodes : List Node) → start ≡ gens_on (drop i gens) at nodes → i < length gens → g ≡ get_or gens i g → Over (one_gen g at nodes).0 → Over start.0
gens_over start gens i g at nodes e within is over =
    let one = one_gen g at nodes in
    over_then start (gens_on (drop (i + 1) gens) one.1 one.0) one.0 (e ∙ ap (λ gs. gens_on gs at nodes) (dropped gens i g within is)) (gens_grow (drop (i + 1) gens) one.1 one.0) over

-- Conditions.

pub cmp_over_left : (whole : Cond) (op : CmpOp) (a b read : Operand) (at start : Place) (nodes : List Node) → whole ≡ cond.Cmp op a b → read ≡ a → start ≡ at → Over (operand_bound read start nodes).0 → Over (norm whole at nodes).0
cmp_over_left whole op a b read at start nodes form r same over =
    let left = operand_bound read at nodes in
    let right = operand_bound b left.1 left.0 in
    let test : Cond = cond.Cmp op left.2 right.2 in
    over_then (norm whole at nodes) (compared at right.1 test right.0) left.0
    (ap (λ z. norm z at nodes) (form ∙ ap (λ z. cond.Cmp op z b) (sym r)) ∙ norm-Cmp op read b at nodes)
    (grown_on left.0 right.0 (compared at right.1 test right.0).0 (operand_grows b left.1 left.0) (compared_grows at right.1 test right.0))
    (subst (λ p. Over (operand_bound read p nodes).0) same over)

pub cmp_over_right : (whole : Cond) (op : CmpOp) (a b a_read b_read left : Operand) (at start middle : Place) (nodes first : List Node) → whole ≡ cond.Cmp op a b → a_read ≡ a → b_read ≡ b → start ≡ at → ◌≡◌ {A = EndWith Operand} (operand_bound a_read start nodes) (first, middle, left)
    → Over (operand_bound b_read middle first).0 → Over (norm whole at nodes).0
cmp_over_right whole op a b a_read b_read left at start middle nodes first form ra rb same e over =
    let right = operand_bound b_read middle first in
    let test : Cond = cond.Cmp op left right.2 in
    let end : End = compared at right.1 test right.0 in
    over_then (norm whole at nodes) end right.0
    (cmp_made whole op a b a_read b_read left right.2 test at start middle right.1 nodes first right.0 end form ra rb same e refl refl refl)
    (compared_grows at right.1 test right.0) over

pub all_over : (start : End) (bs : List Cond) (i : ℕ) (b : Cond) (at : Place) (nodes : List Node) → start ≡ all_on (map norm (drop i bs)) at nodes → i < length bs → b ≡ get_or bs i b → Over (norm b at nodes).0 → Over start.0
all_over start bs i b at nodes e within is over =
    let one : End = norm b at nodes in
    let next : Place = record at { node = one.1 } in
    over_then start (all_on (map norm (drop (i + 1) bs)) next one.0) one.0 (all_further start bs i b at nodes one.0 one.1 e within is refl) (all_grow norm (drop (i + 1) bs) (each_grows (drop (i + 1) bs)) next one.0) over

either_grows : (nodes : List Node) (left : Option ℕ) (right : ℕ) → Grown nodes (either_of nodes left right).0
either_grows nodes None right = grown_itself nodes
either_grows nodes (Some left) right = added_grows nodes (node.Union left right)

pub both_over : (start : End) (bs : List Cond) (i : ℕ) (b : Cond) (at : Place) (nodes first : List Node) (left : Option ℕ) (right : ℕ) → start ≡ any_from left (map norm (drop i bs)) at nodes → i < length bs → b ≡ get_or bs i b → ◌≡◌ {A = End} (norm b at nodes) (first, right) → Over (either_of first left right).0 → Over start.0
both_over start bs i b at nodes first left right e within is f over =
    let both : End = either_of first left right in
    let end : End = or_on (map norm (drop (i + 1) bs)) at both in
    over_then start end both.0 (any_further start bs i b at nodes first both.0 left right both.1 e within is f refl) (or_grow norm (drop (i + 1) bs) (each_grows (drop (i + 1) bs)) at both) over

pub right_over : (start : End) (bs : List Cond) (i : ℕ) (b : Cond) (at : Place) (nodes : List Node) (left : Option ℕ) → start ≡ any_from left (map norm (drop i bs)) at nodes → i < length bs → b ≡ get_or bs i b → Over (norm b at nodes).0 → Over start.0
right_over start bs i b at nodes left e within is over =
    let right : End = norm b at nodes in
    both_over start bs i b at nodes right.0 left right.1 e within is refl (more_over right.0 (either_of right.0 left right.1).0 (either_grows right.0 left right.1) over)

pub denied_over_none : (whole : Option Cond) (test : Cond) (at : Place) (nodes : List Node) → whole ≡ None → test ≡ cond.Truth (term.Const (kept.Bool true)) → Over (added nodes (node.Filter at.node test)).0 → Over (denied_on (norm_if whole) at nodes).0
denied_over_none whole test at nodes form e over =
    let child : End = added nodes (node.Filter at.node test) in
    let end : End = added child.0 (node.Anti at.node child.1) in
    over_then (denied_on (norm_if whole) at nodes) end child.0 (denied_none whole test at nodes child.0 child.1 end form e refl refl) (added_grows child.0 (node.Anti at.node child.1)) over

-- Operands.

pub chain_over_first : (whole a read : Operand) (bs : List SignedOperand) (at : Place) (nodes : List Node) → whole ≡ operand.Chain a bs → read ≡ a → Over (operand_bound read at nodes).0 → Over (operand_bound whole at nodes).0
chain_over_first whole a read bs at nodes form r over =
    let first = operand_bound read at nodes in
    let others = all_bound (map signed_bound bs) first.1 first.0 in
    bind_then (operand_bound whole at nodes) (others.0, others.1, operand.Chain first.2 others.2) first.0
    (ap (λ z. operand_bound z at nodes) (form ∙ ap (λ z. operand.Chain z bs) (sym r)) ∙ bound-Chain read bs at nodes)
    (others_grow bs first.1 first.0) over

pub chain_over_others : (whole a a_read left : Operand) (bs bs_read : List SignedOperand) (at middle : Place) (nodes first : List Node) → whole ≡ operand.Chain a bs → a_read ≡ a → bs_read ≡ bs → ◌≡◌ {A = EndWith Operand} (operand_bound a_read at nodes) (first, middle, left)
    → Over (all_bound (map signed_bound bs_read) middle first).0 → Over (operand_bound whole at nodes).0
chain_over_others whole a a_read left bs bs_read at middle nodes first form ra rb e over =
    let others = all_bound (map signed_bound bs_read) middle first in
    bind_as (operand_bound whole at nodes) (others.0, others.1, operand.Chain left others.2)
    (chain_made whole a a_read left (operand.Chain left others.2) bs bs_read others.2 at middle others.1 nodes first others.0 form ra rb e refl refl) over

pub signed_over : (start : EndWith (List SignedOperand)) (ss made : List SignedOperand) (i : ℕ) (s : SignedOperand) (read : Operand) (at : Place) (nodes : List Node) → start ≡ with_bound made (all_bound (map signed_bound (drop i ss)) at nodes) → i < length ss → s ≡ get_or ss i s → read ≡ (out-SignedOperand s).operand
    → Over (operand_bound read at nodes).0 → Over start.0
signed_over start ss made i s read at nodes e within is r over =
    let one = operand_bound read at nodes in
    let bound : SignedOperand = roll-SignedOperand (record { minus = (out-SignedOperand s).minus; operand = one.2 }) in
    let rest = all_bound (map signed_bound (drop (i + 1) ss)) one.1 one.0 in
    bind_then start (with_bound (made ++ bound ∷ []) rest) one.0 (signed_further start ss made (made ++ bound ∷ []) i s read one.2 at one.1 nodes one.0 e within is r refl refl) (others_grow (drop (i + 1) ss) one.1 one.0) over
