-- What the functions that make the nodes of conditions do, in the words of the definitions: one lemma for each way
-- through one of them. What a function reads of a part, behind an owner or as a slice, stands beside the part.
use Rattle.std.specs.Prelude.{◌≡◌, ◌<◌, ◌≤◌, ◌+◌, ℕ, suc, true, List, [], ◌∷◌, ◌++◌, map, length, get_or, Option, Some, None}
use Rattle.std.specs.List.{range_with_len}
use Rattle.std.proofs.Common.{ap, sym, ◌∙◌, arith, drop, append_assoc, append-nil}
use Rattle.std.proofs.Math.ListN.{drop_of_length-le}
use Rattle.std.proofs.Math.Seq.{drop-cons}
use Rattle.da_values.specs.declared.value.Value.TheVariants as kept
use Rattle.da_lang.specs.declared.query.Cond.{Cond}
use Rattle.da_lang.specs.declared.query.Cond.TheVariants as cond
use Rattle.da_lang.specs.declared.query.Node.{Node}
use Rattle.da_lang.specs.declared.query.Node.TheVariants as node
use Rattle.da_lang.specs.declared.query.Operand.{Operand}
use Rattle.da_lang.specs.declared.query.Operand.TheVariants as operand
use Rattle.da_lang.specs.declared.query.RGen.{RGen}
use Rattle.da_lang.specs.declared.query.SignedOperand.{SignedOperand, roll-SignedOperand, out-SignedOperand, roll-out-SignedOperand}
use Rattle.da_lang.specs.declared.query.Term.{Term}
use Rattle.da_lang.specs.declared.query.Term.TheVariants as term
use Rattle.da_lang.specs.declared.tree.CmpOp.{CmpOp}
use Rattle.query_plan.specs.Nodes.{parts_added}
use Rattle.query_plan.specs.Plans.{Place, added, at_node, filter_on, anti_on, place_after, vars_after, gen_node, gens_on, all_on, or_on, any_on, test_on, denied_on, all_bound, compared, known, rename, rename_gen, norm, norm_if, operand_bound, signed_bound}
use Rattle.query_plan.proofs.PlansAt.{norm-Truth, norm-Cmp, norm-And, norm-Or, bound-Term, bound-Chain, bound-signed}
use Rattle.quant_norm.specs.Either.{either_of, any_left, any_from}
use Rattle.quant_norm.specs.Making.{one_gen}

abbrev pub End : Type 0
End = List Node × ℕ

abbrev pub EndAt : Type 0
EndAt = List Node × Place

abbrev pub EndWith : Type 0 → Type 0
EndWith A = List Node × Place × A

-- a list that a loop goes through
pub dropped : {A : Type 0} (xs : List A) (i : ℕ) (x : A) → i < length xs → x ≡ get_or xs i x → drop i xs ≡ x ∷ drop (i + 1) xs
dropped xs i x within is =
    let next : suc i ≡ i + 1 = omega arith in
    drop-cons xs i x within ∙ ap (λ y. y ∷ drop (suc i) xs) (sym is) ∙ ap (λ j. x ∷ drop j xs) next

-- Generators.

pub one_made : (g made : RGen) (at : Place) (vars : List ℕ) (nodes end : List Node) (more width k : ℕ) → more ≡ parts_added g → width ≡ at.width + more → vars ≡ at.vars ++ range_with_len (suc at.width) more → made ≡ rename_gen (known vars) g → ◌≡◌ {A = End} (added nodes (node.Gen at.node made)) (end, k)
    → ◌≡◌ {A = EndAt} (one_gen g at nodes) (end, record { node = k; width = width; vars = vars })
one_made g made at vars nodes end more width k e f h i j =
    let vs : vars_after at g ≡ vars = ap (λ n. at.vars ++ range_with_len (suc at.width) n) (sym e) ∙ sym h in
    let ws : at.width + parts_added g ≡ width = ap (λ n. at.width + n) (sym e) ∙ sym f in
    let same : gen_node at g ≡ node.Gen at.node made = ap (λ v. node.Gen at.node (rename_gen (known v) g)) vs ∙ ap (node.Gen at.node) (sym i) in
    ap {B = EndAt} (λ (z : End). (z.0, place_after at g z.1)) (ap (added nodes) same ∙ j)
    ∙ ap {B = EndAt} (λ (v : List ℕ). (end, record { node = k; width = at.width + parts_added g; vars = v })) vs
    ∙ ap {B = EndAt} (λ (n : ℕ). (end, record { node = k; width = n; vars = vars })) ws

pub gens_further : (start : EndAt) (gens : List RGen) (i : ℕ) (g : RGen) (at next : Place) (nodes more : List Node) → start ≡ gens_on (drop i gens) at nodes → i < length gens → g ≡ get_or gens i g → ◌≡◌ {A = EndAt} (one_gen g at nodes) (more, next)
    → start ≡ gens_on (drop (i + 1) gens) next more
gens_further start gens i g at next nodes more e within is f =
    e
    ∙ ap (λ gs. gens_on gs at nodes) (dropped gens i g within is)
    ∙ ap (λ (z : EndAt). gens_on (drop (i + 1) gens) z.1 z.0) f

pub gens_ended : (start : EndAt) (gens : List RGen) (i : ℕ) (at : Place) (nodes : List Node) → start ≡ gens_on (drop i gens) at nodes → length gens ≤ i → start ≡ (nodes, at)
gens_ended start gens i at nodes e past = e ∙ ap (λ gs. gens_on gs at nodes) (drop_of_length-le gens past)

-- Conditions.

pub truth_made : (whole : Cond) (t renamed : Term) (test : Cond) (at : Place) (nodes : List Node) (end : End) → whole ≡ cond.Truth t → renamed ≡ rename (known at.vars) t → test ≡ cond.Truth renamed → added nodes (node.Filter at.node test) ≡ end → norm whole at nodes ≡ end
truth_made whole t renamed test at nodes end form e f made = ap (λ z. norm z at nodes) form ∙ norm-Truth t at nodes ∙ ap (λ b. added nodes (node.Filter at.node b)) (ap cond.Truth (sym e) ∙ sym f) ∙ made

pub cmp_made : (whole : Cond) (op : CmpOp) (a b a_read b_read left right : Operand) (test : Cond) (at start middle last : Place) (nodes first second : List Node) (end : End) → whole ≡ cond.Cmp op a b → a_read ≡ a → b_read ≡ b → start ≡ at → ◌≡◌ {A = EndWith Operand} (operand_bound a_read start nodes) (first, middle, left)
    → ◌≡◌ {A = EndWith Operand} (operand_bound b_read middle first) (second, last, right) → test ≡ cond.Cmp op left right → compared at last test second ≡ end → norm whole at nodes ≡ end
cmp_made whole op a b a_read b_read left right test at start middle last nodes first second end form ra rb same e f g made =
    ap (λ z. norm z at nodes) (form ∙ ap (λ z. cond.Cmp op z b) (sym ra) ∙ ap (cond.Cmp op a_read) (sym rb))
    ∙ norm-Cmp op a_read b_read at nodes
    ∙ ap (λ (l : EndWith Operand). let r = operand_bound b_read l.1 l.0 in compared at r.1 (cond.Cmp op l.2 r.2) r.0) (ap (λ p. operand_bound a_read p nodes) (sym same) ∙ e)
    ∙ ap (λ (r : EndWith Operand). compared at r.1 (cond.Cmp op left r.2) r.0) f
    ∙ ap (λ t. compared at last t second) (sym g)
    ∙ made

pub and_made : (whole : Cond) (bs read : List Cond) (at : Place) (nodes : List Node) (end : End) → whole ≡ cond.And bs → read ≡ bs → all_on (map norm read) at nodes ≡ end → norm whole at nodes ≡ end
and_made whole bs read at nodes end form r made = ap (λ z. norm z at nodes) (form ∙ ap cond.And (sym r)) ∙ norm-And read at nodes ∙ made

pub or_made : (whole : Cond) (bs read : List Cond) (at : Place) (nodes : List Node) (end : End) → whole ≡ cond.Or bs → read ≡ bs → any_on (map norm read) at nodes ≡ end → norm whole at nodes ≡ end
or_made whole bs read at nodes end form r made = ap (λ z. norm z at nodes) (form ∙ ap cond.Or (sym r)) ∙ norm-Or read at nodes ∙ made

pub all_further : (start : End) (bs : List Cond) (i : ℕ) (b : Cond) (at : Place) (nodes more : List Node) (k : ℕ) → start ≡ all_on (map norm (drop i bs)) at nodes → i < length bs → b ≡ get_or bs i b → ◌≡◌ {A = End} (norm b at nodes) (more, k)
    → start ≡ all_on (map norm (drop (i + 1) bs)) (at_node at k) more
all_further start bs i b at nodes more k e within is f =
    e
    ∙ ap (λ cs. all_on (map norm cs) at nodes) (dropped bs i b within is)
    ∙ ap (λ (z : End). all_on (map norm (drop (i + 1) bs)) (at_node at z.1) z.0) f

pub all_ended : (start : End) (bs : List Cond) (i : ℕ) (at : Place) (nodes : List Node) → start ≡ all_on (map norm (drop i bs)) at nodes → length bs ≤ i → start ≡ (nodes, at.node)
all_ended start bs i at nodes e past = e ∙ ap (λ cs. all_on (map norm cs) at nodes) (drop_of_length-le bs past)

-- `or`, after what came so far
pub any_further : (start : End) (bs : List Cond) (i : ℕ) (b : Cond) (at : Place) (nodes first more : List Node) (left : Option ℕ) (right k : ℕ) → start ≡ any_from left (map norm (drop i bs)) at nodes → i < length bs → b ≡ get_or bs i b → ◌≡◌ {A = End} (norm b at nodes) (first, right)
    → ◌≡◌ {A = End} (either_of first left right) (more, k) → start ≡ any_from (Some k) (map norm (drop (i + 1) bs)) at more
any_further start bs i b at nodes first more None right k e within is f g =
    e
    ∙ ap (λ cs. any_on (map norm cs) at nodes) (dropped bs i b within is)
    ∙ ap (or_on (map norm (drop (i + 1) bs)) at) (f ∙ g)
any_further start bs i b at nodes first more (Some left) right k e within is f g =
    e
    ∙ ap (λ cs. or_on (map norm cs) at (nodes, left)) (dropped bs i b within is)
    ∙ ap (λ (z : End). or_on (map norm (drop (i + 1) bs)) at (added z.0 (node.Union left z.1))) f
    ∙ ap (or_on (map norm (drop (i + 1) bs)) at) g

pub any_ended : (start end : End) (bs : List Cond) (i : ℕ) (at : Place) (nodes : List Node) (left : Option ℕ) → start ≡ any_from left (map norm (drop i bs)) at nodes → length bs ≤ i → any_left nodes at.node left ≡ end → start ≡ end
any_ended start end bs i at nodes None e past made = e ∙ ap (λ cs. any_on (map norm cs) at nodes) (drop_of_length-le bs past) ∙ made
any_ended start end bs i at nodes (Some left) e past made = e ∙ ap (λ cs. or_on (map norm cs) at (nodes, left)) (drop_of_length-le bs past) ∙ made

pub test_none : (whole : Option Cond) (at : Place) (nodes : List Node) → whole ≡ None → ◌≡◌ {A = End} (test_on (norm_if whole) at nodes) (nodes, at.node)
test_none whole at nodes form = ap (λ z. test_on (norm_if z) at nodes) form

pub denied_none : (whole : Option Cond) (test : Cond) (at : Place) (nodes first : List Node) (k : ℕ) (end : End) → whole ≡ None → test ≡ cond.Truth (term.Const (kept.Bool true)) → ◌≡◌ {A = End} (added nodes (node.Filter at.node test)) (first, k) → added first (node.Anti at.node k) ≡ end → denied_on (norm_if whole) at nodes ≡ end
denied_none whole test at nodes first k end form e f made = ap (λ z. denied_on (norm_if z) at nodes) form ∙ ap (anti_on at) (ap (λ b. filter_on b at nodes) (sym e) ∙ f) ∙ made

-- Operands.

pub term_made : (whole : Operand) (t renamed : Term) (made : Operand) (at : Place) (nodes : List Node) → whole ≡ operand.Term t → renamed ≡ rename (known at.vars) t → made ≡ operand.Term renamed → ◌≡◌ {A = EndWith Operand} (operand_bound whole at nodes) (nodes, at, made)
term_made whole t renamed made at nodes form e f = ap (λ z. operand_bound z at nodes) form ∙ bound-Term t at nodes ∙ ap {B = EndWith Operand} (λ (o : Operand). (nodes, at, o)) (ap operand.Term (sym e) ∙ sym f)

pub chain_made : (whole a a_read left made : Operand) (bs bs_read others : List SignedOperand) (at middle last : Place) (nodes first second : List Node) → whole ≡ operand.Chain a bs → a_read ≡ a → bs_read ≡ bs → ◌≡◌ {A = EndWith Operand} (operand_bound a_read at nodes) (first, middle, left)
    → ◌≡◌ {A = EndWith (List SignedOperand)} (all_bound (map signed_bound bs_read) middle first) (second, last, others) → made ≡ operand.Chain left others → ◌≡◌ {A = EndWith Operand} (operand_bound whole at nodes) (second, last, made)
chain_made whole a a_read left made bs bs_read others at middle last nodes first second form ra rb e f g =
    ap (λ z. operand_bound z at nodes) (form ∙ ap (λ z. operand.Chain z bs) (sym ra) ∙ ap (operand.Chain a_read) (sym rb))
    ∙ bound-Chain a_read bs_read at nodes
    ∙ ap {B = EndWith Operand} (λ (l : EndWith Operand). let r = all_bound (map signed_bound bs_read) l.1 l.0 in (r.0, r.1, operand.Chain l.2 r.2)) e
    ∙ ap {B = EndWith Operand} (λ (r : EndWith (List SignedOperand)). (r.0, r.1, operand.Chain left r.2)) f
    ∙ ap {B = EndWith Operand} (λ (o : Operand). (second, last, o)) (sym g)

signed_made : (s : SignedOperand) (made : Operand) (at next : Place) (nodes more : List Node) → ◌≡◌ {A = EndWith Operand} (operand_bound (out-SignedOperand s).operand at nodes) (more, next, made)
    → ◌≡◌ {A = EndWith SignedOperand} (signed_bound s at nodes) (more, next, roll-SignedOperand (record { minus = (out-SignedOperand s).minus; operand = made }))
signed_made s made at next nodes more e =
    let v = out-SignedOperand s in
    ap (λ z. signed_bound z at nodes) (sym (roll-out-SignedOperand s))
    ∙ bound-signed v.minus v.operand at nodes
    ∙ ap {B = EndWith SignedOperand} (λ (z : EndWith Operand). (z.0, z.1, roll-SignedOperand (record { minus = v.minus; operand = z.2 }))) e

-- the operands that were bound, and then what the others become
abbrev pub with_bound : List SignedOperand → EndWith (List SignedOperand) → EndWith (List SignedOperand)
with_bound made rest = (rest.0, rest.1, made ++ rest.2)

pub signed_further : (start : EndWith (List SignedOperand)) (ss made longer : List SignedOperand) (i : ℕ) (s : SignedOperand) (read o : Operand) (at next : Place) (nodes more : List Node) → start ≡ with_bound made (all_bound (map signed_bound (drop i ss)) at nodes) → i < length ss → s ≡ get_or ss i s → read ≡ (out-SignedOperand s).operand
    → ◌≡◌ {A = EndWith Operand} (operand_bound read at nodes) (more, next, o) → longer ≡ made ++ roll-SignedOperand (record { minus = (out-SignedOperand s).minus; operand = o }) ∷ [] → start ≡ with_bound longer (all_bound (map signed_bound (drop (i + 1) ss)) next more)
signed_further start ss made longer i s read o at next nodes more e within is r f pushed =
    let bound : SignedOperand = roll-SignedOperand (record { minus = (out-SignedOperand s).minus; operand = o }) in
    let rest : EndWith (List SignedOperand) = all_bound (map signed_bound (drop (i + 1) ss)) next more in
    e
    ∙ ap (λ zs. with_bound made (all_bound (map signed_bound zs) at nodes)) (dropped ss i s within is)
    ∙ ap (λ (z : EndWith SignedOperand). let r = all_bound (map signed_bound (drop (i + 1) ss)) z.1 z.0 in with_bound made (r.0, r.1, z.2 ∷ r.2)) (signed_made s o at next nodes more (ap (λ z. operand_bound z at nodes) (sym r) ∙ f))
    ∙ ap {B = EndWith (List SignedOperand)} (λ (zs : List SignedOperand). (rest.0, rest.1, zs)) (sym (append_assoc made (bound ∷ []) rest.2))
    ∙ ap (λ zs. with_bound zs rest) (sym pushed)

pub signed_ended : (start : EndWith (List SignedOperand)) (ss made : List SignedOperand) (i : ℕ) (at : Place) (nodes : List Node) → start ≡ with_bound made (all_bound (map signed_bound (drop i ss)) at nodes) → length ss ≤ i → start ≡ (nodes, at, made)
signed_ended start ss made i at nodes e past =
    e
    ∙ ap (λ zs. with_bound made (all_bound (map signed_bound zs) at nodes)) (drop_of_length-le ss past)
    ∙ ap {B = EndWith (List SignedOperand)} (λ (zs : List SignedOperand). (nodes, at, zs)) (append-nil made)
