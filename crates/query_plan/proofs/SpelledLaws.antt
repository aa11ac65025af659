-- Nodes that are spelled alike are one.
use Rattle.std.specs.Prelude.{◌≡◌, ◌↔◌, ℕ, Bool, true, false, List, [], ◌∷◌, map, Option, Some, None, refl}
use Rattle.std.specs.List.{AllByRecursion}
use Rattle.std.specs.Ordering.{is_eq}
use Rattle.std.specs.declared.cmp.Ordering.{Ordering}
use Rattle.std.specs.declared.cmp.Ordering.TheVariants.{Less, Equal, Greater}
use Rattle.std.proofs.Common.{ap, sym, subst, ◌∙◌, arith}
use Rattle.std.proofs.lemmas.Bool.{false≢true}
use Rattle.std.proofs.lemmas.Cmp.{tied_itself}
use Rattle.da_values.specs.declared.val.Val.{Val}
use Rattle.da_values.specs.declared.val.Val.TheVariants as val
use Rattle.da_values.specs.Order.{val_cmp}
use Rattle.da_values.specs.Views.{parts_of, truth_of}
use Rattle.da_values.proofs.OrderLaws.{val_order, same_from_val_cmp}
use Rattle.da_values.proofs.ViewLaws.{parts_of-Tuple, truth_of-Bool}
use Rattle.da_lang.specs.declared.query.Agg.{Agg, out-Agg, roll-Agg, roll-out-Agg}
use Rattle.da_lang.specs.declared.query.AggOp.{AggOp}
use Rattle.da_lang.specs.declared.query.AggOp.TheVariants.{Count, Sum, Min, Max}
use Rattle.da_lang.specs.declared.query.Cond.{Cond, out-Cond, roll-Cond, roll-out-Cond}
use Rattle.da_lang.specs.declared.query.Cond.TheVariants as cond
use Rattle.da_lang.specs.declared.query.Cond.TheOpen.{Cond-F, Operand-F}
use Rattle.da_lang.specs.declared.query.Cond.TheFolds.{fold-Operand, fold-Agg, fold-SignedOperand, fold_out-Cond, fold_out-Operand, fold-roll-Agg, fold-roll-SignedOperand, map-Cond, map-Operand}
use Rattle.da_lang.specs.declared.query.LivePattern.{LivePattern}
use Rattle.da_lang.specs.declared.query.Node.{Node}
use Rattle.da_lang.specs.declared.query.Node.TheVariants as node
use Rattle.da_lang.specs.declared.query.Operand.{Operand, out-Operand, roll-Operand, roll-out-Operand}
use Rattle.da_lang.specs.declared.query.Operand.TheVariants as operand
use Rattle.da_lang.specs.declared.query.RGen.{RGen}
use Rattle.da_lang.specs.declared.query.SignedOperand.{SignedOperand, out-SignedOperand, roll-SignedOperand, roll-out-SignedOperand}
use Rattle.da_lang.specs.declared.query.Term.{Term}
use Rattle.da_lang.specs.declared.tree.CmpOp.{CmpOp}
use Rattle.da_lang.specs.declared.tree.CmpOp.TheVariants.{Eq, Ne, Lt, Le, Gt, Ge}
use Rattle.da_lang.specs.Live.{tagged, term_spelled}
use Rattle.da_lang.proofs.CondInduction.{Where, cond_induction}
use Rattle.da_lang.proofs.OnceLaws.{live_tells}
use Rattle.da_lang.proofs.SpelledLaws.{same_tag, same_rest, same_number, term_tells, Tells}
use Rattle.query_plan.specs.Spelled.{number, agg_op_number, cmp_op_number, option_spelled, other_spelled, three_parts, gen_spelled, gens_spelled, cond_spelled_step, operand_spelled_step, agg_spelled_step, signed_spelled_step, cond_spelled, node_spelled, same_node}

-- The parts of what is spelled.

tuples_tell : (xs ys : List Val) → val.Tuple xs ≡ val.Tuple ys → xs ≡ ys
tuples_tell xs ys e = sym (parts_of-Tuple xs) ∙ ap parts_of e ∙ parts_of-Tuple ys

numbers_tell : (m n : ℕ) → number m ≡ number n → m ≡ n
numbers_tell m n e = same_number m n (ap (λ z. z ∷ []) e)

truths_tell : (b c : Bool) → val.Bool b ≡ val.Bool c → b ≡ c
truths_tell b c e = sym (truth_of-Bool b) ∙ ap truth_of e ∙ truth_of-Bool c

first_same : {A : Type 0} (x y : A) (xs ys : List A) → x ∷ xs ≡ y ∷ ys → x ≡ y
first_same x y xs ys e = cc

rest_same : {A : Type 0} (x y : A) (xs ys : List A) → x ∷ xs ≡ y ∷ ys → xs ≡ ys
rest_same x y xs ys e = cc

nothing_is_no_list : {A : Type 0} (x : A) (xs : List A) → [] ≡ x ∷ xs → ⊥
nothing_is_no_list x xs e = absurd (cc)

lists_tell : {A : Type 0} (f : A → Val) (xs ys : List A) → AllByRecursion (Tells f) xs → map f xs ≡ map f ys → xs ≡ ys
lists_tell f [] [] each e = refl
lists_tell f [] (y ∷ ys) each e = absurd (nothing_is_no_list (f y) (map f ys) e)
lists_tell f (x ∷ xs) [] each e = absurd (nothing_is_no_list (f x) (map f xs) (sym e))
lists_tell f (x ∷ xs) (y ∷ ys) each e =
    ap (λ z. z ∷ xs) (each.0 y (first_same (f x) (f y) (map f xs) (map f ys) e))
    ∙ ap (λ zs. y ∷ zs) (lists_tell f xs ys each.1 (rest_same (f x) (f y) (map f xs) (map f ys) e))

cmp_ops_tell : (a b : CmpOp) → cmp_op_number a ≡ cmp_op_number b → a ≡ b
cmp_ops_tell Eq Eq e = refl
cmp_ops_tell Ne Ne e = refl
cmp_ops_tell Lt Lt e = refl
cmp_ops_tell Le Le e = refl
cmp_ops_tell Gt Gt e = refl
cmp_ops_tell Ge Ge e = refl
cmp_ops_tell _ _ e = absurd (omega (arith, e))

agg_ops_tell : (a b : AggOp) → agg_op_number a ≡ agg_op_number b → a ≡ b
agg_ops_tell Count Count e = refl
agg_ops_tell Sum Sum e = refl
agg_ops_tell Min Min e = refl
agg_ops_tell Max Max e = refl
agg_ops_tell _ _ e = absurd (omega (arith, e))

gen_tells : (g h : RGen) → gen_spelled g ≡ gen_spelled h → g ≡ h
gen_tells g h e = ap {B = RGen} (λ (p : LivePattern). record { source = p.source; message = p.message; peer = p.peer }) (live_tells (three_parts g) (three_parts h) e)

all_gens_tell : (gens : List RGen) → AllByRecursion (Tells gen_spelled) gens
all_gens_tell [] = tt
all_gens_tell (g ∷ gens) = (gen_tells g, all_gens_tell gens)

gens_tell : (gs hs : List RGen) → gens_spelled gs ≡ gens_spelled hs → gs ≡ hs
gens_tell gs hs e = lists_tell gen_spelled gs hs (all_gens_tell gs) (tuples_tell (map gen_spelled gs) (map gen_spelled hs) e)

options_tell : {A : Type 0} (f : A → Val) (a b : Option A) (spelled : Option A → Val) → spelled None ≡ option_spelled None → ((x : A) → spelled (Some x) ≡ option_spelled (Some (f x))) → Where (Tells f) a → spelled a ≡ spelled b → a ≡ b
options_tell f None None spelled none some each e = refl
options_tell f None (Some y) spelled none some each e = absurd (nothing_is_no_list (f y) [] (tuples_tell [] (f y ∷ []) (sym none ∙ e ∙ some y)))
options_tell f (Some x) None spelled none some each e = absurd (nothing_is_no_list (f x) [] (tuples_tell [] (f x ∷ []) (sym none ∙ sym e ∙ some x)))
options_tell f (Some x) (Some y) spelled none some each e = ap Some (each y (first_same (f x) (f y) [] [] (tuples_tell (f x ∷ []) (f y ∷ []) (sym (some x) ∙ e ∙ some y))))

where_term : (t : Option Term) → Where (Tells term_spelled) t
where_term None = tt
where_term (Some t) = term_tells t

others_tell : (s t : Option Term) → other_spelled s ≡ other_spelled t → s ≡ t
others_tell s t e = options_tell term_spelled s t other_spelled refl (λ x. refl) (where_term s) e

-- Conditions and operands, by one layer of each.

abbrev operand_spelled : Operand → Val
operand_spelled = fold-Operand Val Val Val Val cond_spelled_step operand_spelled_step agg_spelled_step signed_spelled_step

abbrev agg_spelled : Agg → Val
agg_spelled = fold-Agg Val Val Val Val cond_spelled_step operand_spelled_step agg_spelled_step signed_spelled_step

abbrev signed_spelled : SignedOperand → Val
signed_spelled = fold-SignedOperand Val Val Val Val cond_spelled_step operand_spelled_step agg_spelled_step signed_spelled_step

abbrev guard_spelled : Option Cond → Val
guard_spelled None = option_spelled None
guard_spelled (Some b) = option_spelled (Some (cond_spelled b))

guards_tell : (b c : Option Cond) → Where (Tells cond_spelled) b → guard_spelled b ≡ guard_spelled c → b ≡ c
guards_tell b c each e = options_tell cond_spelled b c guard_spelled refl (λ x. refl) each e

abbrev CondLayer : Type 0
CondLayer = Cond-F Cond Operand Agg SignedOperand

abbrev cond_tag : CondLayer → ℕ
cond_tag (Cond-F.Truth t) = 0
cond_tag (Cond-F.Cmp op a b) = 1
cond_tag (Cond-F.Not b) = 2
cond_tag (Cond-F.And bs) = 3
cond_tag (Cond-F.Or bs) = 4
cond_tag (Cond-F.Quant each gens b) = 5

abbrev cond_rest : CondLayer → List Val
cond_rest (Cond-F.Truth t) = term_spelled t ∷ []
cond_rest (Cond-F.Cmp op a b) = number (cmp_op_number op) ∷ operand_spelled a ∷ operand_spelled b ∷ []
cond_rest (Cond-F.Not b) = cond_spelled b ∷ []
cond_rest (Cond-F.And bs) = map cond_spelled bs
cond_rest (Cond-F.Or bs) = map cond_spelled bs
cond_rest (Cond-F.Quant each gens b) = val.Bool each ∷ gens_spelled gens ∷ guard_spelled b ∷ []

cond_layer : (y : CondLayer) → cond_spelled_step (map-Cond Cond Operand Agg SignedOperand Val Val Val Val cond_spelled operand_spelled agg_spelled signed_spelled y) ≡ tagged (cond_tag y) (cond_rest y)
cond_layer (Cond-F.Truth t) = refl
cond_layer (Cond-F.Cmp op a b) = refl
cond_layer (Cond-F.Not b) = refl
cond_layer (Cond-F.And bs) = refl
cond_layer (Cond-F.Or bs) = refl
cond_layer (Cond-F.Quant each gens None) = refl
cond_layer (Cond-F.Quant each gens (Some b)) = refl

cond_out : (b : Cond) → cond_spelled b ≡ tagged (cond_tag (out-Cond b)) (cond_rest (out-Cond b))
cond_out b = fold_out-Cond Val Val Val Val cond_spelled_step operand_spelled_step agg_spelled_step signed_spelled_step b ∙ cond_layer (out-Cond b)

abbrev CondParts : CondLayer → Type 0
CondParts (Cond-F.Truth t) = Unit {0}
CondParts (Cond-F.Cmp op a b) = Tells operand_spelled a × Tells operand_spelled b
CondParts (Cond-F.Not b) = Tells cond_spelled b
CondParts (Cond-F.And bs) = AllByRecursion (Tells cond_spelled) bs
CondParts (Cond-F.Or bs) = AllByRecursion (Tells cond_spelled) bs
CondParts (Cond-F.Quant each gens b) = Where (Tells cond_spelled) b

same_cmp : (op other : CmpOp) (a b x y : Operand) → op ≡ other → a ≡ x → b ≡ y → ◌≡◌ {A = CondLayer} (Cond-F.Cmp op a b) (Cond-F.Cmp other x y)
same_cmp op other a b x y e f g = cc

same_quant : (each other : Bool) (gs hs : List RGen) (b c : Option Cond) → each ≡ other → gs ≡ hs → b ≡ c → ◌≡◌ {A = CondLayer} (Cond-F.Quant each gs b) (Cond-F.Quant other hs c)
same_quant each other gs hs b c e f g = cc

same_conds : (x y : CondLayer) → CondParts x → cond_tag x ≡ cond_tag y → cond_rest x ≡ cond_rest y → x ≡ y
same_conds (Cond-F.Truth s) (Cond-F.Truth t) parts tags rest = ap (λ z. Cond-F.Truth z) (term_tells s t (first_same _ _ _ _ rest))
same_conds (Cond-F.Cmp op a b) (Cond-F.Cmp other x y) parts tags rest =
    let more = rest_same _ _ _ _ rest in
    same_cmp op other a b x y (cmp_ops_tell op other (numbers_tell _ _ (first_same _ _ _ _ rest))) (parts.0 x (first_same _ _ _ _ more)) (parts.1 y (first_same _ _ _ _ (rest_same _ _ _ _ more)))
same_conds (Cond-F.Not b) (Cond-F.Not c) parts tags rest = ap (λ z. Cond-F.Not z) (parts c (first_same _ _ _ _ rest))
same_conds (Cond-F.And bs) (Cond-F.And cs) parts tags rest = ap (λ z. Cond-F.And z) (lists_tell cond_spelled bs cs parts rest)
same_conds (Cond-F.Or bs) (Cond-F.Or cs) parts tags rest = ap (λ z. Cond-F.Or z) (lists_tell cond_spelled bs cs parts rest)
same_conds (Cond-F.Quant each gs b) (Cond-F.Quant other hs c) parts tags rest =
    let more = rest_same _ _ _ _ rest in
    same_quant each other gs hs b c (truths_tell each other (first_same _ _ _ _ rest)) (gens_tell gs hs (first_same _ _ _ _ more)) (guards_tell b c parts (first_same _ _ _ _ (rest_same _ _ _ _ more)))
same_conds _ _ parts tags rest = absurd (omega (arith, tags))

by_cond : (b : Cond) → CondParts (out-Cond b) → Tells cond_spelled b
by_cond b parts c e =
    let both : tagged (cond_tag (out-Cond b)) (cond_rest (out-Cond b)) ≡ tagged (cond_tag (out-Cond c)) (cond_rest (out-Cond c)) = sym (cond_out b) ∙ e ∙ cond_out c in
    sym (roll-out-Cond b) ∙ ap roll-Cond (same_conds (out-Cond b) (out-Cond c) parts (same_tag _ _ _ _ both) (same_rest _ _ _ _ both)) ∙ roll-out-Cond c

abbrev OperandLayer : Type 0
OperandLayer = Operand-F Cond Operand Agg SignedOperand

abbrev operand_tag : OperandLayer → ℕ
operand_tag (Operand-F.Term t) = 0
operand_tag (Operand-F.Agg a) = 1
operand_tag (Operand-F.Chain a more) = 2

abbrev operand_rest : OperandLayer → List Val
operand_rest (Operand-F.Term t) = term_spelled t ∷ []
operand_rest (Operand-F.Agg a) = agg_spelled a ∷ []
operand_rest (Operand-F.Chain a more) = operand_spelled a ∷ map signed_spelled more

operand_layer : (y : OperandLayer) → operand_spelled_step (map-Operand Cond Operand Agg SignedOperand Val Val Val Val cond_spelled operand_spelled agg_spelled signed_spelled y) ≡ tagged (operand_tag y) (operand_rest y)
operand_layer (Operand-F.Term t) = refl
operand_layer (Operand-F.Agg a) = refl
operand_layer (Operand-F.Chain a more) = refl

operand_out : (a : Operand) → operand_spelled a ≡ tagged (operand_tag (out-Operand a)) (operand_rest (out-Operand a))
operand_out a = fold_out-Operand Val Val Val Val cond_spelled_step operand_spelled_step agg_spelled_step signed_spelled_step a ∙ operand_layer (out-Operand a)

abbrev OperandParts : OperandLayer → Type 0
OperandParts (Operand-F.Term t) = Unit {0}
OperandParts (Operand-F.Agg a) = Tells agg_spelled a
OperandParts (Operand-F.Chain a more) = Tells operand_spelled a × AllByRecursion (Tells signed_spelled) more

same_chain : (a b : Operand) (ss ts : List SignedOperand) → a ≡ b → ss ≡ ts → ◌≡◌ {A = OperandLayer} (Operand-F.Chain a ss) (Operand-F.Chain b ts)
same_chain a b ss ts e f = cc

same_operands : (x y : OperandLayer) → OperandParts x → operand_tag x ≡ operand_tag y → operand_rest x ≡ operand_rest y → x ≡ y
same_operands (Operand-F.Term s) (Operand-F.Term t) parts tags rest = ap (λ z. Operand-F.Term z) (term_tells s t (first_same _ _ _ _ rest))
same_operands (Operand-F.Agg a) (Operand-F.Agg b) parts tags rest = ap (λ z. Operand-F.Agg z) (parts b (first_same _ _ _ _ rest))
same_operands (Operand-F.Chain a ss) (Operand-F.Chain b ts) parts tags rest = same_chain a b ss ts (parts.0 b (first_same _ _ _ _ rest)) (lists_tell signed_spelled ss ts parts.1 (rest_same _ _ _ _ rest))
same_operands _ _ parts tags rest = absurd (omega (arith, tags))

by_operand : (a : Operand) → OperandParts (out-Operand a) → Tells operand_spelled a
by_operand a parts b e =
    let both : tagged (operand_tag (out-Operand a)) (operand_rest (out-Operand a)) ≡ tagged (operand_tag (out-Operand b)) (operand_rest (out-Operand b)) = sym (operand_out a) ∙ e ∙ operand_out b in
    sym (roll-out-Operand a) ∙ ap roll-Operand (same_operands (out-Operand a) (out-Operand b) parts (same_tag _ _ _ _ both) (same_rest _ _ _ _ both)) ∙ roll-out-Operand b

abbrev agg_rest : AggOp → List RGen → Option Cond → Term → Option Term → List Val
agg_rest op gens b t other = number (agg_op_number op) ∷ gens_spelled gens ∷ guard_spelled b ∷ term_spelled t ∷ other_spelled other ∷ []

agg_at : (op : AggOp) (gens : List RGen) (b : Option Cond) (t : Term) (other : Option Term) → agg_spelled (roll-Agg (record { op = op; gens = gens; cond = b; term = t; other = other })) ≡ val.Tuple (agg_rest op gens b t other)
agg_at op gens None t other = fold-roll-Agg Val Val Val Val cond_spelled_step operand_spelled_step agg_spelled_step signed_spelled_step (record { op = op; gens = gens; cond = None; term = t; other = other })
agg_at op gens (Some b) t other = fold-roll-Agg Val Val Val Val cond_spelled_step operand_spelled_step agg_spelled_step signed_spelled_step (record { op = op; gens = gens; cond = Some b; term = t; other = other })

same_agg : (op op' : AggOp) (gens gens' : List RGen) (b b' : Option Cond) (t t' : Term) (other other' : Option Term) → op ≡ op' → gens ≡ gens' → b ≡ b' → t ≡ t' → other ≡ other'
    → roll-Agg (record { op = op; gens = gens; cond = b; term = t; other = other }) ≡ roll-Agg (record { op = op'; gens = gens'; cond = b'; term = t'; other = other' })
same_agg op op' gens gens' b b' t t' other other' one two three four five = cc

agg_case : (op : AggOp) (gens : List RGen) (b : Option Cond) (t : Term) (other : Option Term) → Where (Tells cond_spelled) b → Tells agg_spelled (roll-Agg (record { op = op; gens = gens; cond = b; term = t; other = other }))
agg_case op gens b t other part y e =
    let z = out-Agg y in
    let whole : val.Tuple (agg_rest op gens b t other) ≡ val.Tuple (agg_rest z.op z.gens z.cond z.term z.other) = sym (agg_at op gens b t other) ∙ e ∙ ap agg_spelled (sym (roll-out-Agg y)) ∙ agg_at z.op z.gens z.cond z.term z.other in
    let first = tuples_tell (agg_rest op gens b t other) (agg_rest z.op z.gens z.cond z.term z.other) whole in
    let second = rest_same _ _ _ _ first in
    let third = rest_same _ _ _ _ second in
    let fourth = rest_same _ _ _ _ third in
    same_agg op z.op gens z.gens b z.cond t z.term other z.other
    (agg_ops_tell op z.op (numbers_tell _ _ (first_same _ _ _ _ first)))
    (gens_tell gens z.gens (first_same _ _ _ _ second))
    (guards_tell b z.cond part (first_same _ _ _ _ third))
    (term_tells t z.term (first_same _ _ _ _ fourth))
    (others_tell other z.other (first_same _ _ _ _ (rest_same _ _ _ _ fourth)))
    ∙ roll-out-Agg y

signed_at : (minus : Bool) (a : Operand) → signed_spelled (roll-SignedOperand (record { minus = minus; operand = a })) ≡ val.Tuple (val.Bool minus ∷ operand_spelled a ∷ [])
signed_at minus a = fold-roll-SignedOperand Val Val Val Val cond_spelled_step operand_spelled_step agg_spelled_step signed_spelled_step (record { minus = minus; operand = a })

same_signed : (minus minus' : Bool) (a a' : Operand) → minus ≡ minus' → a ≡ a' → roll-SignedOperand (record { minus = minus; operand = a }) ≡ roll-SignedOperand (record { minus = minus'; operand = a' })
same_signed minus minus' a a' e f = cc

signed_case : (minus : Bool) (a : Operand) → Tells operand_spelled a → Tells signed_spelled (roll-SignedOperand (record { minus = minus; operand = a }))
signed_case minus a part y e =
    let z = out-SignedOperand y in
    let both = tuples_tell (val.Bool minus ∷ operand_spelled a ∷ []) (val.Bool z.minus ∷ operand_spelled z.operand ∷ []) (sym (signed_at minus a) ∙ e ∙ ap signed_spelled (sym (roll-out-SignedOperand y)) ∙ signed_at z.minus z.operand) in
    same_signed minus z.minus a z.operand (truths_tell minus z.minus (first_same _ _ _ _ both)) (part z.operand (first_same _ _ _ _ (rest_same _ _ _ _ both)))
    ∙ roll-out-SignedOperand y

pub cond_tells : (b c : Cond) → cond_spelled b ≡ cond_spelled c → b ≡ c
cond_tells = cond_induction (record {
  Of_cond = Tells cond_spelled;
  Of_operand = Tells operand_spelled;
  Of_agg = Tells agg_spelled;
  Of_signed = Tells signed_spelled;
  truth = λ t. by_cond (cond.Truth t) (rw (cond.outs-Truth t) tt);
  cmp = λ op a b one two. by_cond (cond.Cmp op a b) (rw (cond.outs-Cmp op a b) (one, two));
  negation = λ b one. by_cond (cond.Not b) (rw (cond.outs-Not b) one);
  conjunction = λ bs each. by_cond (cond.And bs) (rw (cond.outs-And bs) each);
  disjunction = λ bs each. by_cond (cond.Or bs) (rw (cond.outs-Or bs) each);
  quant = λ each gens b one. by_cond (cond.Quant each gens b) (rw (cond.outs-Quant each gens b) one);
  term = λ t. by_operand (operand.Term t) (rw (operand.outs-Term t) tt);
  agg = λ a one. by_operand (operand.Agg a) (rw (operand.outs-Agg a) one);
  chain = λ a more one each. by_operand (operand.Chain a more) (rw (operand.outs-Chain a more) (one, each));
  over = agg_case;
  signed = signed_case;
})

-- Nodes.

abbrev node_tag : Node → ℕ
node_tag node.Root = 0
node_tag (node.Gen p g) = 1
node_tag (node.Filter p b) = 2
node_tag (node.Semi p c) = 3
node_tag (node.Anti p c) = 4
node_tag (node.Union a b) = 5
node_tag (node.AggBind p c op t other) = 6

abbrev node_rest : Node → List Val
node_rest node.Root = []
node_rest (node.Gen p g) = number p ∷ gen_spelled g ∷ []
node_rest (node.Filter p b) = number p ∷ cond_spelled b ∷ []
node_rest (node.Semi p c) = number p ∷ number c ∷ []
node_rest (node.Anti p c) = number p ∷ number c ∷ []
node_rest (node.Union a b) = number a ∷ number b ∷ []
node_rest (node.AggBind p c op t other) = number p ∷ number c ∷ number (agg_op_number op) ∷ term_spelled t ∷ other_spelled other ∷ []

node_at : (n : Node) → node_spelled n ≡ tagged (node_tag n) (node_rest n)
node_at node.Root = refl
node_at (node.Gen p g) = refl
node_at (node.Filter p b) = refl
node_at (node.Semi p c) = refl
node_at (node.Anti p c) = refl
node_at (node.Union a b) = refl
node_at (node.AggBind p c op t other) = refl

two_numbers : (p q : ℕ) (xs ys : List Val) → number p ∷ xs ≡ number q ∷ ys → p ≡ q
two_numbers p q xs ys e = numbers_tell p q (first_same (number p) (number q) xs ys e)

same_bind : (p p' c c' : ℕ) (op op' : AggOp) (t t' : Term) (other other' : Option Term) → p ≡ p' → c ≡ c' → op ≡ op' → t ≡ t' → other ≡ other' → node.AggBind p c op t other ≡ node.AggBind p' c' op' t' other'
same_bind p p' c c' op op' t t' other other' one two three four five = cc

pair_same : (make : ℕ → ℕ → Node) (p q c d : ℕ) → number p ∷ number c ∷ [] ≡ number q ∷ number d ∷ [] → make p c ≡ make q d
pair_same make p q c d e =
    ap (λ z. make z c) (two_numbers p q _ _ e) ∙ ap (make q) (two_numbers c d _ _ (rest_same _ _ _ _ e))

same_nodes : (a b : Node) → node_tag a ≡ node_tag b → node_rest a ≡ node_rest b → a ≡ b
same_nodes node.Root node.Root tags rest = refl
same_nodes (node.Gen p g) (node.Gen q h) tags rest =
    ap (λ z. node.Gen z g) (two_numbers p q _ _ rest) ∙ ap (node.Gen q) (gen_tells g h (first_same _ _ _ _ (rest_same _ _ _ _ rest)))
same_nodes (node.Filter p b) (node.Filter q c) tags rest =
    ap (λ z. node.Filter z b) (two_numbers p q _ _ rest) ∙ ap (node.Filter q) (cond_tells b c (first_same _ _ _ _ (rest_same _ _ _ _ rest)))
same_nodes (node.Semi p c) (node.Semi q d) tags rest = pair_same node.Semi p q c d rest
same_nodes (node.Anti p c) (node.Anti q d) tags rest = pair_same node.Anti p q c d rest
same_nodes (node.Union p c) (node.Union q d) tags rest = pair_same node.Union p q c d rest
same_nodes (node.AggBind p c op s one) (node.AggBind q d op' t two) tags rest =
    let second = rest_same _ _ _ _ rest in
    let third = rest_same _ _ _ _ second in
    let fourth = rest_same _ _ _ _ third in
    same_bind p q c d op op' s t one two (two_numbers p q _ _ rest) (two_numbers c d _ _ second) (agg_ops_tell op op' (two_numbers _ _ _ _ third)) (term_tells s t (first_same _ _ _ _ fourth)) (others_tell one two (first_same _ _ _ _ (rest_same _ _ _ _ fourth)))
same_nodes _ _ tags rest = absurd (omega (arith, tags))

pub node_tells : (a b : Node) → node_spelled a ≡ node_spelled b → a ≡ b
node_tells a b e =
    let both : tagged (node_tag a) (node_rest a) ≡ tagged (node_tag b) (node_rest b) = sym (node_at a) ∙ e ∙ node_at b in
    same_nodes a b (same_tag _ _ _ _ both) (same_rest _ _ _ _ both)

-- The test.

equal_from_test : (o : Ordering) → is_eq o ≡ true → o ≡ Equal
equal_from_test Less e = absurd (false≢true e)
equal_from_test Equal e = refl
equal_from_test Greater e = absurd (false≢true e)

pub one_from_test : (a b : Node) → same_node a b ≡ true → a ≡ b
one_from_test a b e = node_tells a b (same_from_val_cmp (node_spelled a) (node_spelled b) (equal_from_test (val_cmp (node_spelled a) (node_spelled b)) e))

pub same_node-itself : (n : Node) → same_node n n ≡ true
same_node-itself n = ap is_eq (tied_itself val_order (node_spelled n))

-- a test that is true exactly of equal nodes is this one
pub test_is : (a b : Node) (test : Bool) → (test ≡ true) ↔ (a ≡ b) → test ≡ same_node a b
test_is a b test decides = go test (same_node a b) refl decides
  where
    go : (answer same : Bool) → same_node a b ≡ same → (answer ≡ true) ↔ (a ≡ b) → answer ≡ same
    go true true e iff = refl
    go true false e iff = absurd (false≢true (sym e ∙ subst (λ z. same_node a z ≡ true) (iff.0 refl) (same_node-itself a)))
    go false true e iff = iff.1 (one_from_test a b e)
    go false false e iff = refl
