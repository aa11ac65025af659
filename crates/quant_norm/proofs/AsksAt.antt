-- How many numbered queries stand in a part of the text, one equation for each form.
use Rattle.std.specs.Prelude.{◌≡◌, ℕ, ◌+◌, Bool, List, Option, Some, None}
use Rattle.std.specs.List.{sum_by}
use Rattle.std.proofs.Common.{ap, sym, ◌∙◌}
use Rattle.std.proofs.lemmas.List.Sums.{sum-map}
use Rattle.da_values.specs.declared.value.Value.{Value}
use Rattle.da_lang.specs.declared.program.ChainPart.{ChainPart}
use Rattle.da_lang.specs.declared.program.RExpr.{RExpr, roll-RExpr}
use Rattle.da_lang.specs.declared.program.RExpr.TheFolds.{map-RExpr, fold-roll-RExpr, fold_out-ChainPart}
use Rattle.da_lang.specs.declared.program.RExpr.TheOpen.{RExpr-F}
use Rattle.da_lang.specs.declared.program.RExpr.TheVariants as re
use Rattle.da_lang.specs.declared.program.RExpr.TheViews.{out-ChainPart}
use Rattle.da_lang.specs.declared.query.Agg.{Agg}
use Rattle.da_lang.specs.declared.query.Cond.{Cond}
use Rattle.da_lang.specs.declared.query.Cond.TheFolds.{fold-roll-Cond, fold-roll-Operand, fold_out-SignedOperand}
use Rattle.da_lang.specs.declared.query.Cond.TheOpen.{Cond-F, Operand-F}
use Rattle.da_lang.specs.declared.query.Cond.TheVariants as cond
use Rattle.da_lang.specs.declared.query.Cond.TheViews.{out-SignedOperand}
use Rattle.da_lang.specs.declared.query.Operand.{Operand}
use Rattle.da_lang.specs.declared.query.Operand.TheVariants as operand
use Rattle.da_lang.specs.declared.query.RGen.{RGen}
use Rattle.da_lang.specs.declared.query.SignedOperand.{SignedOperand}
use Rattle.da_lang.specs.declared.query.Term.{Term}
use Rattle.da_lang.specs.declared.tree.CmpOp.{CmpOp}
use Rattle.query_plan.specs.Questions.{asks, asks_step, part_asks_step, cond_asks, cond_asks_step, operand_asks_step, agg_asks_step, signed_asks_step}
use Rattle.quant_norm.specs.Making.{part_asks, operand_asks, signed_asks}

-- Expressions.

layer : (x : RExpr-F RExpr ChainPart) → asks (roll-RExpr x) ≡ asks_step (map-RExpr RExpr ChainPart ℕ ℕ asks part_asks x)
layer x = fold-roll-RExpr ℕ ℕ asks_step part_asks_step x

pub asks-Const : (value : Value) → asks (re.Const value) ≡ 0
asks-Const value = ap asks (sym (re.rolls-Const value)) ∙ layer (RExpr-F.Const value)

pub asks-Procs : (processes : List ℕ) → asks (re.Procs processes) ≡ 0
asks-Procs processes = ap asks (sym (re.rolls-Procs processes)) ∙ layer (RExpr-F.Procs processes)

pub asks-Me : asks re.Me ≡ 0
asks-Me = ap asks (sym re.rolls-Me) ∙ layer RExpr-F.Me

pub asks-Slot : (slot : ℕ) → asks (re.Slot slot) ≡ 0
asks-Slot slot = ap asks (sym (re.rolls-Slot slot)) ∙ layer (RExpr-F.Slot slot)

pub asks-Clock : asks re.Clock ≡ 0
asks-Clock = ap asks (sym re.rolls-Clock) ∙ layer RExpr-F.Clock

pub asks-Ask : (n : ℕ) → asks (re.Ask n) ≡ 1
asks-Ask n = ap asks (sym (re.rolls-Ask n)) ∙ layer (RExpr-F.Ask n)

pub asks-Range : (x y : RExpr) → asks (re.Range x y) ≡ asks x + asks y
asks-Range x y = ap asks (sym (re.rolls-Range x y)) ∙ layer (RExpr-F.Range x y)

pub asks-Tuple : (xs : List RExpr) → asks (re.Tuple xs) ≡ sum_by asks xs
asks-Tuple xs = ap asks (sym (re.rolls-Tuple xs)) ∙ layer (RExpr-F.Tuple xs) ∙ sum-map asks xs

pub asks-SetOf : (xs : List RExpr) → asks (re.SetOf xs) ≡ sum_by asks xs
asks-SetOf xs = ap asks (sym (re.rolls-SetOf xs)) ∙ layer (RExpr-F.SetOf xs) ∙ sum-map asks xs

pub asks-Or : (xs : List RExpr) → asks (re.Or xs) ≡ sum_by asks xs
asks-Or xs = ap asks (sym (re.rolls-Or xs)) ∙ layer (RExpr-F.Or xs) ∙ sum-map asks xs

pub asks-And : (xs : List RExpr) → asks (re.And xs) ≡ sum_by asks xs
asks-And xs = ap asks (sym (re.rolls-And xs)) ∙ layer (RExpr-F.And xs) ∙ sum-map asks xs

pub asks-Not : (x : RExpr) → asks (re.Not x) ≡ asks x
asks-Not x = ap asks (sym (re.rolls-Not x)) ∙ layer (RExpr-F.Not x)

pub asks-Cmp : (op : CmpOp) (x y : RExpr) → asks (re.Cmp op x y) ≡ asks x + asks y
asks-Cmp op x y = ap asks (sym (re.rolls-Cmp op x y)) ∙ layer (RExpr-F.Cmp op x y)

pub asks-Member : (x y : RExpr) → asks (re.Member x y) ≡ asks x + asks y
asks-Member x y = ap asks (sym (re.rolls-Member x y)) ∙ layer (RExpr-F.Member x y)

pub asks-Chain : (x : RExpr) (more : List ChainPart) → asks (re.Chain x more) ≡ asks x + sum_by part_asks more
asks-Chain x more = ap asks (sym (re.rolls-Chain x more)) ∙ layer (RExpr-F.Chain x more) ∙ ap (λ n. asks x + n) (sum-map part_asks more)

pub part_asks-is : (part : ChainPart) → part_asks part ≡ asks (out-ChainPart part).operand
part_asks-is part = fold_out-ChainPart ℕ ℕ asks_step part_asks_step part

pub ruleset asking = (asks-Const, asks-Procs, asks-Me, asks-Slot, asks-Clock, asks-Ask, asks-Range, asks-Tuple, asks-SetOf, asks-Or, asks-And, asks-Not, asks-Cmp, asks-Member, asks-Chain)

-- Conditions.

pub cond_asks-Truth : (t : Term) → cond_asks (cond.Truth t) ≡ 0
cond_asks-Truth t = ap cond_asks (sym (cond.rolls-Truth t)) ∙ fold-roll-Cond ℕ ℕ ℕ ℕ cond_asks_step operand_asks_step agg_asks_step signed_asks_step (Cond-F.Truth t)

pub cond_asks-Cmp : (op : CmpOp) (a b : Operand) → cond_asks (cond.Cmp op a b) ≡ operand_asks a + operand_asks b
cond_asks-Cmp op a b = ap cond_asks (sym (cond.rolls-Cmp op a b)) ∙ fold-roll-Cond ℕ ℕ ℕ ℕ cond_asks_step operand_asks_step agg_asks_step signed_asks_step (Cond-F.Cmp op a b)

pub cond_asks-Not : (b : Cond) → cond_asks (cond.Not b) ≡ cond_asks b
cond_asks-Not b = ap cond_asks (sym (cond.rolls-Not b)) ∙ fold-roll-Cond ℕ ℕ ℕ ℕ cond_asks_step operand_asks_step agg_asks_step signed_asks_step (Cond-F.Not b)

pub cond_asks-And : (bs : List Cond) → cond_asks (cond.And bs) ≡ sum_by cond_asks bs
cond_asks-And bs = ap cond_asks (sym (cond.rolls-And bs)) ∙ fold-roll-Cond ℕ ℕ ℕ ℕ cond_asks_step operand_asks_step agg_asks_step signed_asks_step (Cond-F.And bs) ∙ sum-map cond_asks bs

pub cond_asks-Or : (bs : List Cond) → cond_asks (cond.Or bs) ≡ sum_by cond_asks bs
cond_asks-Or bs = ap cond_asks (sym (cond.rolls-Or bs)) ∙ fold-roll-Cond ℕ ℕ ℕ ℕ cond_asks_step operand_asks_step agg_asks_step signed_asks_step (Cond-F.Or bs) ∙ sum-map cond_asks bs

pub cond_asks-Quant : (each : Bool) (gens : List RGen) (b : Option Cond) → cond_asks (cond.Quant each gens b) ≡ 1
cond_asks-Quant each gens None = ap cond_asks (sym (cond.rolls-Quant each gens None)) ∙ fold-roll-Cond ℕ ℕ ℕ ℕ cond_asks_step operand_asks_step agg_asks_step signed_asks_step (Cond-F.Quant each gens None)
cond_asks-Quant each gens (Some b) = ap cond_asks (sym (cond.rolls-Quant each gens (Some b))) ∙ fold-roll-Cond ℕ ℕ ℕ ℕ cond_asks_step operand_asks_step agg_asks_step signed_asks_step (Cond-F.Quant each gens (Some b))

pub operand_asks-Term : (t : Term) → operand_asks (operand.Term t) ≡ 0
operand_asks-Term t = ap operand_asks (sym (operand.rolls-Term t)) ∙ fold-roll-Operand ℕ ℕ ℕ ℕ cond_asks_step operand_asks_step agg_asks_step signed_asks_step (Operand-F.Term t)

pub operand_asks-Agg : (a : Agg) → operand_asks (operand.Agg a) ≡ 1
operand_asks-Agg a = ap operand_asks (sym (operand.rolls-Agg a)) ∙ fold-roll-Operand ℕ ℕ ℕ ℕ cond_asks_step operand_asks_step agg_asks_step signed_asks_step (Operand-F.Agg a)

pub operand_asks-Chain : (a : Operand) (more : List SignedOperand) → operand_asks (operand.Chain a more) ≡ operand_asks a + sum_by signed_asks more
operand_asks-Chain a more =
    ap operand_asks (sym (operand.rolls-Chain a more))
    ∙ fold-roll-Operand ℕ ℕ ℕ ℕ cond_asks_step operand_asks_step agg_asks_step signed_asks_step (Operand-F.Chain a more)
    ∙ ap (λ n. operand_asks a + n) (sum-map signed_asks more)

pub signed_asks-is : (s : SignedOperand) → signed_asks s ≡ operand_asks (out-SignedOperand s).operand
signed_asks-is s = fold_out-SignedOperand ℕ ℕ ℕ ℕ cond_asks_step operand_asks_step agg_asks_step signed_asks_step s

pub ruleset cond_asking = (cond_asks-Truth, cond_asks-Cmp, cond_asks-Not, cond_asks-And, cond_asks-Or, cond_asks-Quant, operand_asks-Term, operand_asks-Agg, operand_asks-Chain)
