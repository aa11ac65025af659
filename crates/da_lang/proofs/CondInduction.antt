-- What holds of a condition, operand or aggregate where it holds of its parts holds of every one.
use Rattle.std.specs.Prelude.{Bool, List, Option, Some, None}
use Rattle.std.specs.List.{AllByRecursion}
use Rattle.std.proofs.Common.{subst, sym}
use Rattle.da_lang.specs.declared.query.Agg.{Agg, roll-Agg}
use Rattle.da_lang.specs.declared.query.AggOp.{AggOp}
use Rattle.da_lang.specs.declared.query.Cond.{Cond, roll-Cond}
use Rattle.da_lang.specs.declared.query.Cond.TheVariants as cond
use Rattle.da_lang.specs.declared.query.Cond.TheOpen.{Cond-F, Operand-F, Agg-F, SignedOperand-F}
use Rattle.da_lang.specs.declared.query.Cond.TheFolds.{ind-Cond, ind-Agg, map-Cond, map-Operand, map-Agg, map-SignedOperand}
use Rattle.da_lang.specs.declared.query.Operand.{Operand, roll-Operand}
use Rattle.da_lang.specs.declared.query.Operand.TheVariants as operand
use Rattle.da_lang.specs.declared.query.RGen.{RGen}
use Rattle.da_lang.specs.declared.query.SignedOperand.{SignedOperand, roll-SignedOperand}
use Rattle.da_lang.specs.declared.query.Term.{Term}
use Rattle.da_lang.specs.declared.tree.CmpOp.{CmpOp}
use Rattle.da_lang.proofs.TermInduction.{bare, all_of-bare}

-- where there is one, P holds of it
abbrev pub Where : {A : Type 0} → (A → Type 0) → Option A → Type 0
Where P None = Unit {0}
Where P (Some x) = P x

-- what is to be shown of each kind, and its cases
pub record Cases : Type 1 where
  pub Of_cond : Cond → Type 0
  pub Of_operand : Operand → Type 0
  pub Of_agg : Agg → Type 0
  pub Of_signed : SignedOperand → Type 0
  pub truth : (t : Term) → Of_cond (cond.Truth t)
  pub cmp : (op : CmpOp) (a b : Operand) → Of_operand a → Of_operand b → Of_cond (cond.Cmp op a b)
  pub negation : (b : Cond) → Of_cond b → Of_cond (cond.Not b)
  pub conjunction : (bs : List Cond) → AllByRecursion Of_cond bs → Of_cond (cond.And bs)
  pub disjunction : (bs : List Cond) → AllByRecursion Of_cond bs → Of_cond (cond.Or bs)
  pub quant : (each : Bool) (gens : List RGen) (b : Option Cond) → Where Of_cond b → Of_cond (cond.Quant each gens b)
  pub term : (t : Term) → Of_operand (operand.Term t)
  pub agg : (a : Agg) → Of_agg a → Of_operand (operand.Agg a)
  pub chain : (a : Operand) (more : List SignedOperand) → Of_operand a → AllByRecursion Of_signed more → Of_operand (operand.Chain a more)
  pub over : (op : AggOp) (gens : List RGen) (b : Option Cond) (t : Term) (other : Option Term) → Where Of_cond b → Of_agg (roll-Agg (record { op = op; gens = gens; cond = b; term = t; other = other }))
  pub signed : (minus : Bool) (a : Operand) → Of_operand a → Of_signed (roll-SignedOperand (record { minus = minus; operand = a }))

module _ (c : Cases) where
  abbrev AtCond : Type 0
  AtCond = (x : Cond) × c.Of_cond x

  abbrev AtOperand : Type 0
  AtOperand = (x : Operand) × c.Of_operand x

  abbrev AtAgg : Type 0
  AtAgg = (x : Agg) × c.Of_agg x

  abbrev AtSigned : Type 0
  AtSigned = (x : SignedOperand) × c.Of_signed x

  cond_case : (y : Cond-F AtCond AtOperand AtAgg AtSigned) → c.Of_cond (roll-Cond (map-Cond AtCond AtOperand AtAgg AtSigned Cond Operand Agg SignedOperand (λ e. e.0) (λ e. e.0) (λ e. e.0) (λ e. e.0) y))
  cond_case (Cond-F.Truth t) = subst c.Of_cond (sym (cond.rolls-Truth t)) (c.truth t)
  cond_case (Cond-F.Cmp op a b) = subst c.Of_cond (sym (cond.rolls-Cmp op a.0 b.0)) (c.cmp op a.0 b.0 a.1 b.1)
  cond_case (Cond-F.Not b) = subst c.Of_cond (sym (cond.rolls-Not b.0)) (c.negation b.0 b.1)
  cond_case (Cond-F.And bs) = subst c.Of_cond (sym (cond.rolls-And (bare bs))) (c.conjunction (bare bs) (all_of-bare c.Of_cond bs))
  cond_case (Cond-F.Or bs) = subst c.Of_cond (sym (cond.rolls-Or (bare bs))) (c.disjunction (bare bs) (all_of-bare c.Of_cond bs))
  cond_case (Cond-F.Quant each gens None) = subst c.Of_cond (sym (cond.rolls-Quant each gens None)) (c.quant each gens None tt)
  cond_case (Cond-F.Quant each gens (Some b)) = subst c.Of_cond (sym (cond.rolls-Quant each gens (Some b.0))) (c.quant each gens (Some b.0) b.1)

  operand_case : (y : Operand-F AtCond AtOperand AtAgg AtSigned) → c.Of_operand (roll-Operand (map-Operand AtCond AtOperand AtAgg AtSigned Cond Operand Agg SignedOperand (λ e. e.0) (λ e. e.0) (λ e. e.0) (λ e. e.0) y))
  operand_case (Operand-F.Term t) = subst c.Of_operand (sym (operand.rolls-Term t)) (c.term t)
  operand_case (Operand-F.Agg a) = subst c.Of_operand (sym (operand.rolls-Agg a.0)) (c.agg a.0 a.1)
  operand_case (Operand-F.Chain a more) = subst c.Of_operand (sym (operand.rolls-Chain a.0 (bare more))) (c.chain a.0 (bare more) a.1 (all_of-bare c.Of_signed more))

  over_case : (op : AggOp) (gens : List RGen) (b : Option AtCond) (t : Term) (other : Option Term) → c.Of_agg (roll-Agg (map-Agg AtCond AtOperand AtAgg AtSigned Cond Operand Agg SignedOperand (λ e. e.0) (λ e. e.0) (λ e. e.0) (λ e. e.0) (record { op = op; gens = gens; cond = b; term = t; other = other })))
  over_case op gens None t other = c.over op gens None t other tt
  over_case op gens (Some b) t other = c.over op gens (Some b.0) t other b.1

  agg_case : (y : Agg-F AtCond AtOperand AtAgg AtSigned) → c.Of_agg (roll-Agg (map-Agg AtCond AtOperand AtAgg AtSigned Cond Operand Agg SignedOperand (λ e. e.0) (λ e. e.0) (λ e. e.0) (λ e. e.0) y))
  agg_case y = over_case y.op y.gens y.cond y.term y.other

  signed_case : (y : SignedOperand-F AtCond AtOperand AtAgg AtSigned) → c.Of_signed (roll-SignedOperand (map-SignedOperand AtCond AtOperand AtAgg AtSigned Cond Operand Agg SignedOperand (λ e. e.0) (λ e. e.0) (λ e. e.0) (λ e. e.0) y))
  signed_case y = c.signed y.minus y.operand.0 y.operand.1

  pub cond_induction : (x : Cond) → c.Of_cond x
  cond_induction = ind-Cond c.Of_cond c.Of_operand c.Of_agg c.Of_signed (λ x y is. subst (λ z. c.Of_cond (roll-Cond z)) is (cond_case y)) (λ x y is. subst (λ z. c.Of_operand (roll-Operand z)) is (operand_case y)) (λ x y is. subst (λ z. c.Of_agg (roll-Agg z)) is (agg_case y)) (λ x y is. subst (λ z. c.Of_signed (roll-SignedOperand z)) is (signed_case y))

  pub agg_induction : (x : Agg) → c.Of_agg x
  agg_induction = ind-Agg c.Of_cond c.Of_operand c.Of_agg c.Of_signed (λ x y is. subst (λ z. c.Of_cond (roll-Cond z)) is (cond_case y)) (λ x y is. subst (λ z. c.Of_operand (roll-Operand z)) is (operand_case y)) (λ x y is. subst (λ z. c.Of_agg (roll-Agg z)) is (agg_case y)) (λ x y is. subst (λ z. c.Of_signed (roll-SignedOperand z)) is (signed_case y))
