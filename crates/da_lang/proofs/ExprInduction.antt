-- What holds of an expression where it holds of its parts holds of every one.
use Rattle.std.specs.Prelude.{ℕ, List, [], ◌∷◌}
use Rattle.std.specs.List.{AllByRecursion}
use Rattle.std.proofs.Common.{subst, sym}
use Rattle.da_values.specs.declared.value.Value.{Value}
use Rattle.da_lang.specs.declared.program.ChainPart.{ChainPart, roll-ChainPart}
use Rattle.da_lang.specs.declared.program.RExpr.{RExpr, roll-RExpr}
use Rattle.da_lang.specs.declared.program.RExpr.TheVariants as ex
use Rattle.da_lang.specs.declared.program.RExpr.TheOpen.{RExpr-F, ChainPart-F}
use Rattle.da_lang.specs.declared.program.RExpr.TheFolds.{ind-RExpr, map-RExpr, map-ChainPart}
use Rattle.da_lang.specs.declared.tree.ArithOp.{ArithOp}
use Rattle.da_lang.specs.declared.tree.CmpOp.{CmpOp}
use Rattle.da_lang.proofs.TermInduction.{bare, all_of-bare}

-- what is to be shown of expressions and of the further parts of a chain, and its cases
pub record Cases : Type 1 where
  pub Of_expr : RExpr → Type 0
  pub Of_part : ChainPart → Type 0
  pub constant : (v : Value) → Of_expr (ex.Const v)
  pub processes : (ps : List ℕ) → Of_expr (ex.Procs ps)
  pub itself : Of_expr ex.Me
  pub slot : (s : ℕ) → Of_expr (ex.Slot s)
  pub clock : Of_expr ex.Clock
  pub question : (n : ℕ) → Of_expr (ex.Ask n)
  pub range : (a b : RExpr) → Of_expr a → Of_expr b → Of_expr (ex.Range a b)
  pub tuple : (es : List RExpr) → AllByRecursion Of_expr es → Of_expr (ex.Tuple es)
  pub set_of : (es : List RExpr) → AllByRecursion Of_expr es → Of_expr (ex.SetOf es)
  pub disjunction : (es : List RExpr) → AllByRecursion Of_expr es → Of_expr (ex.Or es)
  pub conjunction : (es : List RExpr) → AllByRecursion Of_expr es → Of_expr (ex.And es)
  pub negation : (e : RExpr) → Of_expr e → Of_expr (ex.Not e)
  pub comparison : (op : CmpOp) (a b : RExpr) → Of_expr a → Of_expr b → Of_expr (ex.Cmp op a b)
  pub membership : (a b : RExpr) → Of_expr a → Of_expr b → Of_expr (ex.Member a b)
  pub chain : (a : RExpr) (more : List ChainPart) → Of_expr a → AllByRecursion Of_part more → Of_expr (ex.Chain a more)
  pub part : (op : ArithOp) (e : RExpr) → Of_expr e → Of_part (roll-ChainPart (record { op = op; operand = e }))

module _ (c : Cases) where
  abbrev AtExpr : Type 0
  AtExpr = (x : RExpr) × c.Of_expr x

  abbrev AtPart : Type 0
  AtPart = (x : ChainPart) × c.Of_part x

  expr_case : (y : RExpr-F AtExpr AtPart) → c.Of_expr (roll-RExpr (map-RExpr AtExpr AtPart RExpr ChainPart (λ e. e.0) (λ e. e.0) y))
  expr_case (RExpr-F.Const v) = subst c.Of_expr (sym (ex.rolls-Const v)) (c.constant v)
  expr_case (RExpr-F.Procs ps) = subst c.Of_expr (sym (ex.rolls-Procs ps)) (c.processes ps)
  expr_case RExpr-F.Me = subst c.Of_expr (sym ex.rolls-Me) c.itself
  expr_case (RExpr-F.Slot s) = subst c.Of_expr (sym (ex.rolls-Slot s)) (c.slot s)
  expr_case RExpr-F.Clock = subst c.Of_expr (sym ex.rolls-Clock) c.clock
  expr_case (RExpr-F.Ask n) = subst c.Of_expr (sym (ex.rolls-Ask n)) (c.question n)
  expr_case (RExpr-F.Range a b) = subst c.Of_expr (sym (ex.rolls-Range a.0 b.0)) (c.range a.0 b.0 a.1 b.1)
  expr_case (RExpr-F.Tuple es) = subst c.Of_expr (sym (ex.rolls-Tuple (bare es))) (c.tuple (bare es) (all_of-bare c.Of_expr es))
  expr_case (RExpr-F.SetOf es) = subst c.Of_expr (sym (ex.rolls-SetOf (bare es))) (c.set_of (bare es) (all_of-bare c.Of_expr es))
  expr_case (RExpr-F.Or es) = subst c.Of_expr (sym (ex.rolls-Or (bare es))) (c.disjunction (bare es) (all_of-bare c.Of_expr es))
  expr_case (RExpr-F.And es) = subst c.Of_expr (sym (ex.rolls-And (bare es))) (c.conjunction (bare es) (all_of-bare c.Of_expr es))
  expr_case (RExpr-F.Not e) = subst c.Of_expr (sym (ex.rolls-Not e.0)) (c.negation e.0 e.1)
  expr_case (RExpr-F.Cmp op a b) = subst c.Of_expr (sym (ex.rolls-Cmp op a.0 b.0)) (c.comparison op a.0 b.0 a.1 b.1)
  expr_case (RExpr-F.Member a b) = subst c.Of_expr (sym (ex.rolls-Member a.0 b.0)) (c.membership a.0 b.0 a.1 b.1)
  expr_case (RExpr-F.Chain a more) = subst c.Of_expr (sym (ex.rolls-Chain a.0 (bare more))) (c.chain a.0 (bare more) a.1 (all_of-bare c.Of_part more))

  part_case : (y : ChainPart-F AtExpr AtPart) → c.Of_part (roll-ChainPart (map-ChainPart AtExpr AtPart RExpr ChainPart (λ e. e.0) (λ e. e.0) y))
  part_case y = c.part y.op y.operand.0 y.operand.1

  pub expr_induction : (x : RExpr) → c.Of_expr x
  expr_induction = ind-RExpr c.Of_expr c.Of_part (λ x y is. subst (λ z. c.Of_expr (roll-RExpr z)) is (expr_case y)) (λ x y is. subst (λ z. c.Of_part (roll-ChainPart z)) is (part_case y))

  pub exprs_induction : (xs : List RExpr) → AllByRecursion c.Of_expr xs
  exprs_induction [] = tt
  exprs_induction (x ∷ xs) = (expr_induction x, exprs_induction xs)
