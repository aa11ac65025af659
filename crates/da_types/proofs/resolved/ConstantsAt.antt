-- The constants of expressions outside queries, one layer at a time.
use Rattle.std.specs.Prelude.{ℕ, List, map}
use Rattle.std.proofs.Common.{◌≡◌, ◌∙◌, ap, sym}
use Rattle.da_values.specs.declared.value.Value.{Value}
use Rattle.da_lang.specs.declared.program.ChainPart.{ChainPart, roll-ChainPart}
use Rattle.da_lang.specs.declared.program.RExpr.{RExpr, roll-RExpr}
use Rattle.da_lang.specs.declared.program.RExpr.TheVariants as re
use Rattle.da_lang.specs.declared.program.RExpr.TheOpen.{RExpr-F}
use Rattle.da_lang.specs.declared.program.RExpr.TheFolds.{map-RExpr, fold-roll-RExpr, fold-roll-ChainPart}
use Rattle.da_lang.specs.declared.tree.ArithOp.{ArithOp}
use Rattle.da_lang.specs.declared.tree.CmpOp.{CmpOp}
use Rattle.da_types.specs.Constants.{Written, expr_constants, part_constants, expr_constants_step, part_constants_step}

expr_constants_layer : (x : RExpr-F RExpr ChainPart) → expr_constants (roll-RExpr x) ≡ expr_constants_step (map-RExpr RExpr ChainPart Written Written expr_constants part_constants x)
unfolding expr_constants part_constants
expr_constants_layer x = fold-roll-RExpr Written Written expr_constants_step part_constants_step x

pub expr_constants-Const : (value : Value) → expr_constants (re.Const value) ≡ expr_constants_step (RExpr-F.Const value)
expr_constants-Const value = ap (expr_constants) (sym (re.rolls-Const value)) ∙ expr_constants_layer (RExpr-F.Const value)

pub expr_constants-Procs : (processes : List ℕ) → expr_constants (re.Procs processes) ≡ expr_constants_step (RExpr-F.Procs processes)
expr_constants-Procs processes = ap (expr_constants) (sym (re.rolls-Procs processes)) ∙ expr_constants_layer (RExpr-F.Procs processes)

pub expr_constants-Me : expr_constants re.Me ≡ expr_constants_step RExpr-F.Me
expr_constants-Me = ap (expr_constants) (sym re.rolls-Me) ∙ expr_constants_layer RExpr-F.Me

pub expr_constants-Slot : (slot : ℕ) → expr_constants (re.Slot slot) ≡ expr_constants_step (RExpr-F.Slot slot)
expr_constants-Slot slot = ap (expr_constants) (sym (re.rolls-Slot slot)) ∙ expr_constants_layer (RExpr-F.Slot slot)

pub expr_constants-Clock : expr_constants re.Clock ≡ expr_constants_step RExpr-F.Clock
expr_constants-Clock = ap (expr_constants) (sym re.rolls-Clock) ∙ expr_constants_layer RExpr-F.Clock

pub expr_constants-Ask : (query : ℕ) → expr_constants (re.Ask query) ≡ expr_constants_step (RExpr-F.Ask query)
expr_constants-Ask query = ap (expr_constants) (sym (re.rolls-Ask query)) ∙ expr_constants_layer (RExpr-F.Ask query)

pub expr_constants-Range : (x : RExpr) (y : RExpr) → expr_constants (re.Range x y) ≡ expr_constants_step (RExpr-F.Range (expr_constants x) (expr_constants y))
expr_constants-Range x y = ap (expr_constants) (sym (re.rolls-Range x y)) ∙ expr_constants_layer (RExpr-F.Range x y)

pub expr_constants-Tuple : (xs : List RExpr) → expr_constants (re.Tuple xs) ≡ expr_constants_step (RExpr-F.Tuple (map expr_constants xs))
expr_constants-Tuple xs = ap (expr_constants) (sym (re.rolls-Tuple xs)) ∙ expr_constants_layer (RExpr-F.Tuple xs)

pub expr_constants-SetOf : (xs : List RExpr) → expr_constants (re.SetOf xs) ≡ expr_constants_step (RExpr-F.SetOf (map expr_constants xs))
expr_constants-SetOf xs = ap (expr_constants) (sym (re.rolls-SetOf xs)) ∙ expr_constants_layer (RExpr-F.SetOf xs)

pub expr_constants-Or : (xs : List RExpr) → expr_constants (re.Or xs) ≡ expr_constants_step (RExpr-F.Or (map expr_constants xs))
expr_constants-Or xs = ap (expr_constants) (sym (re.rolls-Or xs)) ∙ expr_constants_layer (RExpr-F.Or xs)

pub expr_constants-And : (xs : List RExpr) → expr_constants (re.And xs) ≡ expr_constants_step (RExpr-F.And (map expr_constants xs))
expr_constants-And xs = ap (expr_constants) (sym (re.rolls-And xs)) ∙ expr_constants_layer (RExpr-F.And xs)

pub expr_constants-Not : (x : RExpr) → expr_constants (re.Not x) ≡ expr_constants_step (RExpr-F.Not (expr_constants x))
expr_constants-Not x = ap (expr_constants) (sym (re.rolls-Not x)) ∙ expr_constants_layer (RExpr-F.Not x)

pub expr_constants-Cmp : (o : CmpOp) (x : RExpr) (y : RExpr) → expr_constants (re.Cmp o x y) ≡ expr_constants_step (RExpr-F.Cmp o (expr_constants x) (expr_constants y))
expr_constants-Cmp o x y = ap (expr_constants) (sym (re.rolls-Cmp o x y)) ∙ expr_constants_layer (RExpr-F.Cmp o x y)

pub expr_constants-Member : (x : RExpr) (y : RExpr) → expr_constants (re.Member x y) ≡ expr_constants_step (RExpr-F.Member (expr_constants x) (expr_constants y))
expr_constants-Member x y = ap (expr_constants) (sym (re.rolls-Member x y)) ∙ expr_constants_layer (RExpr-F.Member x y)

pub expr_constants-Chain : (x : RExpr) (more : List ChainPart) → expr_constants (re.Chain x more) ≡ expr_constants_step (RExpr-F.Chain (expr_constants x) (map part_constants more))
expr_constants-Chain x more = ap (expr_constants) (sym (re.rolls-Chain x more)) ∙ expr_constants_layer (RExpr-F.Chain x more)

pub part_constants-of : (op_ : ArithOp) (operand_ : RExpr) → part_constants (roll-ChainPart (record { op = op_; operand = operand_ })) ≡ part_constants_step (record { op = op_; operand = (expr_constants operand_) })
unfolding expr_constants part_constants
part_constants-of op_ operand_ = fold-roll-ChainPart Written Written expr_constants_step part_constants_step (record { op = op_; operand = operand_ })

pub ruleset finding_constants = (expr_constants-Const, expr_constants-Procs, expr_constants-Me, expr_constants-Slot, expr_constants-Clock, expr_constants-Ask, expr_constants-Range, expr_constants-Tuple, expr_constants-SetOf, expr_constants-Or, expr_constants-And, expr_constants-Not, expr_constants-Cmp, expr_constants-Member, expr_constants-Chain, part_constants-of)
