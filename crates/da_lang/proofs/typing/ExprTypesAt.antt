-- Types of expressions outside queries, one layer at a time.
use Rattle.std.specs.Prelude.{ℕ, List, map}
use Rattle.std.proofs.Common.{◌≡◌, ◌∙◌, ap, sym}
use Rattle.da_values.specs.declared.value.Value.{Value}
use Rattle.da_lang.specs.declared.program.ChainPart.{ChainPart, roll-ChainPart}
use Rattle.da_lang.specs.declared.program.RExpr.{RExpr, roll-RExpr}
use Rattle.da_lang.specs.declared.program.RExpr.TheVariants as re
use Rattle.da_lang.specs.declared.program.RExpr.TheOpen.{RExpr-F}
use Rattle.da_lang.specs.declared.program.RExpr.TheFolds.{map-RExpr, fold-roll-RExpr, fold-roll-ChainPart}
use Rattle.da_lang.specs.declared.query.Query.{Query}
use Rattle.da_lang.specs.declared.tree.ArithOp.{ArithOp}
use Rattle.da_lang.specs.declared.tree.CmpOp.{CmpOp}
use Rattle.da_lang.specs.ExprTypes.{ExprType, Further, typing, part_typing, expr_step, part_step}
use Rattle.da_lang.specs.QueryTypes.{Known}

typing_layer : (known : Known) (queries : List Query) (x : RExpr-F RExpr ChainPart) → (typing known queries) (roll-RExpr x) ≡ (expr_step known queries) (map-RExpr RExpr ChainPart ExprType Further (typing known queries) (part_typing known queries) x)
unfolding typing part_typing
typing_layer known queries x = fold-roll-RExpr ExprType Further (expr_step known queries) (part_step known queries) x

pub typing-Const : (known : Known) (queries : List Query) (value : Value) → (typing known queries) (re.Const value) ≡ (expr_step known queries) (RExpr-F.Const value)
typing-Const known queries value = ap ((typing known queries)) (sym (re.rolls-Const value)) ∙ typing_layer known queries (RExpr-F.Const value)

pub typing-Procs : (known : Known) (queries : List Query) (processes : List ℕ) → (typing known queries) (re.Procs processes) ≡ (expr_step known queries) (RExpr-F.Procs processes)
typing-Procs known queries processes = ap ((typing known queries)) (sym (re.rolls-Procs processes)) ∙ typing_layer known queries (RExpr-F.Procs processes)

pub typing-Me : (known : Known) (queries : List Query) → (typing known queries) re.Me ≡ (expr_step known queries) RExpr-F.Me
typing-Me known queries = ap ((typing known queries)) (sym re.rolls-Me) ∙ typing_layer known queries RExpr-F.Me

pub typing-Slot : (known : Known) (queries : List Query) (slot : ℕ) → (typing known queries) (re.Slot slot) ≡ (expr_step known queries) (RExpr-F.Slot slot)
typing-Slot known queries slot = ap ((typing known queries)) (sym (re.rolls-Slot slot)) ∙ typing_layer known queries (RExpr-F.Slot slot)

pub typing-Clock : (known : Known) (queries : List Query) → (typing known queries) re.Clock ≡ (expr_step known queries) RExpr-F.Clock
typing-Clock known queries = ap ((typing known queries)) (sym re.rolls-Clock) ∙ typing_layer known queries RExpr-F.Clock

pub typing-Ask : (known : Known) (queries : List Query) (query : ℕ) → (typing known queries) (re.Ask query) ≡ (expr_step known queries) (RExpr-F.Ask query)
typing-Ask known queries query = ap ((typing known queries)) (sym (re.rolls-Ask query)) ∙ typing_layer known queries (RExpr-F.Ask query)

pub typing-Range : (known : Known) (queries : List Query) (x : RExpr) (y : RExpr) → (typing known queries) (re.Range x y) ≡ (expr_step known queries) (RExpr-F.Range ((typing known queries) x) ((typing known queries) y))
typing-Range known queries x y = ap ((typing known queries)) (sym (re.rolls-Range x y)) ∙ typing_layer known queries (RExpr-F.Range x y)

pub typing-Tuple : (known : Known) (queries : List Query) (xs : List RExpr) → (typing known queries) (re.Tuple xs) ≡ (expr_step known queries) (RExpr-F.Tuple (map (typing known queries) xs))
typing-Tuple known queries xs = ap ((typing known queries)) (sym (re.rolls-Tuple xs)) ∙ typing_layer known queries (RExpr-F.Tuple xs)

pub typing-SetOf : (known : Known) (queries : List Query) (xs : List RExpr) → (typing known queries) (re.SetOf xs) ≡ (expr_step known queries) (RExpr-F.SetOf (map (typing known queries) xs))
typing-SetOf known queries xs = ap ((typing known queries)) (sym (re.rolls-SetOf xs)) ∙ typing_layer known queries (RExpr-F.SetOf xs)

pub typing-Or : (known : Known) (queries : List Query) (xs : List RExpr) → (typing known queries) (re.Or xs) ≡ (expr_step known queries) (RExpr-F.Or (map (typing known queries) xs))
typing-Or known queries xs = ap ((typing known queries)) (sym (re.rolls-Or xs)) ∙ typing_layer known queries (RExpr-F.Or xs)

pub typing-And : (known : Known) (queries : List Query) (xs : List RExpr) → (typing known queries) (re.And xs) ≡ (expr_step known queries) (RExpr-F.And (map (typing known queries) xs))
typing-And known queries xs = ap ((typing known queries)) (sym (re.rolls-And xs)) ∙ typing_layer known queries (RExpr-F.And xs)

pub typing-Not : (known : Known) (queries : List Query) (x : RExpr) → (typing known queries) (re.Not x) ≡ (expr_step known queries) (RExpr-F.Not ((typing known queries) x))
typing-Not known queries x = ap ((typing known queries)) (sym (re.rolls-Not x)) ∙ typing_layer known queries (RExpr-F.Not x)

pub typing-Cmp : (known : Known) (queries : List Query) (o : CmpOp) (x : RExpr) (y : RExpr) → (typing known queries) (re.Cmp o x y) ≡ (expr_step known queries) (RExpr-F.Cmp o ((typing known queries) x) ((typing known queries) y))
typing-Cmp known queries o x y = ap ((typing known queries)) (sym (re.rolls-Cmp o x y)) ∙ typing_layer known queries (RExpr-F.Cmp o x y)

pub typing-Member : (known : Known) (queries : List Query) (x : RExpr) (y : RExpr) → (typing known queries) (re.Member x y) ≡ (expr_step known queries) (RExpr-F.Member ((typing known queries) x) ((typing known queries) y))
typing-Member known queries x y = ap ((typing known queries)) (sym (re.rolls-Member x y)) ∙ typing_layer known queries (RExpr-F.Member x y)

pub typing-Chain : (known : Known) (queries : List Query) (x : RExpr) (more : List ChainPart) → (typing known queries) (re.Chain x more) ≡ (expr_step known queries) (RExpr-F.Chain ((typing known queries) x) (map (part_typing known queries) more))
typing-Chain known queries x more = ap ((typing known queries)) (sym (re.rolls-Chain x more)) ∙ typing_layer known queries (RExpr-F.Chain x more)

pub part_typing-of : (known : Known) (queries : List Query) (op_ : ArithOp) (operand_ : RExpr) → (part_typing known queries) (roll-ChainPart (record { op = op_; operand = operand_ })) ≡ (part_step known queries) (record { op = op_; operand = ((typing known queries) operand_) })
unfolding typing part_typing
part_typing-of known queries op_ operand_ = fold-roll-ChainPart ExprType Further (expr_step known queries) (part_step known queries) (record { op = op_; operand = operand_ })

pub ruleset typing_exprs = (typing-Const, typing-Procs, typing-Me, typing-Slot, typing-Clock, typing-Ask, typing-Range, typing-Tuple, typing-SetOf, typing-Or, typing-And, typing-Not, typing-Cmp, typing-Member, typing-Chain, part_typing-of)
