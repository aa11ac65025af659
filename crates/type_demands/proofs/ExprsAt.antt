-- What expressions demand, one layer at a time.
use Rattle.std.specs.Prelude.{ℕ, List, map}
use Rattle.std.proofs.Common.{◌≡◌, ◌∙◌, ap, sym}
use Rattle.da_values.specs.declared.value.Value.{Value}
use Rattle.da_lang.specs.declared.program.ChainPart.{ChainPart, roll-ChainPart}
use Rattle.da_lang.specs.declared.program.RExpr.{RExpr, roll-RExpr}
use Rattle.da_lang.specs.declared.program.RExpr.TheVariants as re
use Rattle.da_lang.specs.declared.program.RExpr.TheOpen.{RExpr-F}
use Rattle.da_lang.specs.declared.program.RExpr.TheFolds.{map-RExpr, fold-roll-RExpr, fold-roll-ChainPart}
use Rattle.da_lang.specs.declared.query.Query.{Query}
use Rattle.da_lang.specs.declared.tree.ArithOp.{ArithOp}
use Rattle.da_lang.specs.declared.tree.CmpOp.{CmpOp}
use Rattle.type_demands.specs.Syms.{Context}
use Rattle.type_demands.specs.Exprs.{ExprSym, FurtherSym, expr_sym, further_sym, expr_sym_step, further_sym_step}

module _ (context : Context) (queries : List Query) where
  abbrev S : RExpr → ExprSym
  S = expr_sym context queries

  pub sym-layer : (x : RExpr-F RExpr ChainPart) → S (roll-RExpr x) ≡ expr_sym_step context queries (map-RExpr RExpr ChainPart ExprSym FurtherSym S (further_sym context queries) x)
  unfolding expr_sym further_sym
  sym-layer x = fold-roll-RExpr ExprSym FurtherSym (expr_sym_step context queries) (further_sym_step context queries) x

  pub sym-Const : (value : Value) → S (re.Const value) ≡ expr_sym_step context queries (RExpr-F.Const value)
  sym-Const value = ap S (sym (re.rolls-Const value)) ∙ sym-layer (RExpr-F.Const value)

  pub sym-Procs : (processes : List ℕ) → S (re.Procs processes) ≡ expr_sym_step context queries (RExpr-F.Procs processes)
  sym-Procs processes = ap S (sym (re.rolls-Procs processes)) ∙ sym-layer (RExpr-F.Procs processes)

  pub sym-Me : S re.Me ≡ expr_sym_step context queries RExpr-F.Me
  sym-Me = ap S (sym re.rolls-Me) ∙ sym-layer RExpr-F.Me

  pub sym-Slot : (slot : ℕ) → S (re.Slot slot) ≡ expr_sym_step context queries (RExpr-F.Slot slot)
  sym-Slot slot = ap S (sym (re.rolls-Slot slot)) ∙ sym-layer (RExpr-F.Slot slot)

  pub sym-Clock : S re.Clock ≡ expr_sym_step context queries RExpr-F.Clock
  sym-Clock = ap S (sym re.rolls-Clock) ∙ sym-layer RExpr-F.Clock

  pub sym-Ask : (query : ℕ) → S (re.Ask query) ≡ expr_sym_step context queries (RExpr-F.Ask query)
  sym-Ask query = ap S (sym (re.rolls-Ask query)) ∙ sym-layer (RExpr-F.Ask query)

  pub sym-Range : (x : RExpr) (y : RExpr) → S (re.Range x y) ≡ expr_sym_step context queries (RExpr-F.Range (S x) (S y))
  sym-Range x y = ap S (sym (re.rolls-Range x y)) ∙ sym-layer (RExpr-F.Range x y)

  pub sym-Tuple : (xs : List RExpr) → S (re.Tuple xs) ≡ expr_sym_step context queries (RExpr-F.Tuple (map S xs))
  sym-Tuple xs = ap S (sym (re.rolls-Tuple xs)) ∙ sym-layer (RExpr-F.Tuple xs)

  pub sym-SetOf : (xs : List RExpr) → S (re.SetOf xs) ≡ expr_sym_step context queries (RExpr-F.SetOf (map S xs))
  sym-SetOf xs = ap S (sym (re.rolls-SetOf xs)) ∙ sym-layer (RExpr-F.SetOf xs)

  pub sym-Or : (xs : List RExpr) → S (re.Or xs) ≡ expr_sym_step context queries (RExpr-F.Or (map S xs))
  sym-Or xs = ap S (sym (re.rolls-Or xs)) ∙ sym-layer (RExpr-F.Or xs)

  pub sym-And : (xs : List RExpr) → S (re.And xs) ≡ expr_sym_step context queries (RExpr-F.And (map S xs))
  sym-And xs = ap S (sym (re.rolls-And xs)) ∙ sym-layer (RExpr-F.And xs)

  pub sym-Not : (x : RExpr) → S (re.Not x) ≡ expr_sym_step context queries (RExpr-F.Not (S x))
  sym-Not x = ap S (sym (re.rolls-Not x)) ∙ sym-layer (RExpr-F.Not x)

  pub sym-Cmp : (o : CmpOp) (x : RExpr) (y : RExpr) → S (re.Cmp o x y) ≡ expr_sym_step context queries (RExpr-F.Cmp o (S x) (S y))
  sym-Cmp o x y = ap S (sym (re.rolls-Cmp o x y)) ∙ sym-layer (RExpr-F.Cmp o x y)

  pub sym-Member : (x : RExpr) (y : RExpr) → S (re.Member x y) ≡ expr_sym_step context queries (RExpr-F.Member (S x) (S y))
  sym-Member x y = ap S (sym (re.rolls-Member x y)) ∙ sym-layer (RExpr-F.Member x y)

  pub sym-Chain : (x : RExpr) (more : List ChainPart) → S (re.Chain x more) ≡ expr_sym_step context queries (RExpr-F.Chain (S x) (map (further_sym context queries) more))
  sym-Chain x more = ap S (sym (re.rolls-Chain x more)) ∙ sym-layer (RExpr-F.Chain x more)

  pub further-of : (o : ArithOp) (x : RExpr) → further_sym context queries (roll-ChainPart (record { op = o; operand = x })) ≡ record { op = o; sym = S x }
  unfolding expr_sym further_sym
  further-of o x = fold-roll-ChainPart ExprSym FurtherSym (expr_sym_step context queries) (further_sym_step context queries) (record { op = o; operand = x })
