-- What holds of an expression or a statement where it holds of its parts holds of every one.
use Rattle.std.specs.Prelude.{ℕ, List, [], ◌∷◌, Option, Some, None, unwrap_or}
use Rattle.std.specs.List.{AllByRecursion}
use Rattle.std.proofs.Common.{subst, sym}
use Rattle.da_values.specs.declared.value.Value.{Value}
use Rattle.da_lang.specs.declared.program.Alt.{Alt, roll-Alt}
use Rattle.da_lang.specs.declared.program.BindArg.{BindArg}
use Rattle.da_lang.specs.declared.program.ChainPart.{ChainPart, roll-ChainPart}
use Rattle.da_lang.specs.declared.program.Item.{Item, roll-Item}
use Rattle.da_lang.specs.declared.program.ItemKind.{ItemKind, roll-ItemKind}
use Rattle.da_lang.specs.declared.program.ItemKind.TheVariants as kind
use Rattle.da_lang.specs.declared.program.ItemKind.TheOpen.{ItemKind-F, Item-F, RBranch-F, Alt-F}
use Rattle.da_lang.specs.declared.program.ItemKind.TheFolds.{ind-Item, map-ItemKind, map-Alt, map-Item, map-RBranch}
use Rattle.da_lang.specs.declared.program.RBranch.{RBranch, roll-RBranch}
use Rattle.da_lang.specs.declared.program.RExpr.{RExpr, roll-RExpr}
use Rattle.da_lang.specs.declared.program.RExpr.TheVariants as expr
use Rattle.da_lang.specs.declared.program.RExpr.TheOpen.{RExpr-F, ChainPart-F}
use Rattle.da_lang.specs.declared.program.RExpr.TheFolds.{ind-RExpr, map-RExpr, map-ChainPart}
use Rattle.da_lang.specs.declared.query.Cond.{Cond}
use Rattle.da_lang.specs.declared.tree.ArithOp.{ArithOp}
use Rattle.da_lang.specs.declared.tree.CmpOp.{CmpOp}
use Rattle.da_lang.proofs.TermInduction.{bare, all_of-bare}

-- what is to be shown of expressions and the parts of their chains, and its cases
pub record ExprCases : Type 1 where
  pub Of_expr : RExpr → Type 0
  pub Of_part : ChainPart → Type 0
  pub const : (v : Value) → Of_expr (expr.Const v)
  pub procs : (ps : List ℕ) → Of_expr (expr.Procs ps)
  pub me : Of_expr expr.Me
  pub slot : (s : ℕ) → Of_expr (expr.Slot s)
  pub clock : Of_expr expr.Clock
  pub ask : (n : ℕ) → Of_expr (expr.Ask n)
  pub range : (a b : RExpr) → Of_expr a → Of_expr b → Of_expr (expr.Range a b)
  pub tuple : (es : List RExpr) → AllByRecursion Of_expr es → Of_expr (expr.Tuple es)
  pub set_of : (es : List RExpr) → AllByRecursion Of_expr es → Of_expr (expr.SetOf es)
  pub disjunction : (es : List RExpr) → AllByRecursion Of_expr es → Of_expr (expr.Or es)
  pub conjunction : (es : List RExpr) → AllByRecursion Of_expr es → Of_expr (expr.And es)
  pub negation : (e : RExpr) → Of_expr e → Of_expr (expr.Not e)
  pub cmp : (op : CmpOp) (a b : RExpr) → Of_expr a → Of_expr b → Of_expr (expr.Cmp op a b)
  pub member : (a b : RExpr) → Of_expr a → Of_expr b → Of_expr (expr.Member a b)
  pub chain : (e : RExpr) (parts : List ChainPart) → Of_expr e → AllByRecursion Of_part parts → Of_expr (expr.Chain e parts)
  pub part : (op : ArithOp) (e : RExpr) → Of_expr e → Of_part (roll-ChainPart (record { op = op; operand = e }))

module _ (c : ExprCases) where
  abbrev AtExpr : Type 0
  AtExpr = (x : RExpr) × c.Of_expr x

  abbrev AtPart : Type 0
  AtPart = (x : ChainPart) × c.Of_part x

  expr_case : (y : RExpr-F AtExpr AtPart) → c.Of_expr (roll-RExpr (map-RExpr AtExpr AtPart RExpr ChainPart (λ e. e.0) (λ e. e.0) y))
  expr_case (RExpr-F.Const v) = subst c.Of_expr (sym (expr.rolls-Const v)) (c.const v)
  expr_case (RExpr-F.Procs ps) = subst c.Of_expr (sym (expr.rolls-Procs ps)) (c.procs ps)
  expr_case RExpr-F.Me = subst c.Of_expr (sym expr.rolls-Me) c.me
  expr_case (RExpr-F.Slot s) = subst c.Of_expr (sym (expr.rolls-Slot s)) (c.slot s)
  expr_case RExpr-F.Clock = subst c.Of_expr (sym expr.rolls-Clock) c.clock
  expr_case (RExpr-F.Ask n) = subst c.Of_expr (sym (expr.rolls-Ask n)) (c.ask n)
  expr_case (RExpr-F.Range a b) = subst c.Of_expr (sym (expr.rolls-Range a.0 b.0)) (c.range a.0 b.0 a.1 b.1)
  expr_case (RExpr-F.Tuple es) = subst c.Of_expr (sym (expr.rolls-Tuple (bare es))) (c.tuple (bare es) (all_of-bare c.Of_expr es))
  expr_case (RExpr-F.SetOf es) = subst c.Of_expr (sym (expr.rolls-SetOf (bare es))) (c.set_of (bare es) (all_of-bare c.Of_expr es))
  expr_case (RExpr-F.Or es) = subst c.Of_expr (sym (expr.rolls-Or (bare es))) (c.disjunction (bare es) (all_of-bare c.Of_expr es))
  expr_case (RExpr-F.And es) = subst c.Of_expr (sym (expr.rolls-And (bare es))) (c.conjunction (bare es) (all_of-bare c.Of_expr es))
  expr_case (RExpr-F.Not e) = subst c.Of_expr (sym (expr.rolls-Not e.0)) (c.negation e.0 e.1)
  expr_case (RExpr-F.Cmp op a b) = subst c.Of_expr (sym (expr.rolls-Cmp op a.0 b.0)) (c.cmp op a.0 b.0 a.1 b.1)
  expr_case (RExpr-F.Member a b) = subst c.Of_expr (sym (expr.rolls-Member a.0 b.0)) (c.member a.0 b.0 a.1 b.1)
  expr_case (RExpr-F.Chain e parts) = subst c.Of_expr (sym (expr.rolls-Chain e.0 (bare parts))) (c.chain e.0 (bare parts) e.1 (all_of-bare c.Of_part parts))

  part_case : (y : ChainPart-F AtExpr AtPart) → c.Of_part (roll-ChainPart (map-ChainPart AtExpr AtPart RExpr ChainPart (λ e. e.0) (λ e. e.0) y))
  part_case y = c.part y.op y.operand.0 y.operand.1

  pub expr_induction : (x : RExpr) → c.Of_expr x
  expr_induction = ind-RExpr c.Of_expr c.Of_part (λ x y is. subst (λ z. c.Of_expr (roll-RExpr z)) is (expr_case y)) (λ x y is. subst (λ z. c.Of_part (roll-ChainPart z)) is (part_case y))

-- the same of statements, their kinds, branches and alternatives
pub record ItemCases : Type 1 where
  pub Of_kind : ItemKind → Type 0
  pub Of_alt : Alt → Type 0
  pub Of_item : Item → Type 0
  pub Of_branch : RBranch → Type 0
  pub assign : (s : ℕ) (e : RExpr) → Of_kind (kind.Assign s e)
  pub add : (s : ℕ) (e : RExpr) → Of_kind (kind.Add s e)
  pub del : (s : ℕ) (e : RExpr) → Of_kind (kind.Del s e)
  pub send : (m e : RExpr) → Of_kind (kind.Send m e)
  pub output : (e : RExpr) → Of_kind (kind.Output e)
  pub if_one : (branches : List RBranch) (otherwise : List Item) → AllByRecursion Of_branch branches → AllByRecursion Of_item otherwise → Of_kind (kind.If branches otherwise)
  pub while : (e : RExpr) (body : List Item) → AllByRecursion Of_item body → Of_kind (kind.While e body)
  pub for : (s : ℕ) (e : RExpr) (body : List Item) → AllByRecursion Of_item body → Of_kind (kind.For s e body)
  pub call : (args : List BindArg) (body : List Item) → AllByRecursion Of_item body → Of_kind (kind.Call args body)
  pub await : (alts : List Alt) (timeout : Option (List Item)) (label : Option ℕ) → AllByRecursion Of_alt alts → AllByRecursion Of_item (unwrap_or timeout []) → Of_kind (kind.Await alts timeout label)
  pub label : (l : ℕ) → Of_kind (kind.Label l)
  pub pass : Of_kind kind.Pass
  pub alt : (b : Cond) (found : Option ℕ) (binds : List ℕ) (body : List Item) (line : ℕ) → AllByRecursion Of_item body → Of_alt (roll-Alt (record { cond = b; found = found; binds = binds; body = body; line = line }))
  pub item : (line : ℕ) (k : ItemKind) → Of_kind k → Of_item (roll-Item (record { line = line; kind = k }))
  pub branch : (e : RExpr) (found : Option ℕ) (binds : List ℕ) (body : List Item) (line : ℕ) → AllByRecursion Of_item body → Of_branch (roll-RBranch (record { cond = e; found = found; binds = binds; body = body; line = line }))

module _ (c : ItemCases) where
  abbrev AtKind : Type 0
  AtKind = (x : ItemKind) × c.Of_kind x

  abbrev AtAlt : Type 0
  AtAlt = (x : Alt) × c.Of_alt x

  abbrev AtItem : Type 0
  AtItem = (x : Item) × c.Of_item x

  abbrev AtBranch : Type 0
  AtBranch = (x : RBranch) × c.Of_branch x

  kind_case : (y : ItemKind-F AtKind AtAlt AtItem AtBranch) → c.Of_kind (roll-ItemKind (map-ItemKind AtKind AtAlt AtItem AtBranch ItemKind Alt Item RBranch (λ e. e.0) (λ e. e.0) (λ e. e.0) (λ e. e.0) y))
  kind_case (ItemKind-F.Assign s e) = subst c.Of_kind (sym (kind.rolls-Assign s e)) (c.assign s e)
  kind_case (ItemKind-F.Add s e) = subst c.Of_kind (sym (kind.rolls-Add s e)) (c.add s e)
  kind_case (ItemKind-F.Del s e) = subst c.Of_kind (sym (kind.rolls-Del s e)) (c.del s e)
  kind_case (ItemKind-F.Send m e) = subst c.Of_kind (sym (kind.rolls-Send m e)) (c.send m e)
  kind_case (ItemKind-F.Output e) = subst c.Of_kind (sym (kind.rolls-Output e)) (c.output e)
  kind_case (ItemKind-F.If branches otherwise) =
      subst c.Of_kind (sym (kind.rolls-If (bare branches) (bare otherwise)))
      (c.if_one (bare branches) (bare otherwise) (all_of-bare c.Of_branch branches) (all_of-bare c.Of_item otherwise))
  kind_case (ItemKind-F.While e body) = subst c.Of_kind (sym (kind.rolls-While e (bare body))) (c.while e (bare body) (all_of-bare c.Of_item body))
  kind_case (ItemKind-F.For s e body) = subst c.Of_kind (sym (kind.rolls-For s e (bare body))) (c.for s e (bare body) (all_of-bare c.Of_item body))
  kind_case (ItemKind-F.Call args body) = subst c.Of_kind (sym (kind.rolls-Call args (bare body))) (c.call args (bare body) (all_of-bare c.Of_item body))
  kind_case (ItemKind-F.Await alts None label) =
      subst c.Of_kind (sym (kind.rolls-Await (bare alts) None label)) (c.await (bare alts) None label (all_of-bare c.Of_alt alts) tt)
  kind_case (ItemKind-F.Await alts (Some body) label) =
      subst c.Of_kind (sym (kind.rolls-Await (bare alts) (Some (bare body)) label)) (c.await (bare alts) (Some (bare body)) label (all_of-bare c.Of_alt alts) (all_of-bare c.Of_item body))
  kind_case (ItemKind-F.Label l) = subst c.Of_kind (sym (kind.rolls-Label l)) (c.label l)
  kind_case ItemKind-F.Pass = subst c.Of_kind (sym kind.rolls-Pass) c.pass

  alt_case : (y : Alt-F AtKind AtAlt AtItem AtBranch) → c.Of_alt (roll-Alt (map-Alt AtKind AtAlt AtItem AtBranch ItemKind Alt Item RBranch (λ e. e.0) (λ e. e.0) (λ e. e.0) (λ e. e.0) y))
  alt_case y = c.alt y.cond y.found y.binds (bare y.body) y.line (all_of-bare c.Of_item y.body)

  item_case : (y : Item-F AtKind AtAlt AtItem AtBranch) → c.Of_item (roll-Item (map-Item AtKind AtAlt AtItem AtBranch ItemKind Alt Item RBranch (λ e. e.0) (λ e. e.0) (λ e. e.0) (λ e. e.0) y))
  item_case y = c.item y.line y.kind.0 y.kind.1

  branch_case : (y : RBranch-F AtKind AtAlt AtItem AtBranch) → c.Of_branch (roll-RBranch (map-RBranch AtKind AtAlt AtItem AtBranch ItemKind Alt Item RBranch (λ e. e.0) (λ e. e.0) (λ e. e.0) (λ e. e.0) y))
  branch_case y = c.branch y.cond y.found y.binds (bare y.body) y.line (all_of-bare c.Of_item y.body)

  pub item_induction : (x : Item) → c.Of_item x
  item_induction = ind-Item c.Of_kind c.Of_alt c.Of_item c.Of_branch (λ x y is. subst (λ z. c.Of_kind (roll-ItemKind z)) is (kind_case y)) (λ x y is. subst (λ z. c.Of_alt (roll-Alt z)) is (alt_case y)) (λ x y is. subst (λ z. c.Of_item (roll-Item z)) is (item_case y)) (λ x y is. subst (λ z. c.Of_branch (roll-RBranch z)) is (branch_case y))

  pub items_induction : (xs : List Item) → AllByRecursion c.Of_item xs
  items_induction [] = tt
  items_induction (x ∷ xs) = (item_induction x, items_induction xs)
