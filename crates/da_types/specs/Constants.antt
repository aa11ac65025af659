-- What is written in a tree, and the constants of the expressions of a resolved program.
use Rattle.std.specs.Prelude.{◌≡◌, ℕ, suc, ◌^◌, ◌<◌, ◌+◌, true, length, List, [], ◌∷◌, ◌++◌, map, Some, flat_map, option_to_list}
use Rattle.da_values.specs.declared.value.Value.{Value}
use Rattle.da_values.specs.declared.value.Value.TheVariants as kept
use Rattle.da_values.specs.Proper.{IsValue}
use Rattle.da_values.specs.Sets.{Has}
use Rattle.da_values.specs.Value.{val_of}
use Rattle.da_lang.specs.declared.program.Alt.{Alt}
use Rattle.da_lang.specs.declared.program.ChainPart.{ChainPart}
use Rattle.da_lang.specs.declared.program.Class.{Class}
use Rattle.da_lang.specs.declared.program.Item.{Item}
use Rattle.da_lang.specs.declared.program.ItemKind.{ItemKind}
use Rattle.da_lang.specs.declared.program.ItemKind.TheOpen.{ItemKind-F}
use Rattle.da_lang.specs.declared.program.ItemKind.TheViews.{out-RBranch}
use Rattle.da_lang.specs.declared.program.ProcDecl.{ProcDecl}
use Rattle.da_lang.specs.declared.program.Program.{Program}
use Rattle.da_lang.specs.declared.program.RBranch.{RBranch}
use Rattle.da_lang.specs.declared.program.RExpr.{RExpr}
use Rattle.da_lang.specs.declared.program.RExpr.TheFolds.{fold-RExpr, fold-ChainPart}
use Rattle.da_lang.specs.declared.program.RExpr.TheOpen.{RExpr-F, ChainPart-F}
use Rattle.da_lang.specs.declared.program.SetupCall.{SetupCall}
use Rattle.da_lang.specs.declared.query.Query.{Query}
use Rattle.da_lang.specs.declared.tree.ChainTree.{ChainTree}
use Rattle.da_lang.specs.declared.tree.ClassTree.{ClassTree}
use Rattle.da_lang.specs.declared.tree.Expr.{Expr}
use Rattle.da_lang.specs.declared.tree.Expr.TheFolds.{fold-Expr, fold-PatternTree, fold-PeerTree, fold-ChainTree, fold-GenTree}
use Rattle.da_lang.specs.declared.tree.Expr.TheOpen.{Expr-F, PatternTree-F, PeerTree-F, ChainTree-F, GenTree-F}
use Rattle.da_lang.specs.declared.tree.GenTree.{GenTree}
use Rattle.da_lang.specs.declared.tree.MainLine.{MainLine}
use Rattle.da_lang.specs.declared.tree.MainLine.TheVariants as main_line
use Rattle.da_lang.specs.declared.tree.PatternTree.{PatternTree}
use Rattle.da_lang.specs.declared.tree.PeerTree.{PeerTree}
use Rattle.da_lang.specs.declared.tree.Tree.{Tree}
use Rattle.da_lang.specs.ClassParts.{Body, Place, InHandler, bodies}
use Rattle.da_lang.specs.Deeds.{Deed, deeds}
use Rattle.da_lang.specs.Shaped.{IsItemOf, has_processes}
use Rattle.da_lang.specs.Turns.{kind_of}
use Rattle.da_types.specs.Totality.{IsConstant, query_constants}

-- what is noted of a tree or of a query: a value that is written, or how many signs stand between the operands of a chain
pub data Note : Type 0 where
  Literal : Value → Note
  Signs : ℕ → Note

abbrev pub Notes : Type 0
Notes = List Note

-- those of all parts
abbrev pub all : {A : Type 0} → List (List A) → List A
all parts = flat_map (λ part. part) parts

abbrev pub notes_step : Expr-F Notes Notes Notes Notes Notes → Notes
notes_step (Expr-F.Quant each gens cond) = all gens ++ all (option_to_list cond)
notes_step (Expr-F.Or xs) = all xs
notes_step (Expr-F.And xs) = all xs
notes_step (Expr-F.Not x) = x
notes_step (Expr-F.Cmp o x y) = x ++ y
notes_step (Expr-F.Member x y) = x ++ y
notes_step (Expr-F.Chain x more) = Signs (length more) ∷ x ++ all more
notes_step (Expr-F.«Expr::Int» number) = Literal (kept.Int number) ∷ []
notes_step (Expr-F.«Expr::Text» bytes) = Literal (kept.Text bytes) ∷ []
notes_step (Expr-F.«Expr::Truth» truth) = Literal (kept.Bool truth) ∷ []
notes_step Expr-F.«Expr::Me» = []
notes_step (Expr-F.«Expr::Name» name) = []
notes_step Expr-F.Clock = []
notes_step (Expr-F.Range x y) = x ++ y
notes_step (Expr-F.«Expr::Tuple» xs) = all xs
notes_step (Expr-F.SetOf xs) = all xs
notes_step (Expr-F.Comp x gens cond) = x ++ (all gens ++ all (option_to_list cond))
notes_step (Expr-F.Count x) = x
notes_step (Expr-F.Sum x) = x
notes_step (Expr-F.Min x other) = x ++ other
notes_step (Expr-F.Max x other) = x ++ other

abbrev pub pattern_notes_step : PatternTree-F Notes Notes Notes Notes Notes → Notes
pattern_notes_step PatternTree-F.Wild = []
pattern_notes_step (PatternTree-F.«PatternTree::Name» name) = []
pattern_notes_step (PatternTree-F.«PatternTree::Int» number) = Literal (kept.Int number) ∷ []
pattern_notes_step (PatternTree-F.«PatternTree::Text» bytes) = Literal (kept.Text bytes) ∷ []
pattern_notes_step (PatternTree-F.«PatternTree::Truth» truth) = Literal (kept.Bool truth) ∷ []
pattern_notes_step PatternTree-F.«PatternTree::Me» = []
pattern_notes_step (PatternTree-F.Equal x) = x
pattern_notes_step (PatternTree-F.«PatternTree::Tuple» parts) = all parts

abbrev pub peer_notes_step : PeerTree-F Notes Notes Notes Notes Notes → Notes
peer_notes_step (PeerTree-F.From pattern) = pattern
peer_notes_step (PeerTree-F.To pattern) = pattern

abbrev pub link_notes_step : ChainTree-F Notes Notes Notes Notes Notes → Notes
link_notes_step link = link.operand

abbrev pub gen_notes_step : GenTree-F Notes Notes Notes Notes Notes → Notes
gen_notes_step g = g.message ++ all (option_to_list g.peer)

-- the notes of an expression
unfoldable pub notes : Expr → Notes
notes = fold-Expr Notes Notes Notes Notes Notes notes_step pattern_notes_step peer_notes_step link_notes_step gen_notes_step

unfoldable pub pattern_notes : PatternTree → Notes
pattern_notes = fold-PatternTree Notes Notes Notes Notes Notes notes_step pattern_notes_step peer_notes_step link_notes_step gen_notes_step

unfoldable pub peer_notes : PeerTree → Notes
peer_notes = fold-PeerTree Notes Notes Notes Notes Notes notes_step pattern_notes_step peer_notes_step link_notes_step gen_notes_step

unfoldable pub link_notes : ChainTree → Notes
link_notes = fold-ChainTree Notes Notes Notes Notes Notes notes_step pattern_notes_step peer_notes_step link_notes_step gen_notes_step

unfoldable pub gen_notes : GenTree → Notes
gen_notes = fold-GenTree Notes Notes Notes Notes Notes notes_step pattern_notes_step peer_notes_step link_notes_step gen_notes_step

-- in a tree: in its statements, in the patterns of its handlers, and in `main`
abbrev pub deed_notes : Deed → Notes
deed_notes d = flat_map notes d.says

abbrev pub place_notes : Place → Notes
place_notes (InHandler message from labels) = flat_map pattern_notes (message ∷ option_to_list from)
place_notes _ = []

abbrev pub body_notes : Body → Notes
body_notes b = place_notes b.place ++ flat_map deed_notes (deeds b.stmts)

abbrev pub class_notes : ClassTree → Notes
class_notes c = flat_map body_notes (bodies c)

abbrev pub line_notes : MainLine → Notes
line_notes (main_line.New name class count line) = []
line_notes (main_line.Setup name args line) = flat_map notes args

abbrev pub tree_notes : Tree → Notes
tree_notes t = flat_map class_notes t.classes ++ flat_map line_notes t.main

-- the signs of all chains together
abbrev pub signs : Notes → ℕ
signs [] = 0
signs (Literal value ∷ notes) = signs notes
signs (Signs count ∷ notes) = count + signs notes

-- a value that there is, and that names no process: an integer of an i128, a text of bytes that a text may have
pub record IsLiteral (value : Value) : Type 0 where
  pub proper : IsValue (val_of value)
  pub free : (most : ℕ) → has_processes most (val_of value) ≡ true

abbrev pub IsFine : Note → Type 0
IsFine (Literal value) = IsLiteral value
IsFine (Signs count) = Unit {0}

-- each note is fine, and fewer than 2^32 operands have these signs between them
pub record AreFine (notes : Notes) : Type 0 where
  pub each : (x : Note) → Has notes x → IsFine x
  pub few : suc (signs notes) < 2 ^ 32

-- the constants of expressions
abbrev pub Written : Type 0
Written = List Value

-- the constants of an expression outside queries, the processes of its sets of processes among them
abbrev pub expr_constants_step : RExpr-F Written Written → Written
expr_constants_step (RExpr-F.Const value) = value ∷ []
expr_constants_step (RExpr-F.Procs processes) = map kept.Proc processes
expr_constants_step RExpr-F.Me = []
expr_constants_step (RExpr-F.Slot slot) = []
expr_constants_step RExpr-F.Clock = []
expr_constants_step (RExpr-F.Ask query) = []
expr_constants_step (RExpr-F.Range x y) = x ++ y
expr_constants_step (RExpr-F.Tuple xs) = all xs
expr_constants_step (RExpr-F.SetOf xs) = all xs
expr_constants_step (RExpr-F.Or xs) = all xs
expr_constants_step (RExpr-F.And xs) = all xs
expr_constants_step (RExpr-F.Not x) = x
expr_constants_step (RExpr-F.Cmp o x y) = x ++ y
expr_constants_step (RExpr-F.Member x y) = x ++ y
expr_constants_step (RExpr-F.Chain x more) = x ++ all more

abbrev pub part_constants_step : ChainPart-F Written Written → Written
part_constants_step p = p.operand

unfoldable pub expr_constants : RExpr → Written
expr_constants = fold-RExpr Written Written expr_constants_step part_constants_step

unfoldable pub part_constants : ChainPart → Written
part_constants = fold-ChainPart Written Written expr_constants_step part_constants_step

-- the expressions of a statement, but for those in its blocks
abbrev pub exprs_in : ItemKind-F ItemKind Alt Item RBranch → List RExpr
exprs_in (ItemKind-F.Assign slot x) = x ∷ []
exprs_in (ItemKind-F.Add slot x) = x ∷ []
exprs_in (ItemKind-F.Del slot x) = x ∷ []
exprs_in (ItemKind-F.Send x to) = x ∷ to ∷ []
exprs_in (ItemKind-F.Output x) = x ∷ []
exprs_in (ItemKind-F.If branches other) = map (λ b. (out-RBranch b).cond) branches
exprs_in (ItemKind-F.While x body) = x ∷ []
exprs_in (ItemKind-F.For slot x body) = x ∷ []
exprs_in (ItemKind-F.Call args body) = map (λ a. a.value) args
exprs_in _ = []

abbrev pub exprs_of : Item → List RExpr
exprs_of i = exprs_in (kind_of i)

-- The constants of which the numbered queries of a program make their values, and those in the expressions of its
-- statements and of its lines of `setup`, are values that there are, and their processes are there.
pub record ConstantsAreThere (p : Program) : Type 0 where
  pub of_queries : (c : Class) (q : Query) (v : Value) → Has p.classes c → Has c.queries q → Has (query_constants q) v → IsConstant p v
  pub of_statements : (c : Class) (i : Item) (x : RExpr) (v : Value) → Has p.classes c → IsItemOf c i → Has (exprs_of i) x → Has (expr_constants x) v → IsConstant p v
  pub of_setups : (d : ProcDecl) (call : SetupCall) (x : RExpr) (v : Value) → Has p.procs d → d.setup ≡ Some call → Has call.args x → Has (expr_constants x) v → IsConstant p v
