-- How expressions, patterns and types are printed.
use Rattle.std.specs.Prelude.{ℕ, Bool, true, false, nat_lt, if◌then◌else◌, List, [], ◌∷◌, ◌++◌, codes, map, Option, Some, None}
use Rattle.da_values.specs.declared.token.Mark.{Mark}
use Rattle.da_values.specs.declared.token.Mark.TheVariants as m
use Rattle.da_lang.specs.declared.tree.ArithOp.{ArithOp}
use Rattle.da_lang.specs.declared.tree.ArithOp.TheVariants as arith_op
use Rattle.da_lang.specs.declared.tree.ChainTree.{ChainTree}
use Rattle.da_lang.specs.declared.tree.CmpOp.{CmpOp}
use Rattle.da_lang.specs.declared.tree.CmpOp.TheVariants as cmp_op
use Rattle.da_lang.specs.declared.tree.Expr.{Expr}
use Rattle.da_lang.specs.declared.tree.Expr.TheFolds.{fold-Expr, fold-PatternTree, fold-PeerTree, fold-ChainTree, fold-GenTree}
use Rattle.da_lang.specs.declared.tree.Expr.TheOpen.{Expr-F, PatternTree-F, PeerTree-F, ChainTree-F, GenTree-F}
use Rattle.da_lang.specs.declared.tree.GenTree.{GenTree}
use Rattle.da_lang.specs.declared.tree.PatternTree.{PatternTree}
use Rattle.da_lang.specs.declared.tree.PeerTree.{PeerTree}
use Rattle.da_lang.specs.declared.tree.SourceTree.{SourceTree}
use Rattle.da_lang.specs.declared.tree.SourceTree.TheVariants as source_tree
use Rattle.da_lang.specs.declared.ty.Ty.{Ty}
use Rattle.da_lang.specs.declared.ty.Ty.TheOpen as ty
use Rattle.da_lang.specs.declared.ty.Ty.TheFolds.{fold-Ty}
use Rattle.da_unparse.specs.Pieces.{Piece, gap, token, one, name, colon, between, before, joined, listed, in_parens, tupled, number, string}

-- How tightly an expression holds together, the loosest first: a quantification, `or`, `and`, `not`, a comparison, a
-- sum, a product, and what is none of these. Each operand asks for so much at least.
abbrev pub quantified : ℕ
quantified = 0

abbrev pub either : ℕ
either = 1

abbrev pub both : ℕ
both = 2

abbrev pub negation : ℕ
negation = 3

abbrev pub comparison : ℕ
comparison = 4

abbrev pub sum : ℕ
sum = 5

abbrev pub product : ℕ
product = 6

abbrev pub signed : ℕ
signed = 7

-- the pieces of an expression, and how tightly it holds together
pub record Shown : Type 0 where
  pub holds : ℕ
  pub pieces : List Piece

-- in parentheses where it holds together less than its place asks for
unfoldable pub at_least : ℕ → Shown → List Piece
at_least asked x = if nat_lt x.holds asked then in_parens x.pieces else x.pieces

-- a further operand of a chain
pub record Link : Type 0 where
  pub op : ArithOp
  pub operand : Shown

abbrev pub op_text : ArithOp → List Piece
op_text arith_op.Plus = between m.Plus (codes "+")
op_text arith_op.Minus = between m.Minus (codes "-")
op_text arith_op.Times = between m.Star (codes "*")
op_text arith_op.Div = between m.Slashes (codes "//")
op_text arith_op.Mod = between m.Percent (codes "%")

abbrev pub cmp_text : CmpOp → List Piece
cmp_text cmp_op.Eq = between m.Equal (codes "==")
cmp_text cmp_op.Ne = between m.NotEqual (codes "!=")
cmp_text cmp_op.Lt = between m.Less (codes "<")
cmp_text cmp_op.Le = between m.LessEqual (codes "<=")
cmp_text cmp_op.Gt = between m.Greater (codes ">")
cmp_text cmp_op.Ge = between m.GreaterEqual (codes ">=")

-- whether a sign makes a sum
abbrev pub is_sum : ArithOp → Bool
is_sum arith_op.Plus = true
is_sum arith_op.Minus = true
is_sum _ = false

abbrev pub linked : ℕ → List Link → List Piece
linked asked [] = []
linked asked (l ∷ ls) = op_text l.op ++ at_least asked l.operand ++ linked asked ls

-- the chain's operands ask for more than it holds
abbrev pub chain : Bool → Shown → List Link → Shown
chain true x links = record { holds = sum; pieces = at_least product x ++ linked product links }
chain false x links = record { holds = product; pieces = at_least signed x ++ linked signed links }

abbrev pub chained : Shown → List Link → Shown
chained x [] = x
chained x (l ∷ ls) = chain (is_sum l.op) x (l ∷ ls)

-- the word of a call of the language's own, and its arguments
abbrev pub call : Mark → List ℕ → List (List Piece) → Shown
call k bytes args = record { holds = signed; pieces = token k bytes ∷ in_parens (listed args) }

abbrev pub atom : List Piece → Shown
atom ps = record { holds = signed; pieces = ps }

-- a condition after `|`
abbrev pub condition : Option Shown → List Piece
condition None = []
condition (Some x) = between m.Bar (codes "|") ++ x.pieces

abbrev pub quantifier : Bool → List Piece
quantifier false = before m.Some (codes "some")
quantifier true = before m.Each (codes "each")

abbrev pub truth : Bool → List Piece
truth true = one m.True (codes "true")
truth false = one m.False (codes "false")

abbrev pub me : List Piece
me = one m.SelfWord (codes "self")

abbrev pub source : SourceTree → List Piece
source source_tree.Received = one m.Received (codes "received")
source source_tree.Sent = one m.Sent (codes "sent")
source (source_tree.Name b) = name b

abbrev pub all_at_least : ℕ → List Shown → List (List Piece)
all_at_least asked = map (at_least asked)

abbrev pub expr_step : Expr-F Shown (List Piece) (List Piece) Link (List Piece) → Shown
expr_step (Expr-F.Quant each gens cond) = record { holds = quantified; pieces = quantifier each ++ listed gens ++ condition cond }
expr_step (Expr-F.Or xs) = record { holds = either; pieces = joined (between m.Or (codes "or")) (all_at_least both xs) }
expr_step (Expr-F.And xs) = record { holds = both; pieces = joined (between m.And (codes "and")) (all_at_least negation xs) }
expr_step (Expr-F.Not x) = record { holds = negation; pieces = before m.Not (codes "not") ++ at_least negation x }
expr_step (Expr-F.Cmp op x y) = record { holds = comparison; pieces = at_least sum x ++ cmp_text op ++ at_least sum y }
expr_step (Expr-F.Member x y) = record { holds = comparison; pieces = at_least sum x ++ between m.In (codes "in") ++ at_least sum y }
expr_step (Expr-F.Chain x links) = chained x links
expr_step (Expr-F.«Expr::Int» n) = atom (number n)
expr_step (Expr-F.«Expr::Text» bytes) = atom (string bytes)
expr_step (Expr-F.«Expr::Truth» b) = atom (truth b)
expr_step Expr-F.«Expr::Me» = atom me
expr_step (Expr-F.«Expr::Name» bytes) = atom (name bytes)
expr_step Expr-F.Clock = call m.LogicalTime (codes "logical_time") []
expr_step (Expr-F.Range x y) = call m.Range (codes "range") (all_at_least either (x ∷ y ∷ []))
expr_step (Expr-F.«Expr::Tuple» xs) = atom (tupled (all_at_least either xs))
expr_step (Expr-F.SetOf xs) = atom (one m.OpenBrace (codes "{") ++ listed (all_at_least either xs) ++ one m.CloseBrace (codes "}"))
expr_step (Expr-F.Comp x gens cond) = atom (one m.OpenBrace (codes "{") ++ at_least either x ++ colon ++ gap ∷ listed gens ++ condition cond ++ one m.CloseBrace (codes "}"))
expr_step (Expr-F.Count x) = call m.Count (codes "count") (all_at_least either (x ∷ []))
expr_step (Expr-F.Sum x) = call m.Sum (codes "sum") (all_at_least either (x ∷ []))
expr_step (Expr-F.Min x y) = call m.Min (codes "min") (all_at_least either (x ∷ y ∷ []))
expr_step (Expr-F.Max x y) = call m.Max (codes "max") (all_at_least either (x ∷ y ∷ []))

abbrev pub pattern_step : PatternTree-F Shown (List Piece) (List Piece) Link (List Piece) → List Piece
pattern_step PatternTree-F.Wild = one m.Wild (codes "_")
pattern_step (PatternTree-F.«PatternTree::Name» bytes) = name bytes
pattern_step (PatternTree-F.«PatternTree::Int» n) = number n
pattern_step (PatternTree-F.«PatternTree::Text» bytes) = string bytes
pattern_step (PatternTree-F.«PatternTree::Truth» b) = truth b
pattern_step PatternTree-F.«PatternTree::Me» = me
pattern_step (PatternTree-F.Equal x) = one m.Assign (codes "=") ++ at_least signed x
pattern_step (PatternTree-F.«PatternTree::Tuple» ps) = tupled ps

-- the pattern of the other process, with its word and a space on each side of it
abbrev pub peer_step : PeerTree-F Shown (List Piece) (List Piece) Link (List Piece) → List Piece
peer_step (PeerTree-F.From p) = between m.From (codes "from") ++ p
peer_step (PeerTree-F.To p) = between m.To (codes "to") ++ p

abbrev pub chain_step : ChainTree-F Shown (List Piece) (List Piece) Link (List Piece) → Link
chain_step link = record { op = link.op; operand = link.operand }

abbrev pub peer : Option (List Piece) → List Piece
peer None = []
peer (Some ps) = ps

abbrev pub gen_step : GenTree-F Shown (List Piece) (List Piece) Link (List Piece) → List Piece
gen_step g = g.message ++ peer g.peer ++ between m.In (codes "in") ++ source g.source

unfoldable pub shown : Expr → Shown
shown = fold-Expr Shown (List Piece) (List Piece) Link (List Piece) expr_step pattern_step peer_step chain_step gen_step

unfoldable pub pattern_pieces : PatternTree → List Piece
pattern_pieces = fold-PatternTree Shown (List Piece) (List Piece) Link (List Piece) expr_step pattern_step peer_step chain_step gen_step

-- the pattern of the other process, with its word
unfoldable pub peer_pieces : PeerTree → List Piece
peer_pieces = fold-PeerTree Shown (List Piece) (List Piece) Link (List Piece) expr_step pattern_step peer_step chain_step gen_step

unfoldable pub link_of : ChainTree → Link
link_of = fold-ChainTree Shown (List Piece) (List Piece) Link (List Piece) expr_step pattern_step peer_step chain_step gen_step

unfoldable pub gen_pieces : GenTree → List Piece
gen_pieces = fold-GenTree Shown (List Piece) (List Piece) Link (List Piece) expr_step pattern_step peer_step chain_step gen_step

-- an expression that may be a quantification
abbrev pub expr_pieces : Expr → List Piece
expr_pieces x = (shown x).pieces

abbrev pub type_step : ty.Ty-F (List Piece) → List Piece
type_step ty.Int = one m.Int (codes "int")
type_step ty.Bool = one m.Bool (codes "bool")
type_step ty.Text = one m.Str (codes "str")
type_step ty.Proc = one m.Proc (codes "proc")
type_step (ty.Tuple parts) = tupled parts
type_step (ty.Set element) = one m.Set (codes "set") ++ one m.OpenBracket (codes "[") ++ element ++ one m.CloseBracket (codes "]")

unfoldable pub type_pieces : Ty → List Piece
type_pieces = fold-Ty (List Piece) type_step
