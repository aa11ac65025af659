-- What is printed of an expression, a pattern, a type and a statement, one layer at a time.
use Rattle.std.specs.Prelude.{ℕ, ℤ, Bool, List, [], ◌∷◌, ◌++◌, codes, map, Option, Some, None}
use Rattle.std.specs.Option.{option_map}
use Rattle.std.proofs.Common.{◌≡◌, ◌∙◌, ap, sym}
use Rattle.da_values.specs.declared.token.Mark.TheVariants as m
use Rattle.da_lang.specs.declared.tree.ArithOp.{ArithOp}
use Rattle.da_lang.specs.declared.tree.Branch.{Branch, roll-Branch}
use Rattle.da_lang.specs.declared.tree.ChainTree.{ChainTree, roll-ChainTree}
use Rattle.da_lang.specs.declared.tree.CmpOp.{CmpOp}
use Rattle.da_lang.specs.declared.tree.Expr.{Expr, roll-Expr}
use Rattle.da_lang.specs.declared.tree.Expr.TheVariants as ex
use Rattle.da_lang.specs.declared.tree.Expr.TheOpen.{Expr-F, PatternTree-F, PeerTree-F}
use Rattle.da_lang.specs.declared.tree.Expr.TheFolds.{map-Expr, map-PatternTree, map-PeerTree, fold-roll-Expr, fold-roll-PatternTree, fold-roll-PeerTree, fold-roll-ChainTree, fold-roll-GenTree}
use Rattle.da_lang.specs.declared.tree.GenTree.{GenTree, roll-GenTree}
use Rattle.da_lang.specs.declared.tree.PatternTree.{PatternTree, roll-PatternTree}
use Rattle.da_lang.specs.declared.tree.PatternTree.TheVariants as pattern
use Rattle.da_lang.specs.declared.tree.PeerTree.{PeerTree, roll-PeerTree}
use Rattle.da_lang.specs.declared.tree.PeerTree.TheVariants as other
use Rattle.da_lang.specs.declared.tree.SourceTree.{SourceTree}
use Rattle.da_lang.specs.declared.tree.Stmt.{Stmt, roll-Stmt}
use Rattle.da_lang.specs.declared.tree.Stmt.TheVariants as stmt
use Rattle.da_lang.specs.declared.tree.Stmt.TheOpen.{Stmt-F}
use Rattle.da_lang.specs.declared.tree.Stmt.TheFolds.{map-Stmt, fold-roll-Stmt, fold-roll-Branch, fold-roll-TimeoutTree}
use Rattle.da_lang.specs.declared.tree.TimeoutTree.{TimeoutTree, roll-TimeoutTree}
use Rattle.da_lang.specs.declared.ty.Ty.{Ty, roll-Ty}
use Rattle.da_lang.specs.declared.ty.Ty.TheVariants as ty
use Rattle.da_lang.specs.declared.ty.Ty.TheOpen.{Ty-F}
use Rattle.da_lang.specs.declared.ty.Ty.TheFolds.{map-Ty, fold-roll-Ty}
use Rattle.da_unparse.specs.Expressions.{Shown, Link, quantified, either, both, negation, comparison, sum, signed, at_least, all_at_least, cmp_text, chained, call, atom, condition, quantifier, truth, me, source, peer, expr_step, pattern_step, peer_step, chain_step, gen_step, type_step, shown, pattern_pieces, peer_pieces, link_of, gen_pieces, expr_pieces, type_pieces}
use Rattle.da_unparse.specs.Pieces.{Piece, gap, token, one, name, colon, between, before, joined, listed, in_parens, tupled, number, string}
use Rattle.da_unparse.specs.Statements.{Block, Guarded, line, then, headed, first_and_others, otherwise, timeout, change, arguments, stmt_step, branch_step, timeout_step, stmt_lines, guarded_of, timeout_of}

-- an expression by its outermost layer
pub shown_layer : (x : Expr-F Expr PatternTree PeerTree ChainTree GenTree) → shown (roll-Expr x) ≡ expr_step (map-Expr Expr PatternTree PeerTree ChainTree GenTree Shown (List Piece) (List Piece) Link (List Piece) shown pattern_pieces peer_pieces link_of gen_pieces x)
unfolding shown pattern_pieces peer_pieces link_of gen_pieces
shown_layer x = fold-roll-Expr Shown (List Piece) (List Piece) Link (List Piece) expr_step pattern_step peer_step chain_step gen_step x

pub shown-Quant : (each : Bool) (gens : List GenTree) (cond : Option Expr) → shown (ex.Quant each gens cond) ≡ record { holds = quantified; pieces = quantifier each ++ listed (map gen_pieces gens) ++ condition (option_map shown cond) }
shown-Quant each gens None = ap shown (sym (ex.rolls-Quant each gens None)) ∙ shown_layer (Expr-F.Quant each gens None)
shown-Quant each gens (Some o) = ap shown (sym (ex.rolls-Quant each gens (Some o))) ∙ shown_layer (Expr-F.Quant each gens (Some o))

pub shown-Or : (xs : List Expr) → shown (ex.Or xs) ≡ record { holds = either; pieces = joined (between m.Or (codes "or")) (all_at_least both (map shown xs)) }
shown-Or xs = ap shown (sym (ex.rolls-Or xs)) ∙ shown_layer (Expr-F.Or xs)

pub shown-And : (xs : List Expr) → shown (ex.And xs) ≡ record { holds = both; pieces = joined (between m.And (codes "and")) (all_at_least negation (map shown xs)) }
shown-And xs = ap shown (sym (ex.rolls-And xs)) ∙ shown_layer (Expr-F.And xs)

pub shown-Not : (x : Expr) → shown (ex.Not x) ≡ record { holds = negation; pieces = before m.Not (codes "not") ++ at_least negation (shown x) }
shown-Not x = ap shown (sym (ex.rolls-Not x)) ∙ shown_layer (Expr-F.Not x)

pub shown-Cmp : (op : CmpOp) (x y : Expr) → shown (ex.Cmp op x y) ≡ record { holds = comparison; pieces = at_least sum (shown x) ++ cmp_text op ++ at_least sum (shown y) }
shown-Cmp op x y = ap shown (sym (ex.rolls-Cmp op x y)) ∙ shown_layer (Expr-F.Cmp op x y)

pub shown-Member : (x y : Expr) → shown (ex.Member x y) ≡ record { holds = comparison; pieces = at_least sum (shown x) ++ between m.In (codes "in") ++ at_least sum (shown y) }
shown-Member x y = ap shown (sym (ex.rolls-Member x y)) ∙ shown_layer (Expr-F.Member x y)

pub shown-Chain : (x : Expr) (links : List ChainTree) → shown (ex.Chain x links) ≡ chained (shown x) (map link_of links)
shown-Chain x links = ap shown (sym (ex.rolls-Chain x links)) ∙ shown_layer (Expr-F.Chain x links)

pub shown-Int : (n : ℤ) → shown (ex.Int n) ≡ atom (number n)
shown-Int n = ap shown (sym (ex.rolls-Int n)) ∙ shown_layer (Expr-F.«Expr::Int» n)

pub shown-Text : (bytes : List ℕ) → shown (ex.Text bytes) ≡ atom (string bytes)
shown-Text bytes = ap shown (sym (ex.rolls-Text bytes)) ∙ shown_layer (Expr-F.«Expr::Text» bytes)

pub shown-Truth : (b : Bool) → shown (ex.Truth b) ≡ atom (truth b)
shown-Truth b = ap shown (sym (ex.rolls-Truth b)) ∙ shown_layer (Expr-F.«Expr::Truth» b)

pub shown-Me : shown ex.Me ≡ atom me
shown-Me = ap shown (sym ex.rolls-Me) ∙ shown_layer Expr-F.«Expr::Me»

pub shown-Name : (bytes : List ℕ) → shown (ex.Name bytes) ≡ atom (name bytes)
shown-Name bytes = ap shown (sym (ex.rolls-Name bytes)) ∙ shown_layer (Expr-F.«Expr::Name» bytes)

pub shown-Clock : shown ex.Clock ≡ call m.LogicalTime (codes "logical_time") []
shown-Clock = ap shown (sym ex.rolls-Clock) ∙ shown_layer Expr-F.Clock

pub shown-Range : (x y : Expr) → shown (ex.Range x y) ≡ call m.Range (codes "range") (all_at_least either (shown x ∷ shown y ∷ []))
shown-Range x y = ap shown (sym (ex.rolls-Range x y)) ∙ shown_layer (Expr-F.Range x y)

pub shown-Tuple : (xs : List Expr) → shown (ex.Tuple xs) ≡ atom (tupled (all_at_least either (map shown xs)))
shown-Tuple xs = ap shown (sym (ex.rolls-Tuple xs)) ∙ shown_layer (Expr-F.«Expr::Tuple» xs)

pub shown-SetOf : (xs : List Expr) → shown (ex.SetOf xs) ≡ atom (one m.OpenBrace (codes "{") ++ listed (all_at_least either (map shown xs)) ++ one m.CloseBrace (codes "}"))
shown-SetOf xs = ap shown (sym (ex.rolls-SetOf xs)) ∙ shown_layer (Expr-F.SetOf xs)

pub shown-Comp : (x : Expr) (gens : List GenTree) (cond : Option Expr) → shown (ex.Comp x gens cond) ≡ atom (one m.OpenBrace (codes "{") ++ at_least either (shown x) ++ colon ++ gap ∷ listed (map gen_pieces gens) ++ condition (option_map shown cond) ++ one m.CloseBrace (codes "}"))
shown-Comp x gens None = ap shown (sym (ex.rolls-Comp x gens None)) ∙ shown_layer (Expr-F.Comp x gens None)
shown-Comp x gens (Some o) = ap shown (sym (ex.rolls-Comp x gens (Some o))) ∙ shown_layer (Expr-F.Comp x gens (Some o))

pub shown-Count : (x : Expr) → shown (ex.Count x) ≡ call m.Count (codes "count") (all_at_least either (shown x ∷ []))
shown-Count x = ap shown (sym (ex.rolls-Count x)) ∙ shown_layer (Expr-F.Count x)

pub shown-Sum : (x : Expr) → shown (ex.Sum x) ≡ call m.Sum (codes "sum") (all_at_least either (shown x ∷ []))
shown-Sum x = ap shown (sym (ex.rolls-Sum x)) ∙ shown_layer (Expr-F.Sum x)

pub shown-Min : (x y : Expr) → shown (ex.Min x y) ≡ call m.Min (codes "min") (all_at_least either (shown x ∷ shown y ∷ []))
shown-Min x y = ap shown (sym (ex.rolls-Min x y)) ∙ shown_layer (Expr-F.Min x y)

pub shown-Max : (x y : Expr) → shown (ex.Max x y) ≡ call m.Max (codes "max") (all_at_least either (shown x ∷ shown y ∷ []))
shown-Max x y = ap shown (sym (ex.rolls-Max x y)) ∙ shown_layer (Expr-F.Max x y)

pub pattern_layer : (p : PatternTree-F Expr PatternTree PeerTree ChainTree GenTree) → pattern_pieces (roll-PatternTree p) ≡ pattern_step (map-PatternTree Expr PatternTree PeerTree ChainTree GenTree Shown (List Piece) (List Piece) Link (List Piece) shown pattern_pieces peer_pieces link_of gen_pieces p)
unfolding shown pattern_pieces peer_pieces link_of gen_pieces
pattern_layer p = fold-roll-PatternTree Shown (List Piece) (List Piece) Link (List Piece) expr_step pattern_step peer_step chain_step gen_step p

pub pattern-Wild : pattern_pieces pattern.Wild ≡ one m.Wild (codes "_")
pattern-Wild = ap pattern_pieces (sym pattern.rolls-Wild) ∙ pattern_layer PatternTree-F.Wild

pub pattern-Name : (bytes : List ℕ) → pattern_pieces (pattern.Name bytes) ≡ name bytes
pattern-Name bytes = ap pattern_pieces (sym (pattern.rolls-Name bytes)) ∙ pattern_layer (PatternTree-F.«PatternTree::Name» bytes)

pub pattern-Int : (n : ℤ) → pattern_pieces (pattern.Int n) ≡ number n
pattern-Int n = ap pattern_pieces (sym (pattern.rolls-Int n)) ∙ pattern_layer (PatternTree-F.«PatternTree::Int» n)

pub pattern-Text : (bytes : List ℕ) → pattern_pieces (pattern.Text bytes) ≡ string bytes
pattern-Text bytes = ap pattern_pieces (sym (pattern.rolls-Text bytes)) ∙ pattern_layer (PatternTree-F.«PatternTree::Text» bytes)

pub pattern-Truth : (b : Bool) → pattern_pieces (pattern.Truth b) ≡ truth b
pattern-Truth b = ap pattern_pieces (sym (pattern.rolls-Truth b)) ∙ pattern_layer (PatternTree-F.«PatternTree::Truth» b)

pub pattern-Me : pattern_pieces pattern.Me ≡ me
pattern-Me = ap pattern_pieces (sym pattern.rolls-Me) ∙ pattern_layer PatternTree-F.«PatternTree::Me»

pub pattern-Equal : (x : Expr) → pattern_pieces (pattern.Equal x) ≡ one m.Assign (codes "=") ++ at_least signed (shown x)
pattern-Equal x = ap pattern_pieces (sym (pattern.rolls-Equal x)) ∙ pattern_layer (PatternTree-F.Equal x)

pub pattern-Tuple : (ps : List PatternTree) → pattern_pieces (pattern.Tuple ps) ≡ tupled (map pattern_pieces ps)
pattern-Tuple ps = ap pattern_pieces (sym (pattern.rolls-Tuple ps)) ∙ pattern_layer (PatternTree-F.«PatternTree::Tuple» ps)

pub peer_layer : (p : PeerTree-F Expr PatternTree PeerTree ChainTree GenTree) → peer_pieces (roll-PeerTree p) ≡ peer_step (map-PeerTree Expr PatternTree PeerTree ChainTree GenTree Shown (List Piece) (List Piece) Link (List Piece) shown pattern_pieces peer_pieces link_of gen_pieces p)
unfolding shown pattern_pieces peer_pieces link_of gen_pieces
peer_layer p = fold-roll-PeerTree Shown (List Piece) (List Piece) Link (List Piece) expr_step pattern_step peer_step chain_step gen_step p

pub peer-From : (p : PatternTree) → peer_pieces (other.From p) ≡ between m.From (codes "from") ++ pattern_pieces p
peer-From p = ap peer_pieces (sym (other.rolls-From p)) ∙ peer_layer (PeerTree-F.From p)

pub peer-To : (p : PatternTree) → peer_pieces (other.To p) ≡ between m.To (codes "to") ++ pattern_pieces p
peer-To p = ap peer_pieces (sym (other.rolls-To p)) ∙ peer_layer (PeerTree-F.To p)

pub link_at : (op : ArithOp) (x : Expr) → link_of (roll-ChainTree (record { op = op; operand = x })) ≡ record { op = op; operand = shown x }
unfolding shown pattern_pieces peer_pieces link_of gen_pieces
link_at op x = fold-roll-ChainTree Shown (List Piece) (List Piece) Link (List Piece) expr_step pattern_step peer_step chain_step gen_step (record { op = op; operand = x })

pub gen_at : (p : PatternTree) (o : Option PeerTree) (s : SourceTree) → gen_pieces (roll-GenTree (record { message = p; peer = o; source = s })) ≡ pattern_pieces p ++ peer (option_map peer_pieces o) ++ between m.In (codes "in") ++ source s
unfolding shown pattern_pieces peer_pieces link_of gen_pieces
gen_at p None s = fold-roll-GenTree Shown (List Piece) (List Piece) Link (List Piece) expr_step pattern_step peer_step chain_step gen_step (record { message = p; peer = None; source = s })
gen_at p (Some o) s = fold-roll-GenTree Shown (List Piece) (List Piece) Link (List Piece) expr_step pattern_step peer_step chain_step gen_step (record { message = p; peer = Some o; source = s })

pub type_layer : (t : Ty-F Ty) → type_pieces (roll-Ty t) ≡ type_step (map-Ty Ty (List Piece) type_pieces t)
unfolding type_pieces
type_layer t = fold-roll-Ty (List Piece) type_step t

pub type-Int : type_pieces ty.Int ≡ one m.Int (codes "int")
type-Int = ap type_pieces (sym ty.rolls-Int) ∙ type_layer Ty-F.Int

pub type-Bool : type_pieces ty.Bool ≡ one m.Bool (codes "bool")
type-Bool = ap type_pieces (sym ty.rolls-Bool) ∙ type_layer Ty-F.Bool

pub type-Text : type_pieces ty.Text ≡ one m.Str (codes "str")
type-Text = ap type_pieces (sym ty.rolls-Text) ∙ type_layer Ty-F.Text

pub type-Proc : type_pieces ty.Proc ≡ one m.Proc (codes "proc")
type-Proc = ap type_pieces (sym ty.rolls-Proc) ∙ type_layer Ty-F.Proc

pub type-Tuple : (parts : List Ty) → type_pieces (ty.Tuple parts) ≡ tupled (map type_pieces parts)
type-Tuple parts = ap type_pieces (sym (ty.rolls-Tuple parts)) ∙ type_layer (Ty-F.Tuple parts)

pub type-Set : (element : Ty) → type_pieces (ty.Set element) ≡ one m.Set (codes "set") ++ one m.OpenBracket (codes "[") ++ type_pieces element ++ one m.CloseBracket (codes "]")
type-Set element = ap type_pieces (sym (ty.rolls-Set element)) ∙ type_layer (Ty-F.Set element)

-- a statement by its outermost layer
pub stmt_layer : (s : Stmt-F Stmt Branch TimeoutTree) → stmt_lines (roll-Stmt s) ≡ stmt_step (map-Stmt Stmt Branch TimeoutTree Block Guarded (List Block) stmt_lines guarded_of timeout_of s)
unfolding stmt_lines guarded_of timeout_of
stmt_layer s = fold-roll-Stmt Block Guarded (List Block) stmt_step branch_step timeout_step s

pub stmt-Assign : (n : List ℕ) (x : Expr) (at : ℕ) → stmt_lines (stmt.Assign n x at) ≡ line (name n ++ between m.Assign (codes "=") ++ expr_pieces x)
stmt-Assign n x at = ap stmt_lines (sym (stmt.rolls-Assign n x at)) ∙ stmt_layer (Stmt-F.Assign n x at)

pub stmt-Add : (n : List ℕ) (x : Expr) (at : ℕ) → stmt_lines (stmt.Add n x at) ≡ change n m.Add (codes "add") x
stmt-Add n x at = ap stmt_lines (sym (stmt.rolls-Add n x at)) ∙ stmt_layer (Stmt-F.Add n x at)

pub stmt-Del : (n : List ℕ) (x : Expr) (at : ℕ) → stmt_lines (stmt.Del n x at) ≡ change n m.Del (codes "del") x
stmt-Del n x at = ap stmt_lines (sym (stmt.rolls-Del n x at)) ∙ stmt_layer (Stmt-F.Del n x at)

pub stmt-Send : (x y : Expr) (at : ℕ) → stmt_lines (stmt.Send x y at) ≡ line (before m.Send (codes "send") ++ expr_pieces x ++ between m.To (codes "to") ++ expr_pieces y)
stmt-Send x y at = ap stmt_lines (sym (stmt.rolls-Send x y at)) ∙ stmt_layer (Stmt-F.Send x y at)

pub stmt-Output : (x : Expr) (at : ℕ) → stmt_lines (stmt.Output x at) ≡ line (token m.Output (codes "output") ∷ in_parens (expr_pieces x))
stmt-Output x at = ap stmt_lines (sym (stmt.rolls-Output x at)) ∙ stmt_layer (Stmt-F.Output x at)

pub stmt-Pass : (at : ℕ) → stmt_lines (stmt.Pass at) ≡ line (one m.Pass (codes "pass"))
stmt-Pass at = ap stmt_lines (sym (stmt.rolls-Pass at)) ∙ stmt_layer (Stmt-F.Pass at)

pub stmt-Label : (n : List ℕ) (at : ℕ) → stmt_lines (stmt.Label n at) ≡ line (before m.Dashes (codes "--") ++ name n)
stmt-Label n at = ap stmt_lines (sym (stmt.rolls-Label n at)) ∙ stmt_layer (Stmt-F.Label n at)

pub stmt-Call : (n : List ℕ) (xs : List Expr) (at : ℕ) → stmt_lines (stmt.Call n xs at) ≡ line (name n ++ arguments xs)
stmt-Call n xs at = ap stmt_lines (sym (stmt.rolls-Call n xs at)) ∙ stmt_layer (Stmt-F.Call n xs at)

pub stmt-If : (gs : List Branch) (other : Option (List Stmt)) (at : ℕ) → stmt_lines (stmt.If gs other at) ≡ then (first_and_others m.If (codes "if") m.Elif (codes "elif") (map guarded_of gs)) (otherwise (option_map (map stmt_lines) other))
stmt-If gs None at = ap stmt_lines (sym (stmt.rolls-If gs None at)) ∙ stmt_layer (Stmt-F.If gs None at)
stmt-If gs (Some o) at = ap stmt_lines (sym (stmt.rolls-If gs (Some o) at)) ∙ stmt_layer (Stmt-F.If gs (Some o) at)

pub stmt-While : (x : Expr) (body : List Stmt) (at : ℕ) → stmt_lines (stmt.While x body at) ≡ headed (before m.While (codes "while") ++ expr_pieces x) (map stmt_lines body)
stmt-While x body at = ap stmt_lines (sym (stmt.rolls-While x body at)) ∙ stmt_layer (Stmt-F.While x body at)

pub stmt-For : (n : List ℕ) (x : Expr) (body : List Stmt) (at : ℕ) → stmt_lines (stmt.For n x body at) ≡ headed (before m.For (codes "for") ++ name n ++ between m.In (codes "in") ++ expr_pieces x) (map stmt_lines body)
stmt-For n x body at = ap stmt_lines (sym (stmt.rolls-For n x body at)) ∙ stmt_layer (Stmt-F.For n x body at)

pub stmt-AwaitOne : (x : Expr) (at : ℕ) → stmt_lines (stmt.AwaitOne x at) ≡ line (before m.Await (codes "await") ++ expr_pieces x)
stmt-AwaitOne x at = ap stmt_lines (sym (stmt.rolls-AwaitOne x at)) ∙ stmt_layer (Stmt-F.AwaitOne x at)

pub stmt-Await : (gs : List Branch) (over : Option TimeoutTree) (at : ℕ) → stmt_lines (stmt.Await gs over at) ≡ then (first_and_others m.Await (codes "await") m.Or (codes "or") (map guarded_of gs)) (timeout (option_map timeout_of over))
stmt-Await gs None at = ap stmt_lines (sym (stmt.rolls-Await gs None at)) ∙ stmt_layer (Stmt-F.Await gs None at)
stmt-Await gs (Some o) at = ap stmt_lines (sym (stmt.rolls-Await gs (Some o) at)) ∙ stmt_layer (Stmt-F.Await gs (Some o) at)

pub guarded_at : (x : Expr) (body : List Stmt) (at : ℕ) → guarded_of (roll-Branch (record { cond = x; body = body; line = at })) ≡ record { cond = expr_pieces x; body = map stmt_lines body }
unfolding stmt_lines guarded_of timeout_of
guarded_at x body at = fold-roll-Branch Block Guarded (List Block) stmt_step branch_step timeout_step (record { cond = x; body = body; line = at })

pub timeout_at : (body : List Stmt) (at : ℕ) → timeout_of (roll-TimeoutTree (record { body = body; line = at })) ≡ map stmt_lines body
unfolding stmt_lines guarded_of timeout_of
timeout_at body at = fold-roll-TimeoutTree Block Guarded (List Block) stmt_step branch_step timeout_step (record { body = body; line = at })
