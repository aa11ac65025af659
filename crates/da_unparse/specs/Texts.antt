-- The texts of the parts of expressions and statements, in the shape in which code appends them.
use Rattle.std.specs.Prelude.{ℕ, ◌+◌, ◌*◌, ◌==◌, Bool, true, false, if◌then◌else◌, List, [], ◌∷◌, ◌++◌, codes, replicate, Option, Some, None}
use Rattle.std.specs.List.{flat_map}
use Rattle.da_lang.specs.declared.tree.ArithOp.{ArithOp}
use Rattle.da_lang.specs.declared.tree.Branch.{Branch, out-Branch}
use Rattle.da_lang.specs.declared.tree.ChainTree.{ChainTree, out-ChainTree}
use Rattle.da_lang.specs.declared.tree.CmpOp.{CmpOp}
use Rattle.da_lang.specs.declared.tree.Expr.{Expr}
use Rattle.da_lang.specs.declared.tree.GenTree.{GenTree}
use Rattle.da_lang.specs.declared.tree.PatternTree.{PatternTree}
use Rattle.da_lang.specs.declared.tree.PeerTree.{PeerTree}
use Rattle.da_lang.specs.declared.tree.SourceTree.{SourceTree}
use Rattle.da_lang.specs.declared.tree.Stmt.{Stmt}
use Rattle.da_lang.specs.declared.tree.TimeoutTree.{TimeoutTree, out-TimeoutTree}
use Rattle.da_lang.specs.declared.ty.Ty.{Ty}
use Rattle.da_unparse.specs.Expressions.{shown, at_least, expr_pieces, pattern_pieces, peer_pieces, gen_pieces, type_pieces, op_text, cmp_text, source, is_sum, either, sum, product, signed}
use Rattle.da_unparse.specs.Lines.{lines_text}
use Rattle.da_unparse.specs.Pieces.{text_of}
use Rattle.da_unparse.specs.Statements.{stmt_lines}

-- how tightly an expression holds together
unfoldable pub holds : Expr → ℕ
holds x = (shown x).holds

-- an expression in a place that asks for so much, and one that stands alone
unfoldable pub text_at : ℕ → Expr → List ℕ
text_at asked x = text_of (at_least asked (shown x))

unfoldable pub expr_text : Expr → List ℕ
expr_text x = text_of (expr_pieces x)

unfoldable pub pattern_text : PatternTree → List ℕ
pattern_text p = text_of (pattern_pieces p)

unfoldable pub peer_text : PeerTree → List ℕ
peer_text p = text_of (peer_pieces p)

unfoldable pub gen_text : GenTree → List ℕ
gen_text g = text_of (gen_pieces g)

unfoldable pub type_text : Ty → List ℕ
type_text t = text_of (type_pieces t)

unfoldable pub op_word : ArithOp → List ℕ
op_word op = text_of (op_text op)

unfoldable pub cmp_word : CmpOp → List ℕ
cmp_word op = text_of (cmp_text op)

unfoldable pub source_text : SourceTree → List ℕ
source_text s = text_of (source s)

-- what the operands of a chain ask for, by its first sign
unfoldable pub asked_by : ArithOp → ℕ
asked_by op = if is_sum op then product else signed

-- and how tightly it holds together
unfoldable pub held_by : ArithOp → ℕ
held_by op = if is_sum op then sum else product

-- a further operand of a chain
unfoldable pub link_text : ℕ → ChainTree → List ℕ
link_text asked c = op_word (out-ChainTree c).op ++ text_at asked (out-ChainTree c).operand

-- texts with another between each two
abbrev pub separated : {A : Type 0} → List ℕ → (A → List ℕ) → List A → List ℕ
separated between text [] = []
separated between text (x ∷ xs) = text x ++ flat_map (λ y. between ++ text y) xs

-- what closes a tuple of so many parts
unfoldable pub tuple_end : ℕ → List ℕ
tuple_end parts = if parts == 1 then codes ",)" else codes ")"

unfoldable pub quantifier_text : Bool → List ℕ
quantifier_text false = codes "some "
quantifier_text true = codes "each "

unfoldable pub truth_text : Bool → List ℕ
truth_text true = codes "true"
truth_text false = codes "false"

unfoldable pub condition_text : Option Expr → List ℕ
condition_text None = []
condition_text (Some x) = codes " | " ++ expr_text x

unfoldable pub other_text : Option PeerTree → List ℕ
other_text None = []
other_text (Some p) = peer_text p

-- an argument in parentheses
unfoldable pub one_argument : Expr → List ℕ
one_argument x = codes "(" ++ text_at either x ++ codes ")"

-- the spaces before a line of a level
unfoldable pub margin : ℕ → List ℕ
margin level = replicate (4 * level) 32

unfoldable pub stmt_text : ℕ → Stmt → List ℕ
stmt_text level s = lines_text (stmt_lines s level)

-- some statements, each on this level
unfoldable pub stmts_text : ℕ → List Stmt → List ℕ
stmts_text level = flat_map (stmt_text level)

-- a line of a word, an expression and an end, and one with a name before the word
unfoldable pub worded_line : ℕ → List ℕ → Expr → List ℕ → List ℕ
worded_line level word x end = margin level ++ word ++ expr_text x ++ end

unfoldable pub named_line : ℕ → List ℕ → List ℕ → Expr → List ℕ → List ℕ
named_line level name word x end = margin level ++ name ++ word ++ expr_text x ++ end

-- a line that has only a text
unfoldable pub plain_line : ℕ → List ℕ → List ℕ
plain_line level text = margin level ++ text ++ codes "\n"

unfoldable pub send_line : ℕ → Expr → Expr → List ℕ
send_line level x y = margin level ++ codes "send " ++ expr_text x ++ codes " to " ++ expr_text y ++ codes "\n"

unfoldable pub call_line : ℕ → List ℕ → List Expr → List ℕ
call_line level name xs = margin level ++ name ++ codes "(" ++ separated (codes ", ") (text_at either) xs ++ codes ")\n"

unfoldable pub for_line : ℕ → List ℕ → Expr → List ℕ
for_line level name x = margin level ++ codes "for " ++ name ++ codes " in " ++ expr_text x ++ codes ":\n"

-- a word, a condition, and a block
unfoldable pub branch_text : List ℕ → ℕ → Branch → List ℕ
branch_text word level b = worded_line level word (out-Branch b).cond (codes ":\n") ++ stmts_text (level + 1) (out-Branch b).body

unfoldable pub branches_text : List ℕ → List ℕ → ℕ → List Branch → List ℕ
branches_text first others level [] = []
branches_text first others level (b ∷ bs) = branch_text first level b ++ flat_map (branch_text others level) bs

-- a word alone, and a block
unfoldable pub block_text : List ℕ → ℕ → List Stmt → List ℕ
block_text word level stmts = plain_line level word ++ stmts_text (level + 1) stmts

unfoldable pub otherwise_text : ℕ → Option (List Stmt) → List ℕ
otherwise_text level None = []
otherwise_text level (Some stmts) = block_text (codes "else:") level stmts

unfoldable pub timeout_text : ℕ → Option TimeoutTree → List ℕ
timeout_text level None = []
timeout_text level (Some t) = block_text (codes "timeout:") level (out-TimeoutTree t).body
