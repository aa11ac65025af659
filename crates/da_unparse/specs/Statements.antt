-- How statements are printed.
use Rattle.std.specs.Prelude.{ℕ, ◌+◌, List, [], ◌∷◌, ◌++◌, codes, map, Option, Some, None}
use Rattle.std.specs.List.{flat_map}
use Rattle.da_values.specs.declared.token.Mark.{Mark}
use Rattle.da_values.specs.declared.token.Mark.TheVariants as m
use Rattle.da_lang.specs.declared.tree.Branch.{Branch}
use Rattle.da_lang.specs.declared.tree.Expr.{Expr}
use Rattle.da_lang.specs.declared.tree.Stmt.{Stmt}
use Rattle.da_lang.specs.declared.tree.Stmt.TheFolds.{fold-Stmt, fold-Branch, fold-TimeoutTree}
use Rattle.da_lang.specs.declared.tree.Stmt.TheOpen.{Stmt-F, Branch-F, TimeoutTree-F}
use Rattle.da_lang.specs.declared.tree.TimeoutTree.{TimeoutTree}
use Rattle.da_unparse.specs.Expressions.{expr_pieces, all_at_least, either, shown}
use Rattle.da_unparse.specs.Lines.{Line}
use Rattle.da_unparse.specs.Pieces.{Piece, token, one, name, colon, between, before, in_parens, listed}

-- lines, by the level at which they begin
abbrev pub Block : Type 0
Block = ℕ → List Line

abbrev pub line : List Piece → Block
line ps level = record { level = level; pieces = ps } ∷ []

abbrev pub then : Block → Block → Block
then first second level = first level ++ second level

-- the statements of a block, one level deeper
abbrev pub block : List Block → Block
block stmts level = flat_map (λ stmt. stmt (level + 1)) stmts

-- a header with its colon, and its block
abbrev pub headed : List Piece → List Block → Block
headed header stmts = then (line (header ++ colon)) (block stmts)

-- a condition and a block, which a word will stand before
pub record Guarded : Type 0 where
  pub cond : List Piece
  pub body : List Block

abbrev pub guarded : Mark → List ℕ → Guarded → Block
guarded k bytes g = headed (before k bytes ++ g.cond) g.body

abbrev pub each_guarded : Mark → List ℕ → List Guarded → Block
each_guarded k bytes gs level = flat_map (λ g. guarded k bytes g level) gs

-- the first one has another word than the others
abbrev pub first_and_others : Mark → List ℕ → Mark → List ℕ → List Guarded → Block
first_and_others k bytes l others [] level = []
first_and_others k bytes l others (g ∷ gs) level = guarded k bytes g level ++ each_guarded l others gs level

abbrev pub otherwise : Option (List Block) → Block
otherwise None level = []
otherwise (Some stmts) level = headed (one m.Else (codes "else")) stmts level

abbrev pub timeout : Option (List Block) → Block
timeout None level = []
timeout (Some stmts) level = headed (one m.Timeout (codes "timeout")) stmts level

-- `NAME.WORD(EXPR)`
abbrev pub change : List ℕ → Mark → List ℕ → Expr → Block
change set k bytes x = line (name set ++ one m.Dot (codes ".") ++ token k bytes ∷ in_parens (expr_pieces x))

abbrev pub arguments : List Expr → List Piece
arguments xs = in_parens (listed (all_at_least either (map shown xs)))

abbrev pub stmt_step : Stmt-F Block Guarded (List Block) → Block
stmt_step (Stmt-F.Assign n x at) = line (name n ++ between m.Assign (codes "=") ++ expr_pieces x)
stmt_step (Stmt-F.Add n x at) = change n m.Add (codes "add") x
stmt_step (Stmt-F.Del n x at) = change n m.Del (codes "del") x
stmt_step (Stmt-F.Send x y at) = line (before m.Send (codes "send") ++ expr_pieces x ++ between m.To (codes "to") ++ expr_pieces y)
stmt_step (Stmt-F.Output x at) = line (token m.Output (codes "output") ∷ in_parens (expr_pieces x))
stmt_step (Stmt-F.Pass at) = line (one m.Pass (codes "pass"))
stmt_step (Stmt-F.Label n at) = line (before m.Dashes (codes "--") ++ name n)
stmt_step (Stmt-F.Call n xs at) = line (name n ++ arguments xs)
stmt_step (Stmt-F.If gs other at) = then (first_and_others m.If (codes "if") m.Elif (codes "elif") gs) (otherwise other)
stmt_step (Stmt-F.While x body at) = headed (before m.While (codes "while") ++ expr_pieces x) body
stmt_step (Stmt-F.For n x body at) = headed (before m.For (codes "for") ++ name n ++ between m.In (codes "in") ++ expr_pieces x) body
stmt_step (Stmt-F.AwaitOne x at) = line (before m.Await (codes "await") ++ expr_pieces x)
stmt_step (Stmt-F.Await gs over at) = then (first_and_others m.Await (codes "await") m.Or (codes "or") gs) (timeout over)

abbrev pub branch_step : Branch-F Block Guarded (List Block) → Guarded
branch_step b = record { cond = expr_pieces b.cond; body = b.body }

abbrev pub timeout_step : TimeoutTree-F Block Guarded (List Block) → List Block
timeout_step t = t.body

unfoldable pub stmt_lines : Stmt → Block
stmt_lines = fold-Stmt Block Guarded (List Block) stmt_step branch_step timeout_step

-- a condition with its block, and the statements of a timeout
unfoldable pub guarded_of : Branch → Guarded
guarded_of = fold-Branch Block Guarded (List Block) stmt_step branch_step timeout_step

unfoldable pub timeout_of : TimeoutTree → List Block
timeout_of = fold-TimeoutTree Block Guarded (List Block) stmt_step branch_step timeout_step

-- the lines of a body, one level deeper than its header
abbrev pub body_lines : List Stmt → Block
body_lines stmts = block (map stmt_lines stmts)
