-- How statements and blocks are read.
use Rattle.std.specs.Prelude.{ℕ, zero, suc, ◌-◌, List, [], ◌∷◌, Option, Some, None}
use Rattle.da_values.specs.declared.token.Mark.{Mark}
use Rattle.da_values.specs.declared.token.Mark.TheVariants as m
use Rattle.da_lang.specs.declared.tree.Branch.{Branch, roll-Branch}
use Rattle.da_lang.specs.declared.tree.Expr.{Expr}
use Rattle.da_lang.specs.declared.tree.Stmt.{Stmt}
use Rattle.da_lang.specs.declared.tree.Stmt.TheVariants as stmt_tree
use Rattle.da_lang.specs.declared.tree.TimeoutTree.{TimeoutTree, roll-TimeoutTree}
use Rattle.da_phrases.specs.declared.place.Level.TheVariants as level
use Rattle.da_phrases.specs.Reader.{Reader, ◌>>=◌, ◌>>◌, pure, refuse, past, taking, by_mark, at_line, after_token, expect, word}
use Rattle.da_phrases.specs.Lists.{begun, ended, closed}
use Rattle.da_phrases.specs.Place.{Limit, Place, at_most_32, opening}
use Rattle.da_phrases.specs.Exprs.{place, at_depth, expression}

abbrev pub branch_of : Expr → List Stmt → ℕ → Branch
branch_of x b at = roll-Branch (record { cond = x; body = b; line = at })

-- what opens with a token in brackets
module _ (p : Place) where
  -- `(EXPR)`, where EXPR may be a quantification
  unfoldable pub in_parens : Reader Expr
  in_parens = do
    opening p.may_open m.OpenParen
    x ← p.expr level.Expr
    expect m.CloseParen
    pure x

  abbrev pub after_paren : Reader (List Expr)
  after_paren = closed m.CloseParen (p.expr level.Disj) []

  unfoldable pub arguments : Reader (List Expr)
  arguments = do
    opening p.may_open m.OpenParen
    after_paren

  -- after `NAME =`
  unfoldable pub assigned : List ℕ → ℕ → Reader Stmt
  assigned name at = do
    x ← expression p
    expect m.Newline
    pure (stmt_tree.Assign name x at)

  -- after `NAME.`
  unfoldable pub changed : List ℕ → ℕ → Reader Stmt
  changed name at = after_token m.Add (do x ← in_parens; expect m.Newline; pure (stmt_tree.Add name x at)) (do expect m.Del; x ← in_parens; expect m.Newline; pure (stmt_tree.Del name x at))

  unfoldable pub called : List ℕ → ℕ → Reader Stmt
  called name at = do
    xs ← arguments
    expect m.Newline
    pure (stmt_tree.Call name xs at)

  -- after a name
  unfoldable pub named : List ℕ → ℕ → Reader Stmt
  named name at = after_token m.Assign (assigned name at) (after_token m.Dot (changed name at) (called name at))

  unfoldable pub sending : ℕ → Reader Stmt
  sending at = do
    message ← expression p
    expect m.To
    to ← expression p
    expect m.Newline
    pure (stmt_tree.Send message to at)

  unfoldable pub output : ℕ → Reader Stmt
  output at = do
    x ← in_parens
    expect m.Newline
    pure (stmt_tree.Output x at)

unfoldable pub passing : ℕ → Reader Stmt
passing at = do
  expect m.Newline
  pure (stmt_tree.Pass at)

unfoldable pub label : ℕ → Reader Stmt
label at = do
  name ← word m.Name
  expect m.Newline
  pure (stmt_tree.Label name at)

module _ (p : Place) where
  -- a statement without blocks, by its first token
  abbrev pub simple_by : ℕ → Option Mark → Reader Stmt
  simple_by at (Some m.Name) = taking (λ b. named p b at)
  simple_by at (Some m.Send) = past (sending p at)
  simple_by at (Some m.Output) = past (output p at)
  simple_by at (Some m.Pass) = past (passing at)
  simple_by at (Some m.Dashes) = past (label at)
  simple_by at _ = refuse

-- the reader of the statements in a block, up to its end
module _ (p : Place) (body : Reader (List Stmt)) where
  -- after the colon
  unfoldable pub block : Reader (List Stmt)
  block = do
    expect m.Newline
    opening p.may_open m.Indent
    body

  unfoldable pub block_after_colon : Reader (List Stmt)
  block_after_colon = do
    expect m.Colon
    block

  -- the word of a header, its condition, and its block
  unfoldable pub branch : Reader Branch
  branch = at_line (λ at. past (do
    x ← expression p
    b ← block_after_colon
    pure (branch_of x b at)))

  unfoldable pub otherwise : Reader (Option (List Stmt))
  otherwise = after_token m.Else (block_after_colon >>= λ b. pure (Some b)) (pure None)

  unfoldable pub timeout : Reader (Option TimeoutTree)
  timeout = at_line (λ at. after_token m.Timeout (block_after_colon >>= λ b. pure (Some (roll-TimeoutTree (record { body = b; line = at })))) (pure None))

  unfoldable pub conditional : ℕ → Reader Stmt
  conditional at = do
    first ← branch
    branches ← begun m.Elif branch (first ∷ [])
    other ← otherwise
    pure (stmt_tree.If branches other at)

  unfoldable pub while_loop : ℕ → Reader Stmt
  while_loop at = do
    x ← expression p
    b ← block_after_colon
    pure (stmt_tree.While x b at)

  unfoldable pub for_loop : ℕ → Reader Stmt
  for_loop at = do
    name ← word m.Name
    expect m.In
    x ← expression p
    b ← block_after_colon
    pure (stmt_tree.For name x b at)

  -- after the condition of the first alternative
  unfoldable pub alternatives : Expr → ℕ → Reader Stmt
  alternatives x at = do
    b ← block_after_colon
    alts ← begun m.Or branch (branch_of x b at ∷ [])
    t ← timeout
    pure (stmt_tree.Await alts t at)

  unfoldable pub awaiting : ℕ → Reader Stmt
  awaiting at = do
    x ← expression p
    after_token m.Newline (pure (stmt_tree.AwaitOne x at)) (alternatives x at)

  abbrev pub stmt_by : ℕ → Option Mark → Reader Stmt
  stmt_by at (Some m.If) = conditional at
  stmt_by at (Some m.While) = past (while_loop at)
  stmt_by at (Some m.For) = past (for_loop at)
  stmt_by at (Some m.Await) = past (awaiting at)
  stmt_by at k = simple_by p at k

  unfoldable pub stmt : Reader Stmt
  stmt = at_line (λ at. by_mark (stmt_by at))

  unfoldable pub stmts : Reader (List Stmt)
  stmts = ended stmt

-- the statements of a block where d things are open; the first number bounds how many more there are
unfoldable pub bodies : Limit → ℕ → ℕ → Reader (List Stmt)
bodies limit zero d = refuse
bodies limit (suc f) d = stmts (place limit f d) (bodies limit f (suc d))

-- the statements one deeper than where d things are open, of which there are at most 32, and those there
unfoldable pub body_below : ℕ → Reader (List Stmt)
body_below d = bodies at_most_32 (32 - d) (suc d)

unfoldable pub body_at : ℕ → Reader (List Stmt)
body_at d = stmts (at_depth d) (body_below d)

-- a block where d things are open
unfoldable pub block_at : ℕ → Reader (List Stmt)
block_at d = block_after_colon (at_depth d) (body_below d)
