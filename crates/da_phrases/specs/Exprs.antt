-- How expressions and patterns are read, rule by rule.
use Rattle.std.specs.Prelude.{ℕ, zero, suc, ◌-◌, pos, neg_ℤ, Bool, true, false, List, [], ◌∷◌, Option, Some, None}
use Rattle.da_values.specs.declared.token.Mark.{Mark}
use Rattle.da_values.specs.declared.token.Mark.TheVariants as m
use Rattle.da_lang.specs.declared.tree.ArithOp.{ArithOp}
use Rattle.da_lang.specs.declared.tree.ArithOp.TheVariants as arith_op
use Rattle.da_lang.specs.declared.tree.ChainTree.{ChainTree}
use Rattle.da_lang.specs.declared.tree.CmpOp.{CmpOp}
use Rattle.da_lang.specs.declared.tree.CmpOp.TheVariants as cmp_op
use Rattle.da_lang.specs.declared.tree.Expr.{Expr}
use Rattle.da_lang.specs.declared.tree.Expr.TheVariants as ex
use Rattle.da_lang.specs.declared.tree.GenTree.{GenTree, roll-GenTree}
use Rattle.da_lang.specs.declared.tree.PatternTree.{PatternTree}
use Rattle.da_lang.specs.declared.tree.PatternTree.TheVariants as pat
use Rattle.da_lang.specs.declared.tree.PeerTree.{PeerTree}
use Rattle.da_lang.specs.declared.tree.PeerTree.TheVariants as peer_tree
use Rattle.da_lang.specs.declared.tree.SourceTree.{SourceTree}
use Rattle.da_lang.specs.declared.tree.SourceTree.TheVariants as source_tree
use Rattle.da_lang.specs.ExprGrammar.{negated}
use Rattle.da_phrases.specs.declared.place.Level.{Level}
use Rattle.da_phrases.specs.declared.place.Level.TheVariants as level
use Rattle.da_phrases.specs.Reader.{Reader, ◌>>=◌, ◌>>◌, pure, refuse, past, taking, by_mark, if_next, after_token, expect, number, quoted}
use Rattle.da_phrases.specs.Lists.{separated, closed, others}
use Rattle.da_phrases.specs.Place.{Limit, Place, at_most_32, opens, opening}

-- the signs of the two levels of chains, and of comparisons
abbrev pub times_op : Option Mark → Option ArithOp
times_op (Some m.Star) = Some arith_op.Times
times_op (Some m.Slashes) = Some arith_op.Div
times_op (Some m.Percent) = Some arith_op.Mod
times_op _ = None

abbrev pub plus_op : Option Mark → Option ArithOp
plus_op (Some m.Plus) = Some arith_op.Plus
plus_op (Some m.Minus) = Some arith_op.Minus
plus_op _ = None

abbrev pub cmp_op_at : Option Mark → Option CmpOp
cmp_op_at (Some m.Equal) = Some cmp_op.Eq
cmp_op_at (Some m.NotEqual) = Some cmp_op.Ne
cmp_op_at (Some m.Less) = Some cmp_op.Lt
cmp_op_at (Some m.LessEqual) = Some cmp_op.Le
cmp_op_at (Some m.Greater) = Some cmp_op.Gt
cmp_op_at (Some m.GreaterEqual) = Some cmp_op.Ge
cmp_op_at _ = None

-- `some` or `each`
abbrev pub quantifier : Option Mark → Option Bool
quantifier (Some m.Some) = Some false
quantifier (Some m.Each) = Some true
quantifier _ = None

abbrev pub chained : Expr → List ChainTree → Expr
chained x [] = x
chained x (p ∷ ps) = ex.Chain x (p ∷ ps)

-- `)` after an expression
abbrev pub before_paren : Expr → Reader Expr
before_paren x = expect m.CloseParen >> pure x

-- operands with a word between
unfoldable pub joined : Mark → (List Expr → Expr) → Reader Expr → Reader Expr
joined k join operand = do
  x ← operand
  after_token k (do xs ← separated k operand (x ∷ []); pure (join xs)) (pure x)

abbrev pub source_by : Option Mark → Reader SourceTree
source_by (Some m.Received) = past (pure source_tree.Received)
source_by (Some m.Sent) = past (pure source_tree.Sent)
source_by (Some m.Name) = taking (λ b. pure (source_tree.Name b))
source_by _ = refuse

-- `in` and what a generator goes through
unfoldable pub source : Reader SourceTree
source = do
  expect m.In
  by_mark source_by

abbrev pub made : PatternTree → Option PeerTree → SourceTree → GenTree
made message other from = roll-GenTree (record { message = message; peer = other; source = from })

-- after the patterns of a generator
abbrev pub with_source : PatternTree → Option PeerTree → Reader GenTree
with_source message other = source >>= λ from. pure (made message other from)

-- `_`, a negative integer, a truth value or `self`, in a pattern
abbrev pub constant : Mark → Reader PatternTree
constant m.Wild = past (pure pat.Wild)
constant m.Minus = past (number >>= λ n. pure (pat.Int (neg_ℤ (pos n))))
constant m.True = past (pure (pat.Truth true))
constant m.False = past (pure (pat.Truth false))
constant m.SelfWord = past (pure pat.Me)
constant _ = refuse

module _ (p : Place) where
  -- after the word that begins the pattern of the other process
  unfoldable pub generator_with : PatternTree → (PatternTree → PeerTree) → Reader GenTree
  generator_with message other = do
    x ← p.pattern
    with_source message (Some (other x))

  unfoldable pub generator : Reader GenTree
  generator = do
    message ← p.pattern
    after_token m.From (generator_with message peer_tree.From)
        (after_token m.To (generator_with message peer_tree.To) (with_source message None))

  unfoldable pub generators : Reader (List GenTree)
  generators = separated m.Comma generator []

  unfoldable pub condition : Reader (Option Expr)
  condition = after_token m.Bar (p.expr level.Expr >>= λ x. pure (Some x)) (after_token m.Has (p.expr level.Expr >>= λ x. pure (Some x)) (pure None))

  -- `()`
  unfoldable pub no_argument : Reader (Unit {0})
  no_argument = do
    opening p.may_open m.OpenParen
    expect m.CloseParen

  -- `(EXPR,`
  unfoldable pub first_argument : Reader Expr
  first_argument = do
    opening p.may_open m.OpenParen
    x ← p.expr level.Disj
    expect m.Comma
    pure x

  -- `EXPR)`
  unfoldable pub last_argument : Reader Expr
  last_argument = do
    x ← p.expr level.Disj
    expect m.CloseParen
    pure x

  unfoldable pub one_argument : Reader Expr
  one_argument = do
    opening p.may_open m.OpenParen
    last_argument

  unfoldable pub two_arguments : (Expr → Expr → Expr) → Reader Expr
  two_arguments make = do
    x ← first_argument
    y ← last_argument
    pure (make x y)

  -- after `(`
  abbrev pub grouped_by : Option Bool → Reader Expr
  grouped_by (Some each) = do
    x ← p.expr level.Expr
    before_paren x
  grouped_by None = do
    x ← p.expr level.Disj
    after_token m.Comma (do xs ← closed m.CloseParen (p.expr level.Disj) (x ∷ []); pure (ex.Tuple xs)) (before_paren x)

  unfoldable pub grouped : Reader Expr
  grouped = by_mark (λ k. grouped_by (quantifier k))

  -- after `{ term :`
  unfoldable pub comprehension : Expr → Reader Expr
  comprehension x = do
    gens ← generators
    cond ← condition
    expect m.CloseBrace
    pure (ex.Comp x gens cond)

  -- after `{`
  unfoldable pub braced : Reader Expr
  braced =
      after_token m.CloseBrace (pure (ex.SetOf [])) (p.expr level.Disj >>= λ x.
      after_token m.Colon (comprehension x) (
      after_token m.Comma (do xs ← separated m.Comma (p.expr level.Disj) (x ∷ []); expect m.CloseBrace; pure (ex.SetOf xs)) (do expect m.CloseBrace; pure (ex.SetOf (x ∷ [])))))

  abbrev pub word : Mark → Reader Expr
  word m.True = past (pure (ex.Truth true))
  word m.False = past (pure (ex.Truth false))
  word m.SelfWord = past (pure ex.Me)
  word m.LogicalTime = past (no_argument >> pure ex.Clock)
  word m.Range = past (two_arguments ex.Range)
  word m.Count = past (one_argument >>= λ x. pure (ex.Count x))
  word m.Sum = past (one_argument >>= λ x. pure (ex.Sum x))
  word m.Min = past (two_arguments ex.Min)
  word m.Max = past (two_arguments ex.Max)
  word _ = refuse

  abbrev pub atom_by : Option Mark → Reader Expr
  atom_by (Some m.Number) = number >>= λ n. pure (ex.Int (pos n))
  atom_by (Some m.Quoted) = quoted >>= λ b. pure (ex.Text b)
  atom_by (Some m.Name) = taking (λ b. pure (ex.Name b))
  atom_by (Some m.OpenParen) = opens p.may_open >> grouped
  atom_by (Some m.OpenBrace) = opens p.may_open >> braced
  atom_by (Some k) = word k
  atom_by None = refuse

  unfoldable pub atom : Reader Expr
  atom = by_mark atom_by

  -- after a `-` of an expression
  unfoldable pub after_minus : Reader Expr
  after_minus = if_next m.Number (number >>= λ n. pure (ex.Int (neg_ℤ (pos n)))) (p.expr level.Unary >>= λ x. pure (negated x))

  unfoldable pub unary : Reader Expr
  unary = if_next m.Minus (opens p.may_open >> after_minus) atom

  unfoldable pub product : Reader Expr
  product = do
    x ← unary
    ps ← others times_op unary
    pure (chained x ps)

  unfoldable pub sum : Reader Expr
  sum = do
    x ← product
    ps ← others plus_op product
    pure (chained x ps)

  -- after `EXPR in`
  abbrev pub member_of : Expr → Reader Expr
  member_of x = sum >>= λ y. pure (ex.Member x y)

  -- after an expression and the sign of a comparison
  abbrev pub compared_to : Expr → CmpOp → Reader Expr
  compared_to x op = sum >>= λ y. pure (ex.Cmp op x y)

  abbrev pub compared_by : Expr → Option CmpOp → Reader Expr
  compared_by x (Some op) = past (compared_to x op)
  compared_by x None = pure x

  unfoldable pub comparison : Reader Expr
  comparison = do
    x ← sum
    after_token m.In (member_of x) (by_mark (λ k. compared_by x (cmp_op_at k)))

  unfoldable pub negation : Reader Expr
  negation = if_next m.Not (opens p.may_open >> (p.expr level.Neg >>= λ x. pure (ex.Not x))) comparison

  unfoldable pub conjunction : Reader Expr
  conjunction = joined m.And ex.And negation

  unfoldable pub disjunction : Reader Expr
  disjunction = joined m.Or ex.Or conjunction

  unfoldable pub quantification : Bool → Reader Expr
  quantification each = do
    opens p.may_open
    gens ← generators
    cond ← condition
    pure (ex.Quant each gens cond)

  abbrev pub expression_by : Option Bool → Reader Expr
  expression_by (Some each) = quantification each
  expression_by None = disjunction

  unfoldable pub expression : Reader Expr
  expression = by_mark (λ k. expression_by (quantifier k))

  abbrev pub at_level : Level → Reader Expr
  at_level level.Expr = expression
  at_level level.Disj = disjunction
  at_level level.Neg = negation
  at_level level.Unary = unary

  -- after `(`
  unfoldable pub tuple_pattern : Reader PatternTree
  tuple_pattern = do
    x ← p.pattern
    expect m.Comma
    xs ← closed m.CloseParen p.pattern (x ∷ [])
    pure (pat.Tuple xs)

  abbrev pub pattern_by : Option Mark → Reader PatternTree
  pattern_by (Some m.Name) = taking (λ b. pure (pat.Name b))
  pattern_by (Some m.Number) = number >>= λ n. pure (pat.Int (pos n))
  pattern_by (Some m.Quoted) = quoted >>= λ b. pure (pat.Text b)
  pattern_by (Some m.OpenParen) = opens p.may_open >> tuple_pattern
  pattern_by (Some m.Assign) = past (unary >>= λ x. pure (pat.Equal x))
  pattern_by (Some k) = constant k
  pattern_by None = refuse

  unfoldable pub pattern : Reader PatternTree
  pattern = by_mark pattern_by

-- the place where d things are open; the first number bounds how many more there are
unfoldable pub place : Limit → ℕ → ℕ → Place
place limit zero d = record { may_open = limit d; expr = λ _. refuse; pattern = refuse }
place limit (suc f) d = record { may_open = limit d; expr = at_level (place limit f (suc d)); pattern = pattern (place limit f (suc d)) }

-- the place where d things are open, of which there are at most 32
unfoldable pub at_depth : ℕ → Place
at_depth d = place at_most_32 (32 - d) d
