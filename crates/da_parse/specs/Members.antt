-- How the members of a class are read.
use Rattle.std.specs.Prelude.{ℕ, suc, Bool, true, false, List, [], Option, Some, None}
use Rattle.da_values.specs.declared.token.Mark.{Mark}
use Rattle.da_values.specs.declared.token.Mark.TheVariants as m
use Rattle.da_lang.specs.declared.tree.Member.{Member}
use Rattle.da_lang.specs.declared.tree.Member.TheVariants as member_tree
use Rattle.da_lang.specs.declared.tree.Param.{Param}
use Rattle.da_lang.specs.declared.tree.PatternTree.{PatternTree}
use Rattle.da_lang.specs.declared.tree.Stmt.{Stmt}
use Rattle.da_lang.specs.declared.ty.Ty.{Ty}
use Rattle.da_lang.specs.declared.ty.Ty.TheVariants as ty_tree
use Rattle.da_phrases.specs.Reader.{Reader, ◌>>=◌, ◌>>◌, pure, refuse, past, taking, by_mark, at_line, after_token, expect, word}
use Rattle.da_phrases.specs.Lists.{separated, closed, ended}
use Rattle.da_phrases.specs.Place.{Limit, Place, opening}
use Rattle.da_phrases.specs.Exprs.{place, at_depth, pattern}
use Rattle.da_parse.specs.Stmts.{bodies, block_after_colon, block_at}
use Rattle.da_phrases.specs.Types.{types, type_in, type_at, type_below}

-- what members are made of: a type, a parameter in parentheses, and a block after its colon
pub record Parts : Type 0 where
  pub place : Place
  pub ty : Reader Ty
  pub param : Reader Param
  pub block : Reader (List Stmt)

-- a parameter with its type
unfoldable pub typed_param : Reader Ty → Reader Param
typed_param inner_ty = do
  n ← word m.Name
  expect m.Colon
  x ← inner_ty
  pure (record { name = n; ty = x })

-- the type of a parameter that has none; no tokens spell it
abbrev pub no_type : Ty
no_type = ty_tree.Tuple []

-- a parameter that may lack its type
unfoldable pub loose_param : Reader Ty → Reader Param
loose_param inner_ty = do
  n ← word m.Name
  after_token m.Colon (inner_ty >>= λ x. pure (record { name = n; ty = x })) (pure (record { name = n; ty = no_type }))

-- a parameter, which may lack its type or may not
abbrev pub param_by : Bool → Reader Ty → Reader Param
param_by false inner_ty = typed_param inner_ty
param_by true inner_ty = loose_param inner_ty

-- where d things are open, by a rule of how many may be and one of parameters; the first number bounds how many more there are
abbrev pub parts_in : Limit → Reader Param → ℕ → ℕ → Parts
parts_in limit param f d = record { place = place limit f d; ty = type_in (limit d) (types limit f (suc d)); param = param; block = block_after_colon (place limit f d) (bodies limit f (suc d)) }

-- where d things are open, of which there are at most 32, and parameters may lack their types or may not
abbrev pub parts_at : Bool → ℕ → Parts
parts_at loose d = record { place = at_depth d; ty = type_at d; param = param_by loose (type_below d); block = block_at d }

module _ (s : Parts) where
  -- after `(`
  unfoldable pub params : Reader (List Param)
  params = closed m.CloseParen s.param []

  unfoldable pub variable : ℕ → Reader Member
  variable at = do
    n ← word m.Name
    expect m.Colon
    x ← s.ty
    expect m.Newline
    pure (member_tree.Var n x at)

  unfoldable pub setup : ℕ → Reader Member
  setup at = do
    opening s.place.may_open m.OpenParen
    ps ← params
    b ← s.block
    pure (member_tree.Setup ps b at)

  unfoldable pub run : ℕ → Reader Member
  run at = do
    opening s.place.may_open m.OpenParen
    expect m.CloseParen
    b ← s.block
    pure (member_tree.Run b at)

  unfoldable pub method : List ℕ → ℕ → Reader Member
  method name at = do
    opening s.place.may_open m.OpenParen
    ps ← params
    b ← s.block
    pure (member_tree.Method name ps b at)

  -- after `def`
  abbrev pub definition_by : ℕ → Option Mark → Reader Member
  definition_by at (Some m.Setup) = past (setup at)
  definition_by at (Some m.Run) = past (run at)
  definition_by at (Some m.Name) = taking (λ n. method n at)
  definition_by at _ = refuse

  unfoldable pub definition : ℕ → Reader Member
  definition at = by_mark (definition_by at)

  -- after the pattern of the message
  unfoldable pub sender : Reader (Option PatternTree)
  sender = after_token m.From (pattern s.place >>= λ x. pure (Some x)) (pure None)

-- after the pattern of the sender
unfoldable pub labels : Reader (List (List ℕ))
labels = after_token m.At (separated m.Comma (word m.Name) []) (pure [])

module _ (s : Parts) where
  -- after the patterns of a handler
  abbrev pub handled : PatternTree → Option PatternTree → ℕ → Reader Member
  handled p o at = do
    ns ← labels
    b ← s.block
    pure (member_tree.Receive p o ns b at)

  unfoldable pub handler : ℕ → Reader Member
  handler at = do
    p ← pattern s.place
    o ← sender s
    handled p o at

  abbrev pub member_by : ℕ → Option Mark → Reader Member
  member_by at (Some m.Var) = past (variable s at)
  member_by at (Some m.Def) = past (definition s at)
  member_by at (Some m.Receive) = past (handler at)
  member_by at _ = refuse

  unfoldable pub member : Reader Member
  member = at_line (λ at. by_mark (member_by at))

  unfoldable pub members : Reader (List Member)
  members = ended member
