-- How programs are read.
use Rattle.std.specs.Prelude.{ℕ, zero, suc, ◌-◌, ◌==◌, Bool, true, false, if◌then◌else◌, List, [], ◌∷◌, ◌++◌, length, Option, Some, None, Ok}
use Rattle.da_values.specs.declared.token.Mark.{Mark}
use Rattle.da_values.specs.declared.token.Mark.TheVariants as m
use Rattle.da_lang.specs.declared.tree.ClassTree.{ClassTree}
use Rattle.da_lang.specs.declared.tree.Expr.{Expr}
use Rattle.da_lang.specs.declared.tree.MainLine.{MainLine}
use Rattle.da_lang.specs.declared.tree.MainLine.TheVariants as line_tree
use Rattle.da_lang.specs.declared.tree.MessageDecl.{MessageDecl}
use Rattle.da_lang.specs.declared.tree.Param.{Param}
use Rattle.da_lang.specs.declared.tree.Tree.{Tree}
use Rattle.da_lang.specs.declared.ty.ChannelKind.{ChannelKind}
use Rattle.da_lang.specs.declared.ty.ChannelKind.TheVariants as kind_of
use Rattle.da_lang.specs.declared.ty.Ty.{Ty}
use Rattle.da_phrases.specs.declared.place.Level.TheVariants as level
use Rattle.da_phrases.specs.Reader.{Reader, ◌>>=◌, ◌>>◌, pure, refuse, past, taking, by_mark, at_line, after_token, expect, word, number}
use Rattle.da_phrases.specs.Lists.{begun, closed, ended}
use Rattle.da_phrases.specs.Place.{Limit, Place, opening}
use Rattle.da_phrases.specs.Exprs.{place, at_depth}
use Rattle.da_phrases.specs.Types.{types, type_below}
use Rattle.da_parse.specs.Members.{Parts, param_by, parts_in, parts_at, members}

-- what programs are made of: where nothing is open, with a type in parentheses, and where one thing is
pub record Outer : Type 0 where
  pub place : Place
  pub inner_ty : Reader Ty
  pub inside : Parts

-- by a rule of how many things may be open and one of parameters; the number bounds how many there are
abbrev pub outer_in : Limit → Reader Param → ℕ → Outer
outer_in limit param f = record { place = place limit f 0; inner_ty = types limit f 1; inside = parts_in limit param (f - 1) 1 }

-- where parameters may lack their types or may not
abbrev pub outer_by : Bool → Limit → ℕ → Outer
outer_by loose limit f = outer_in limit (param_by loose (types limit (f - 1) 2)) f

-- the same, and at most 32 things are open
abbrev pub outermost : Bool → Outer
outermost loose = record { place = at_depth 0; inner_ty = type_below 0; inside = parts_at loose 1 }

unfoldable pub count : Reader (Option ℕ)
count = after_token m.Comma (number >>= λ n. pure (Some n)) (pure None)

abbrev pub kind_from : Bool → Bool → ChannelKind
kind_from true true = kind_of.FifoReliable
kind_from false true = kind_of.UnorderedReliable
kind_from true false = kind_of.FifoUnreliable
kind_from false false = kind_of.UnorderedUnreliable

-- a word, or the other word
unfoldable pub one_of : Mark → Mark → Reader Bool
one_of k other = after_token k (pure true) (do expect other; pure false)

unfoldable pub kind : Reader ChannelKind
kind = after_token m.Channel (do
  fifo ← one_of m.Fifo m.Unordered
  reliable ← one_of m.Reliable m.Unreliable
  expect m.Newline
  pure (kind_from fifo reliable)) (pure kind_of.UnorderedUnreliable)

abbrev pub finish : Reader (Unit {0})
finish = λ i. if length i == 0 then Ok (tt, i) else refuse i

module _ (o : Outer) where
  -- a colon, the end of the line and the beginning of a block
  unfoldable pub header_end : Reader (Unit {0})
  header_end = do
    expect m.Colon
    expect m.Newline
    opening o.place.may_open m.Indent

  -- after `message`
  unfoldable pub message : ℕ → Reader MessageDecl
  message at = do
    n ← word m.Name
    opening o.place.may_open m.OpenParen
    xs ← closed m.CloseParen o.inner_ty []
    expect m.Newline
    pure (record { tag = n; parts = xs; line = at })

  -- after `class`
  unfoldable pub class : ℕ → Reader ClassTree
  class at = do
    n ← word m.Name
    expect m.Extends
    expect m.Process
    header_end
    ms ← members o.inside
    pure (record { name = n; members = ms; line = at })

  -- after a name
  unfoldable pub new_line : List ℕ → ℕ → Reader MainLine
  new_line n at = do
    expect m.Assign
    expect m.New
    opening o.inside.place.may_open m.OpenParen
    c ← word m.Name
    many ← count
    expect m.CloseParen
    expect m.Newline
    pure (line_tree.New n c many at)

  -- an argument with the comma before it
  abbrev pub argument : Reader Expr
  argument = past (o.inside.place.expr level.Disj)

  -- after `setup`
  unfoldable pub setup_line : ℕ → Reader MainLine
  setup_line at = do
    opening o.inside.place.may_open m.OpenParen
    n ← word m.Name
    xs ← begun m.Comma argument []
    expect m.CloseParen
    expect m.Newline
    pure (line_tree.Setup n xs at)

  abbrev pub line_by : ℕ → Option Mark → Reader MainLine
  line_by at (Some m.Name) = taking (λ n. new_line n at)
  line_by at (Some m.Setup) = past (setup_line at)
  line_by at _ = refuse

  unfoldable pub main_line : Reader MainLine
  main_line = at_line (λ at. by_mark (line_by at))

  unfoldable pub main : Reader (List MainLine)
  main = do
    expect m.Def
    expect m.Main
    opening o.place.may_open m.OpenParen
    expect m.CloseParen
    header_end
    ended main_line

  -- after the messages and classes
  unfoldable pub program_end : ChannelKind → List MessageDecl → List ClassTree → Reader Tree
  program_end k xs cs = do
    ls ← main
    finish
    pure (record { kind = k; messages = xs; classes = cs; main = ls })

module _ (o : Outer) (k : ChannelKind) where
  abbrev pub decls_by : (List MessageDecl → List ClassTree → Reader Tree) → List MessageDecl → List ClassTree → Option Mark → Reader Tree
  decls_by next xs cs (Some m.Message) = at_line (λ at. past (message o at >>= λ x. next (xs ++ x ∷ []) cs))
  decls_by next xs cs (Some m.Class) = at_line (λ at. past (class o at >>= λ c. next xs (cs ++ c ∷ [])))
  decls_by next xs cs _ = program_end o k xs cs

  -- messages and classes after those found, and the rest of the program
  unfoldable pub decls_from : ℕ → List MessageDecl → List ClassTree → Reader Tree
  decls_from zero xs cs = program_end o k xs cs
  decls_from (suc n) xs cs = by_mark (decls_by (decls_from n) xs cs)

module _ (o : Outer) where
  unfoldable pub decls : ChannelKind → Reader Tree
  decls k = λ i. decls_from o k (length i) [] [] i

  unfoldable pub program : Reader Tree
  program = do
    k ← kind
    decls k
