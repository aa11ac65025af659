-- What expressions and patterns become once their names are found.
use Rattle.std.specs.Prelude.{ℕ, suc, Bool, true, false, if◌then◌else◌, List, [], ◌∷◌, ◌++◌, map, length, sum, Option, Some, None, option_map, flat_map}
use Rattle.std.specs.List.{list_all}
use Rattle.da_values.specs.declared.value.Value.TheVariants as kept
use Rattle.da_lang.specs.declared.program.RExpr.{RExpr}
use Rattle.da_lang.specs.declared.program.RExpr.TheVariants as re
use Rattle.da_lang.specs.declared.program.ChainPart.{ChainPart, roll-ChainPart}
use Rattle.da_lang.specs.declared.query.Agg.{Agg, roll-Agg}
use Rattle.da_lang.specs.declared.query.AggOp.{AggOp}
use Rattle.da_lang.specs.declared.query.AggOp.TheVariants as agg
use Rattle.da_lang.specs.declared.query.Cond.{Cond}
use Rattle.da_lang.specs.declared.query.Cond.TheVariants as co
use Rattle.da_lang.specs.declared.query.Operand.{Operand}
use Rattle.da_lang.specs.declared.query.Operand.TheVariants as od
use Rattle.da_lang.specs.declared.query.Pattern.{Pattern}
use Rattle.da_lang.specs.declared.query.Pattern.TheVariants as pa
use Rattle.da_lang.specs.declared.query.Query.{Query}
use Rattle.da_lang.specs.declared.query.Query.TheVariants as qu
use Rattle.da_lang.specs.declared.query.RGen.{RGen}
use Rattle.da_lang.specs.declared.query.SignedOperand.{SignedOperand, roll-SignedOperand}
use Rattle.da_lang.specs.declared.query.Source.{Source}
use Rattle.da_lang.specs.declared.query.Source.TheVariants as so
use Rattle.da_lang.specs.declared.query.Term.{Term}
use Rattle.da_lang.specs.declared.query.Term.TheVariants as te
use Rattle.da_lang.specs.declared.tree.ArithOp.{ArithOp}
use Rattle.da_lang.specs.declared.tree.ArithOp.TheVariants as op
use Rattle.da_lang.specs.declared.tree.Expr.{Expr}
use Rattle.da_lang.specs.declared.tree.Expr.TheFolds.{fold-Expr, fold-PatternTree, fold-PeerTree, fold-ChainTree, fold-GenTree}
use Rattle.da_lang.specs.declared.tree.Expr.TheOpen.{Expr-F, PatternTree-F, PeerTree-F, ChainTree-F, GenTree-F}
use Rattle.da_lang.specs.declared.tree.ChainTree.{ChainTree}
use Rattle.da_lang.specs.declared.tree.GenTree.{GenTree}
use Rattle.da_lang.specs.declared.tree.PatternTree.{PatternTree}
use Rattle.da_lang.specs.declared.tree.PeerTree.{PeerTree}
use Rattle.da_lang.specs.declared.tree.SourceTree.{SourceTree}
use Rattle.da_lang.specs.declared.tree.SourceTree.TheVariants as source_tree
use Rattle.da_lang.specs.declared.ty.Ty.{Ty}
use Rattle.da_lang.specs.Scopes.{Scope, look}

-- What a name stands for: a slot, a part of the row of a query or of a handler's patterns, a process that `main` made, or a set of them.
pub data Meaning : Type 0 where
  InSlot : ℕ → Meaning
  InRow : ℕ → Meaning
  OneProcess : ℕ → Meaning
  Processes : List ℕ → Meaning

-- the slots and the numbered queries that were met so far in the text of a class
pub record Tables : Type 0 where
  pub slots : List (Option Ty)
  pub queries : List Query

-- these names come into scope one after the other, with the numbers from here on
abbrev pub numbered : (ℕ → Meaning) → ℕ → List (List ℕ) → Scope Meaning → Scope Meaning
numbered means first [] scope = scope
numbered means first (name ∷ names) scope = numbered means (suc first) names ((name, means first) ∷ scope)

abbrev pub in_row : Meaning → ℕ
in_row (InRow part) = 1
in_row _ = 0

-- how many parts the row has so far; the row with these variables besides
abbrev pub width : Scope Meaning → ℕ
width scope = sum (map (λ entry. in_row entry.1) scope)

abbrev pub with_row : List (List ℕ) → Scope Meaning → Scope Meaning
with_row names scope = numbered InRow (suc (width scope)) names scope

-- generators, a condition, and a term
pub record Range : Type 0 where
  pub gens : List RGen
  pub cond : Option Cond
  pub term : Term

-- What an expression becomes outside queries, where its largest queries are numbered; as a term, as a side of a
-- comparison, as a condition; and as the argument of an aggregate.
pub record Meant : Type 0 where
  pub outside : Scope Meaning → Tables → RExpr × Tables
  pub term : Scope Meaning → Term
  pub operand : Scope Meaning → Operand
  pub condition : Scope Meaning → Cond
  pub range : Scope Meaning → Range

-- a pattern with its variables; the pattern of the other process, with whether `from` is its word; a generator with its
-- variables; a further operand with its sign
pub record Matching : Type 0 where
  pub binds : List (List ℕ)
  pub pattern : Scope Meaning → Pattern

pub record Peer : Type 0 where
  pub from : Bool
  pub matching : Matching

pub record Generator : Type 0 where
  pub binds : List (List ℕ)
  pub gen_ : Scope Meaning → RGen

pub record Signed : Type 0 where
  pub op : ArithOp
  pub meant : Meant

-- patterns and generators in the order of the text, each with the variables of those before it
abbrev pub patterns_in : List Matching → Scope Meaning → List Pattern
patterns_in [] scope = []
patterns_in (p ∷ ps) scope = p.pattern scope ∷ patterns_in ps (with_row p.binds scope)

abbrev pub gens_in : List Generator → Scope Meaning → List RGen
gens_in [] scope = []
gens_in (g ∷ gs) scope = g.gen_ scope ∷ gens_in gs (with_row g.binds scope)

abbrev pub scope_after_gens : List Generator → Scope Meaning → Scope Meaning
scope_after_gens [] scope = scope
scope_after_gens (g ∷ gs) scope = scope_after_gens gs (with_row g.binds scope)

abbrev pub cond_after : List Generator → Option Meant → Scope Meaning → Option Cond
cond_after gens cond scope = option_map (λ c. c.condition (scope_after_gens gens scope)) cond

-- expressions outside queries, in order
abbrev pub all_outside : List Meant → Scope Meaning → Tables → List RExpr × Tables
all_outside [] scope tables = ([], tables)
all_outside (x ∷ xs) scope tables = let first = x.outside scope tables in let others = all_outside xs scope first.1 in (first.0 ∷ others.0, others.1)

abbrev pub signed_outside : List Signed → Scope Meaning → Tables → List ChainPart × Tables
signed_outside [] scope tables = ([], tables)
signed_outside (x ∷ xs) scope tables =
    let first = x.meant.outside scope tables in
    let others = signed_outside xs scope first.1 in
    (roll-ChainPart (record { op = x.op; operand = first.0 }) ∷ others.0, others.1)

abbrev pub one_outside : (RExpr → RExpr) → Meant → Scope Meaning → Tables → RExpr × Tables
one_outside make x scope tables = let first = x.outside scope tables in (make first.0, first.1)

abbrev pub two_outside : (RExpr → RExpr → RExpr) → Meant → Meant → Scope Meaning → Tables → RExpr × Tables
two_outside make x y scope tables = let first = x.outside scope tables in let second = y.outside scope first.1 in (make first.0 second.0, second.1)

abbrev pub list_outside : (List RExpr → RExpr) → List Meant → Scope Meaning → Tables → RExpr × Tables
list_outside make xs scope tables = let all = all_outside xs scope tables in (make all.0, all.1)

abbrev pub chain_outside : Meant → List Signed → Scope Meaning → Tables → RExpr × Tables
chain_outside x more scope tables = let first = x.outside scope tables in let others = signed_outside more scope first.1 in (re.Chain first.0 others.0, others.1)

-- a query gets the next number
abbrev pub ask : (Scope Meaning → Query) → Scope Meaning → Tables → RExpr × Tables
ask query scope tables = (re.Ask (suc (length tables.queries)), record { slots = tables.slots; queries = tables.queries ++ query scope ∷ [] })

abbrev pub no_range : Scope Meaning → Range
no_range scope = record { gens = []; cond = None; term = te.Foreign }

-- an expression of none of the forms of queries; a term; a condition; a side of a comparison
abbrev pub foreign : (Scope Meaning → Tables → RExpr × Tables) → Meant
foreign outside = record { outside = outside; term = λ scope. te.Foreign; operand = λ scope. od.Term te.Foreign; condition = λ scope. co.Truth te.Foreign; range = no_range }

abbrev pub as_term : (Scope Meaning → Tables → RExpr × Tables) → (Scope Meaning → Term) → Meant
as_term outside term = record { outside = outside; term = term; operand = λ scope. od.Term (term scope); condition = λ scope. co.Truth (term scope); range = no_range }

abbrev pub as_condition : (Scope Meaning → Tables → RExpr × Tables) → (Scope Meaning → Cond) → Meant
as_condition outside condition = record (foreign outside) { condition = condition }

abbrev pub as_operand : (Scope Meaning → Tables → RExpr × Tables) → (Scope Meaning → Operand) → Meant
as_operand outside operand = record (foreign outside) { operand = operand }

-- this expression, whatever is in scope
abbrev pub constant : RExpr → Term → Meant
constant x term = as_term (λ scope tables. (x, tables)) (λ scope. term)

-- a name
abbrev pub name_outside : Option Meaning → RExpr
name_outside None = re.Me
name_outside (Some (InSlot slot)) = re.Slot slot
name_outside (Some (InRow part)) = re.Me
name_outside (Some (OneProcess process)) = re.Const (kept.Proc process)
name_outside (Some (Processes processes)) = re.Procs processes

abbrev pub name_term : Option Meaning → Term
name_term None = te.Foreign
name_term (Some (InSlot slot)) = te.Slot slot
name_term (Some (InRow part)) = te.Part part
name_term (Some (OneProcess process)) = te.Foreign
name_term (Some (Processes processes)) = te.Foreign

abbrev pub slot_source : Option Meaning → Source
slot_source (Some (InSlot slot)) = so.Slot slot
slot_source _ = so.Slot 0

-- a slot as the argument of an aggregate: the set of its elements
abbrev pub elements : Option Meaning → Scope Meaning → Range
elements means scope = record {
  gens = record { source = slot_source means; message = pa.Bind; peer = pa.Any } ∷ [];
  cond = None;
  term = te.Part (suc (width scope));
}

abbrev pub name_meant : List ℕ → Meant
name_meant name = record (as_term (λ scope tables. (name_outside (look scope name), tables)) (λ scope. name_term (look scope name))) {
  range = λ scope. elements (look scope name) scope;
}

-- `some` and `each`
abbrev pub quantified : Bool → List Generator → Option Meant → Meant
quantified each gens cond =
    as_condition (ask (λ scope. qu.Quant each (gens_in gens scope) (cond_after gens cond scope))) (λ scope. co.Quant each (gens_in gens scope) (cond_after gens cond scope))

abbrev pub comprehended : Meant → List Generator → Option Meant → Meant
comprehended x gens cond = record (foreign (ask (λ scope. qu.Comp (x.term (scope_after_gens gens scope)) (gens_in gens scope) (cond_after gens cond scope)))) {
  range = λ scope. record { gens = gens_in gens scope; cond = cond_after gens cond scope; term = x.term (scope_after_gens gens scope) };
}

-- an aggregate over its argument, with the term of its other value
abbrev pub agg_of : AggOp → Range → Option Term → Agg
agg_of o range other = roll-Agg (record { op = o; gens = range.gens; cond = range.cond; term = range.term; other = other })

abbrev pub aggregated : AggOp → Meant → Option Meant → Meant
aggregated o x other =
    let aggregate : Scope Meaning → Agg = λ scope. agg_of o (x.range scope) (option_map (λ y. y.term scope) other) in
    as_operand (ask (λ scope. qu.Agg (aggregate scope))) (λ scope. od.Agg (aggregate scope))

-- only chains of `+` and `-` are sides of comparisons
abbrev pub is_minus : ArithOp → Bool
is_minus op.Minus = true
is_minus _ = false

abbrev pub is_sum : ArithOp → Bool
is_sum op.Plus = true
is_sum op.Minus = true
is_sum _ = false

abbrev pub signed_operand : Scope Meaning → Signed → SignedOperand
signed_operand scope x = roll-SignedOperand (record { minus = is_minus x.op; operand = x.meant.operand scope })

abbrev pub chain_operand : Meant → List Signed → Scope Meaning → Operand
chain_operand x more scope = if list_all (λ y. is_sum y.op) more then od.Chain (x.operand scope) (map (signed_operand scope) more) else od.Term te.Foreign

abbrev pub all_conditions : List Meant → Scope Meaning → List Cond
all_conditions xs scope = map (λ x. x.condition scope) xs

abbrev pub expr_meant : Expr-F Meant Matching Peer Signed Generator → Meant
expr_meant (Expr-F.Quant each gens cond) = quantified each gens cond
expr_meant (Expr-F.Or xs) = as_condition (list_outside re.Or xs) (λ scope. co.Or (all_conditions xs scope))
expr_meant (Expr-F.And xs) = as_condition (list_outside re.And xs) (λ scope. co.And (all_conditions xs scope))
expr_meant (Expr-F.Not x) = as_condition (one_outside re.Not x) (λ scope. co.Not (x.condition scope))
expr_meant (Expr-F.Cmp o x y) = as_condition (two_outside (re.Cmp o) x y) (λ scope. co.Cmp o (x.operand scope) (y.operand scope))
expr_meant (Expr-F.Member x y) = foreign (two_outside re.Member x y)
expr_meant (Expr-F.Chain x more) = as_operand (chain_outside x more) (chain_operand x more)
expr_meant (Expr-F.«Expr::Int» number) = constant (re.Const (kept.Int number)) (te.Const (kept.Int number))
expr_meant (Expr-F.«Expr::Text» bytes) = constant (re.Const (kept.Text bytes)) (te.Const (kept.Text bytes))
expr_meant (Expr-F.«Expr::Truth» truth) = constant (re.Const (kept.Bool truth)) (te.Const (kept.Bool truth))
expr_meant Expr-F.«Expr::Me» = constant re.Me te.Me
expr_meant (Expr-F.«Expr::Name» name) = name_meant name
expr_meant Expr-F.Clock = foreign (λ scope tables. (re.Clock, tables))
expr_meant (Expr-F.Range x y) = foreign (two_outside re.Range x y)
expr_meant (Expr-F.«Expr::Tuple» xs) = as_term (list_outside re.Tuple xs) (λ scope. te.Tuple (map (λ x. x.term scope) xs))
expr_meant (Expr-F.SetOf xs) = foreign (list_outside re.SetOf xs)
expr_meant (Expr-F.Comp x gens cond) = comprehended x gens cond
expr_meant (Expr-F.Count x) = aggregated agg.Count x None
expr_meant (Expr-F.Sum x) = aggregated agg.Sum x None
expr_meant (Expr-F.Min x other) = aggregated agg.Min x (Some other)
expr_meant (Expr-F.Max x other) = aggregated agg.Max x (Some other)

abbrev pub fixed : Pattern → Matching
fixed pattern = record { binds = []; pattern = λ scope. pattern }

abbrev pub pattern_meant : PatternTree-F Meant Matching Peer Signed Generator → Matching
pattern_meant PatternTree-F.Wild = fixed pa.Any
pattern_meant (PatternTree-F.«PatternTree::Name» name) = record { binds = name ∷ []; pattern = λ scope. pa.Bind }
pattern_meant (PatternTree-F.«PatternTree::Int» number) = fixed (pa.Const (kept.Int number))
pattern_meant (PatternTree-F.«PatternTree::Text» bytes) = fixed (pa.Const (kept.Text bytes))
pattern_meant (PatternTree-F.«PatternTree::Truth» truth) = fixed (pa.Const (kept.Bool truth))
pattern_meant PatternTree-F.«PatternTree::Me» = fixed pa.Me
pattern_meant (PatternTree-F.Equal x) = record { binds = []; pattern = λ scope. pa.Equal (x.term scope) }
pattern_meant (PatternTree-F.«PatternTree::Tuple» ps) = record { binds = flat_map (λ p. p.binds) ps; pattern = λ scope. pa.Tuple (patterns_in ps scope) }

abbrev pub peer_meant : PeerTree-F Meant Matching Peer Signed Generator → Peer
peer_meant (PeerTree-F.From p) = record { from = true; matching = p }
peer_meant (PeerTree-F.To p) = record { from = false; matching = p }

abbrev pub chain_meant : ChainTree-F Meant Matching Peer Signed Generator → Signed
chain_meant link = record { op = link.op; meant = link.operand }

-- `from` stands with `received` and `to` with `sent`; elsewhere the pattern is kept after what equals no value
abbrev pub is_apt : Bool → SourceTree → Bool
is_apt from source_tree.Received = from
is_apt from source_tree.Sent = if from then false else true
is_apt from (source_tree.Name name) = false

abbrev pub misplaced : Pattern → Pattern
misplaced p = pa.Tuple (pa.Equal te.Foreign ∷ p ∷ [])

abbrev pub peer_pattern : SourceTree → Scope Meaning → Option Peer → Pattern
peer_pattern source scope None = pa.Any
peer_pattern source scope (Some p) = if is_apt p.from source then p.matching.pattern scope else misplaced (p.matching.pattern scope)

abbrev pub peer_binds : Option Peer → List (List ℕ)
peer_binds None = []
peer_binds (Some p) = p.matching.binds

abbrev pub source_meant : Scope Meaning → SourceTree → Source
source_meant scope source_tree.Received = so.Received
source_meant scope source_tree.Sent = so.Sent
source_meant scope (source_tree.Name name) = slot_source (look scope name)

abbrev pub gen_meant : GenTree-F Meant Matching Peer Signed Generator → Generator
gen_meant g = record {
  binds = g.message.binds ++ peer_binds g.peer;
  gen_ = λ scope. record { source = source_meant (with_row (g.message.binds ++ peer_binds g.peer) scope) g.source; message = g.message.pattern scope; peer = peer_pattern g.source (with_row g.message.binds scope) g.peer };
}

unfoldable pub meant : Expr → Meant
meant = fold-Expr Meant Matching Peer Signed Generator expr_meant pattern_meant peer_meant chain_meant gen_meant

unfoldable pub matching : PatternTree → Matching
matching = fold-PatternTree Meant Matching Peer Signed Generator expr_meant pattern_meant peer_meant chain_meant gen_meant

unfoldable pub peer_of : PeerTree → Peer
peer_of = fold-PeerTree Meant Matching Peer Signed Generator expr_meant pattern_meant peer_meant chain_meant gen_meant

unfoldable pub signed_of : ChainTree → Signed
signed_of = fold-ChainTree Meant Matching Peer Signed Generator expr_meant pattern_meant peer_meant chain_meant gen_meant

unfoldable pub generator : GenTree → Generator
generator = fold-GenTree Meant Matching Peer Signed Generator expr_meant pattern_meant peer_meant chain_meant gen_meant
