-- Names in expressions and patterns: what they bind, and which rules of names they break.
use Rattle.std.specs.Prelude.{ℕ, Bool, true, false, if◌then◌else◌, List, [], ◌∷◌, ◌++◌, Option, Some, None, option_to_list, flat_map}
use Rattle.da_lang.specs.declared.refusal.ScopeKind.{ScopeKind}
use Rattle.da_lang.specs.declared.refusal.ScopeKind.TheVariants as refusal
use Rattle.da_lang.specs.declared.tree.ChainTree.{ChainTree}
use Rattle.da_lang.specs.declared.tree.Expr.{Expr, out-Expr}
use Rattle.da_lang.specs.declared.tree.Expr.TheFolds.{fold-Expr, fold-PatternTree, fold-PeerTree, fold-ChainTree, fold-GenTree}
use Rattle.da_lang.specs.declared.tree.Expr.TheOpen.{Expr-F, PatternTree-F, PeerTree-F, ChainTree-F, GenTree-F}
use Rattle.da_lang.specs.declared.tree.GenTree.{GenTree}
use Rattle.da_lang.specs.declared.tree.PatternTree.{PatternTree}
use Rattle.da_lang.specs.declared.tree.PeerTree.{PeerTree}
use Rattle.da_lang.specs.declared.tree.SourceTree.{SourceTree}
use Rattle.da_lang.specs.declared.tree.SourceTree.TheVariants as source_tree
use Rattle.da_lang.specs.Scopes.{Scope, look, entered}

-- What a name stands for: a variable of the class; a parameter, or a variable of a loop, of a handler in its body, or
-- that a `some` has bound; a variable of a query; a name of `main`.
pub data Role : Type 0 where
  ClassVariable : Role
  Local : Role
  QueryVariable : Role
  Made : Role

-- a slot has a value outside queries
abbrev pub is_slot : Option Role → Bool
is_slot None = false
is_slot (Some ClassVariable) = true
is_slot (Some Local) = true
is_slot (Some _) = false

-- what a use of a name as a value, and as a slot, breaks
abbrev pub used : Option Role → List ScopeKind
used None = refusal.Unknown ∷ []
used (Some role) = []

abbrev pub unless : Bool → ScopeKind → List ScopeKind
unless allowed kind = if allowed then [] else kind ∷ []

abbrev pub used_as_slot : Option Role → List ScopeKind
used_as_slot role = unless (is_slot role) refusal.Unknown

-- what a new variable breaks where its name stands for that already
abbrev pub taken : Option Role → List ScopeKind
taken None = []
taken (Some Made) = []
taken (Some _) = refusal.Shadow ∷ []

-- the variables of a query come into scope after their place, those of a handler's patterns in its body alone
abbrev pub brought : Role → List (List ℕ) → Scope Role → Scope Role
brought QueryVariable names scope = entered QueryVariable names scope
brought role names scope = scope

-- The variables that a part of a text brings; the kinds of refusal in it, by the role of these variables and the names
-- in scope where the part begins; and whether it may be the argument of an aggregate.
pub record Part : Type 0 where
  pub binds : List (List ℕ)
  pub kinds : Role → Scope Role → List ScopeKind
  pub ranges : Scope Role → Bool

-- parts in the order of the text, each with the variables of those before it in scope
abbrev pub in_order : List Part → Role → Scope Role → List ScopeKind
in_order [] role scope = []
in_order (part ∷ parts) role scope = part.kinds role scope ++ in_order parts role (brought role part.binds scope)

-- of a pattern or generator; of an expression, from which no variable comes out; of a query, whose variables are its own
abbrev pub together : List Part → Part
together parts = record { binds = flat_map (λ part. part.binds) parts; kinds = in_order parts; ranges = λ scope. false }

abbrev pub inside : List Part → Part
inside parts = record { binds = []; kinds = in_order parts; ranges = λ scope. false }

abbrev pub asked : List Part → Part
asked parts = record { binds = []; kinds = λ role. in_order parts QueryVariable; ranges = λ scope. false }

abbrev pub named : List ℕ → Part
named name = record { binds = []; kinds = λ role scope. used (look scope name); ranges = λ scope. is_slot (look scope name) }

abbrev pub comprehension : List Part → Part
comprehension parts = record { binds = []; kinds = λ role. in_order parts QueryVariable; ranges = λ scope. true }

-- an aggregate, by its argument and its other value
abbrev pub aggregate : Part → List Part → Part
aggregate argument other = record {
  binds = [];
  kinds = λ role scope. unless (argument.ranges scope) refusal.Unknown ++ in_order (argument ∷ other) role scope;
  ranges = λ scope. false;
}

abbrev pub variable : List ℕ → Part
variable name = record { binds = name ∷ []; kinds = λ role scope. taken (look scope name); ranges = λ scope. false }

abbrev pub source_part : SourceTree → Part
source_part source_tree.Received = inside []
source_part source_tree.Sent = inside []
source_part (source_tree.Name name) = record { binds = []; kinds = λ role scope. used_as_slot (look scope name); ranges = λ scope. false }

abbrev pub expr_names : Expr-F Part Part Part Part Part → Part
expr_names (Expr-F.Quant each gens cond) = asked (gens ++ option_to_list cond)
expr_names (Expr-F.Or xs) = inside xs
expr_names (Expr-F.And xs) = inside xs
expr_names (Expr-F.Not x) = inside (x ∷ [])
expr_names (Expr-F.Cmp op x y) = inside (x ∷ y ∷ [])
expr_names (Expr-F.Member x y) = inside (x ∷ y ∷ [])
expr_names (Expr-F.Chain x more) = inside (x ∷ more)
expr_names (Expr-F.«Expr::Int» number) = inside []
expr_names (Expr-F.«Expr::Text» bytes) = inside []
expr_names (Expr-F.«Expr::Truth» truth) = inside []
expr_names Expr-F.«Expr::Me» = inside []
expr_names (Expr-F.«Expr::Name» name) = named name
expr_names Expr-F.Clock = inside []
expr_names (Expr-F.Range x y) = inside (x ∷ y ∷ [])
expr_names (Expr-F.«Expr::Tuple» xs) = inside xs
expr_names (Expr-F.SetOf xs) = inside xs
expr_names (Expr-F.Comp term gens cond) = comprehension (gens ++ option_to_list cond ++ term ∷ [])
expr_names (Expr-F.Count x) = aggregate x []
expr_names (Expr-F.Sum x) = aggregate x []
expr_names (Expr-F.Min x other) = aggregate x (other ∷ [])
expr_names (Expr-F.Max x other) = aggregate x (other ∷ [])

abbrev pub pattern_names : PatternTree-F Part Part Part Part Part → Part
pattern_names PatternTree-F.Wild = inside []
pattern_names (PatternTree-F.«PatternTree::Name» name) = variable name
pattern_names (PatternTree-F.«PatternTree::Int» number) = inside []
pattern_names (PatternTree-F.«PatternTree::Text» bytes) = inside []
pattern_names (PatternTree-F.«PatternTree::Truth» truth) = inside []
pattern_names PatternTree-F.«PatternTree::Me» = inside []
pattern_names (PatternTree-F.Equal x) = inside (x ∷ [])
pattern_names (PatternTree-F.«PatternTree::Tuple» parts) = together parts

abbrev pub peer_names : PeerTree-F Part Part Part Part Part → Part
peer_names (PeerTree-F.From pattern) = pattern
peer_names (PeerTree-F.To pattern) = pattern

abbrev pub chain_names : ChainTree-F Part Part Part Part Part → Part
chain_names link = link.operand

abbrev pub gen_names : GenTree-F Part Part Part Part Part → Part
gen_names g = together (g.message ∷ option_to_list g.peer ++ source_part g.source ∷ [])

unfoldable pub names_of : Expr → Part
names_of = fold-Expr Part Part Part Part Part expr_names pattern_names peer_names chain_names gen_names

unfoldable pub pattern_part : PatternTree → Part
pattern_part = fold-PatternTree Part Part Part Part Part expr_names pattern_names peer_names chain_names gen_names

unfoldable pub peer_part : PeerTree → Part
peer_part = fold-PeerTree Part Part Part Part Part expr_names pattern_names peer_names chain_names gen_names

unfoldable pub chain_part : ChainTree → Part
chain_part = fold-ChainTree Part Part Part Part Part expr_names pattern_names peer_names chain_names gen_names

unfoldable pub gen_part : GenTree → Part
gen_part = fold-GenTree Part Part Part Part Part expr_names pattern_names peer_names chain_names gen_names

-- the kinds of refusal in an expression
abbrev pub refused_in : Scope Role → Expr → List ScopeKind
refused_in scope x = (names_of x).kinds Local scope

-- the variables that a whole condition binds: those of a `some`
abbrev pub found_in : Expr-F Expr PatternTree PeerTree ChainTree GenTree → List (List ℕ)
found_in (Expr-F.Quant false gens cond) = flat_map (λ g. (gen_part g).binds) gens
found_in _ = []

abbrev pub found_names : Expr → List (List ℕ)
found_names x = found_in (out-Expr x)
