-- What is written in an expression, for the limits and for what `setup` may hold: its queries, its tuples, the clock.
use Rattle.std.specs.Prelude.{ℕ, max, Bool, true, false, not, ◌==◌, if◌then◌else◌, List, [], ◌∷◌, ◌++◌, map, length, sum, option_to_list, flat_map}
use Rattle.std.specs.List.{list_any}
use Rattle.da_lang.specs.declared.tree.Expr.{Expr}
use Rattle.da_lang.specs.declared.tree.Expr.TheFolds.{fold-Expr, fold-PatternTree, fold-PeerTree, fold-ChainTree, fold-GenTree}
use Rattle.da_lang.specs.declared.tree.Expr.TheOpen.{Expr-F, PatternTree-F, PeerTree-F, ChainTree-F, GenTree-F}
use Rattle.da_lang.specs.declared.tree.ChainTree.{ChainTree}
use Rattle.da_lang.specs.declared.tree.GenTree.{GenTree}
use Rattle.da_lang.specs.declared.tree.PatternTree.{PatternTree}
use Rattle.da_lang.specs.declared.tree.PeerTree.{PeerTree}
use Rattle.da_lang.specs.declared.ty.Ty.{Ty}
use Rattle.da_lang.specs.declared.ty.Ty.TheFolds.{fold-Ty}
use Rattle.da_lang.specs.declared.ty.Ty.TheOpen as ty

-- the generators of a query, and their variables
pub record Size : Type 0 where
  pub gens : ℕ
  pub variables : ℕ

-- The largest queries; all generators and their variables; the number of parts of the widest tuple; whether the clock is
-- read; and whether it is a name and no more.
pub record Writing : Type 0 where
  pub queries : List Size
  pub size : Size
  pub widest : ℕ
  pub clock : Bool
  pub name : Bool

abbrev pub greatest : List ℕ → ℕ
greatest [] = 0
greatest (n ∷ ns) = max n (greatest ns)

abbrev pub sizes : List Writing → Size
sizes ws = record { gens = sum (map (λ w. w.size.gens) ws); variables = sum (map (λ w. w.size.variables) ws) }

abbrev pub of : List Writing → Writing
of ws = record {
  queries = flat_map (λ w. w.queries) ws;
  size = sizes ws;
  widest = greatest (map (λ w. w.widest) ws);
  clock = list_any (λ w. w.clock) ws;
  name = false;
}

abbrev pub tuple : List Writing → Writing
tuple ws = record {
  queries = flat_map (λ w. w.queries) ws;
  size = sizes ws;
  widest = max (length ws) (greatest (map (λ w. w.widest) ws));
  clock = list_any (λ w. w.clock) ws;
  name = false;
}

-- these together are one query; each query in it is a part of it
abbrev pub query : List Writing → Writing
query ws = record {
  queries = sizes ws ∷ [];
  size = sizes ws;
  widest = greatest (map (λ w. w.widest) ws);
  clock = list_any (λ w. w.clock) ws;
  name = false;
}

abbrev pub counted : ℕ → ℕ → Writing
counted gens variables = record { queries = []; size = record { gens = gens; variables = variables }; widest = 0; clock = false; name = false }

-- the argument of an aggregate: a name stands for a comprehension with one generator and one variable
abbrev pub argument : Writing → Writing
argument w = if w.name then counted 1 1 else w

abbrev pub expr_writing : Expr-F Writing Writing Writing Writing Writing → Writing
expr_writing (Expr-F.Quant each gens cond) = query (gens ++ option_to_list cond)
expr_writing (Expr-F.Or xs) = of xs
expr_writing (Expr-F.And xs) = of xs
expr_writing (Expr-F.Not x) = of (x ∷ [])
expr_writing (Expr-F.Cmp op x y) = of (x ∷ y ∷ [])
expr_writing (Expr-F.Member x y) = of (x ∷ y ∷ [])
expr_writing (Expr-F.Chain x more) = of (x ∷ more)
expr_writing (Expr-F.«Expr::Int» number) = of []
expr_writing (Expr-F.«Expr::Text» bytes) = of []
expr_writing (Expr-F.«Expr::Truth» truth) = of []
expr_writing Expr-F.«Expr::Me» = of []
expr_writing (Expr-F.«Expr::Name» name) = record (of []) { name = true }
expr_writing Expr-F.Clock = record (of []) { clock = true }
expr_writing (Expr-F.Range x y) = of (x ∷ y ∷ [])
expr_writing (Expr-F.«Expr::Tuple» xs) = tuple xs
expr_writing (Expr-F.SetOf xs) = of xs
expr_writing (Expr-F.Comp term gens cond) = query (gens ++ option_to_list cond ++ term ∷ [])
expr_writing (Expr-F.Count x) = query (argument x ∷ [])
expr_writing (Expr-F.Sum x) = query (argument x ∷ [])
expr_writing (Expr-F.Min x other) = query (argument x ∷ other ∷ [])
expr_writing (Expr-F.Max x other) = query (argument x ∷ other ∷ [])

abbrev pub pattern_writing : PatternTree-F Writing Writing Writing Writing Writing → Writing
pattern_writing PatternTree-F.Wild = of []
pattern_writing (PatternTree-F.«PatternTree::Name» name) = counted 0 1
pattern_writing (PatternTree-F.«PatternTree::Int» number) = of []
pattern_writing (PatternTree-F.«PatternTree::Text» bytes) = of []
pattern_writing (PatternTree-F.«PatternTree::Truth» truth) = of []
pattern_writing PatternTree-F.«PatternTree::Me» = of []
pattern_writing (PatternTree-F.Equal x) = of (x ∷ [])
pattern_writing (PatternTree-F.«PatternTree::Tuple» parts) = tuple parts

abbrev pub peer_writing : PeerTree-F Writing Writing Writing Writing Writing → Writing
peer_writing (PeerTree-F.From pattern) = pattern
peer_writing (PeerTree-F.To pattern) = pattern

abbrev pub chain_writing : ChainTree-F Writing Writing Writing Writing Writing → Writing
chain_writing link = of (link.operand ∷ [])

abbrev pub gen_writing : GenTree-F Writing Writing Writing Writing Writing → Writing
gen_writing g = of (counted 1 0 ∷ g.message ∷ option_to_list g.peer)

unfoldable pub writing : Expr → Writing
writing = fold-Expr Writing Writing Writing Writing Writing expr_writing pattern_writing peer_writing chain_writing gen_writing

unfoldable pub pattern_written : PatternTree → Writing
pattern_written = fold-PatternTree Writing Writing Writing Writing Writing expr_writing pattern_writing peer_writing chain_writing gen_writing

unfoldable pub peer_written : PeerTree → Writing
peer_written = fold-PeerTree Writing Writing Writing Writing Writing expr_writing pattern_writing peer_writing chain_writing gen_writing

unfoldable pub chain_written : ChainTree → Writing
chain_written = fold-ChainTree Writing Writing Writing Writing Writing expr_writing pattern_writing peer_writing chain_writing gen_writing

unfoldable pub gen_written : GenTree → Writing
gen_written = fold-GenTree Writing Writing Writing Writing Writing expr_writing pattern_writing peer_writing chain_writing gen_writing

-- an expression holds a query; it reads the clock
abbrev pub asks : Expr → Bool
asks x = not (length (writing x).queries == 0)

abbrev pub reads_clock : Expr → Bool
reads_clock x = (writing x).clock

-- the number of parts of the widest tuple of a type
abbrev pub type_width_step : ty.Ty-F ℕ → ℕ
type_width_step ty.Int = 0
type_width_step ty.Bool = 0
type_width_step ty.Text = 0
type_width_step ty.Proc = 0
type_width_step (ty.Tuple parts) = max (length parts) (greatest parts)
type_width_step (ty.Set element) = element

unfoldable pub type_width : Ty → ℕ
type_width = fold-Ty ℕ type_width_step
