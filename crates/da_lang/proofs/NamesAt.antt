-- Names in expressions, one layer at a time.
use Rattle.std.specs.Prelude.{ℕ, ℤ, Bool, List, map, Option, Some, None}
use Rattle.std.specs.Option.{option_map}
use Rattle.std.proofs.Common.{◌≡◌, ◌∙◌, ap, sym}
use Rattle.da_lang.specs.declared.tree.ArithOp.{ArithOp}
use Rattle.da_lang.specs.declared.tree.ChainTree.{ChainTree, roll-ChainTree}
use Rattle.da_lang.specs.declared.tree.CmpOp.{CmpOp}
use Rattle.da_lang.specs.declared.tree.Expr.{Expr, roll-Expr}
use Rattle.da_lang.specs.declared.tree.Expr.TheVariants as ex
use Rattle.da_lang.specs.declared.tree.Expr.TheOpen.{Expr-F, PatternTree-F, PeerTree-F}
use Rattle.da_lang.specs.declared.tree.Expr.TheFolds.{map-Expr, map-PatternTree, map-PeerTree, fold-roll-Expr, fold-roll-PatternTree, fold-roll-PeerTree, fold-roll-ChainTree, fold-roll-GenTree}
use Rattle.da_lang.specs.declared.tree.GenTree.{GenTree, roll-GenTree}
use Rattle.da_lang.specs.declared.tree.PatternTree.{PatternTree, roll-PatternTree}
use Rattle.da_lang.specs.declared.tree.PatternTree.TheVariants as pattern
use Rattle.da_lang.specs.declared.tree.PeerTree.{PeerTree, roll-PeerTree}
use Rattle.da_lang.specs.declared.tree.PeerTree.TheVariants as peer
use Rattle.da_lang.specs.declared.tree.SourceTree.{SourceTree}
use Rattle.da_lang.specs.ExprNames.{Part, names_of, pattern_part, peer_part, chain_part, gen_part, expr_names, pattern_names, peer_names, chain_names, gen_names}

names_of_layer : (x : Expr-F Expr PatternTree PeerTree ChainTree GenTree) → names_of (roll-Expr x) ≡ expr_names (map-Expr Expr PatternTree PeerTree ChainTree GenTree Part Part Part Part Part names_of pattern_part peer_part chain_part gen_part x)
unfolding names_of pattern_part peer_part chain_part gen_part
names_of_layer x = fold-roll-Expr Part Part Part Part Part expr_names pattern_names peer_names chain_names gen_names x

pub names_of-Quant : (each : Bool) (gens : List GenTree) (cond : Option Expr) → names_of (ex.Quant each gens cond) ≡ expr_names (Expr-F.Quant each (map gen_part gens) (option_map names_of cond))
names_of-Quant each gens None = ap (names_of) (sym (ex.rolls-Quant each gens None)) ∙ names_of_layer (Expr-F.Quant each gens None)
names_of-Quant each gens (Some o) = ap (names_of) (sym (ex.rolls-Quant each gens (Some o))) ∙ names_of_layer (Expr-F.Quant each gens (Some o))

pub names_of-Or : (xs : List Expr) → names_of (ex.Or xs) ≡ expr_names (Expr-F.Or (map names_of xs))
names_of-Or xs = ap (names_of) (sym (ex.rolls-Or xs)) ∙ names_of_layer (Expr-F.Or xs)

pub names_of-And : (xs : List Expr) → names_of (ex.And xs) ≡ expr_names (Expr-F.And (map names_of xs))
names_of-And xs = ap (names_of) (sym (ex.rolls-And xs)) ∙ names_of_layer (Expr-F.And xs)

pub names_of-Not : (x : Expr) → names_of (ex.Not x) ≡ expr_names (Expr-F.Not (names_of x))
names_of-Not x = ap (names_of) (sym (ex.rolls-Not x)) ∙ names_of_layer (Expr-F.Not x)

pub names_of-Cmp : (o : CmpOp) (x : Expr) (y : Expr) → names_of (ex.Cmp o x y) ≡ expr_names (Expr-F.Cmp o (names_of x) (names_of y))
names_of-Cmp o x y = ap (names_of) (sym (ex.rolls-Cmp o x y)) ∙ names_of_layer (Expr-F.Cmp o x y)

pub names_of-Member : (x : Expr) (y : Expr) → names_of (ex.Member x y) ≡ expr_names (Expr-F.Member (names_of x) (names_of y))
names_of-Member x y = ap (names_of) (sym (ex.rolls-Member x y)) ∙ names_of_layer (Expr-F.Member x y)

pub names_of-Chain : (x : Expr) (more : List ChainTree) → names_of (ex.Chain x more) ≡ expr_names (Expr-F.Chain (names_of x) (map chain_part more))
names_of-Chain x more = ap (names_of) (sym (ex.rolls-Chain x more)) ∙ names_of_layer (Expr-F.Chain x more)

pub names_of-Int : (number : ℤ) → names_of (ex.Int number) ≡ expr_names (Expr-F.«Expr::Int» number)
names_of-Int number = ap (names_of) (sym (ex.rolls-Int number)) ∙ names_of_layer (Expr-F.«Expr::Int» number)

pub names_of-Text : (bytes : List ℕ) → names_of (ex.Text bytes) ≡ expr_names (Expr-F.«Expr::Text» bytes)
names_of-Text bytes = ap (names_of) (sym (ex.rolls-Text bytes)) ∙ names_of_layer (Expr-F.«Expr::Text» bytes)

pub names_of-Truth : (truth : Bool) → names_of (ex.Truth truth) ≡ expr_names (Expr-F.«Expr::Truth» truth)
names_of-Truth truth = ap (names_of) (sym (ex.rolls-Truth truth)) ∙ names_of_layer (Expr-F.«Expr::Truth» truth)

pub names_of-Me : names_of ex.Me ≡ expr_names Expr-F.«Expr::Me»
names_of-Me = ap (names_of) (sym ex.rolls-Me) ∙ names_of_layer Expr-F.«Expr::Me»

pub names_of-Name : (name : List ℕ) → names_of (ex.Name name) ≡ expr_names (Expr-F.«Expr::Name» name)
names_of-Name name = ap (names_of) (sym (ex.rolls-Name name)) ∙ names_of_layer (Expr-F.«Expr::Name» name)

pub names_of-Clock : names_of ex.Clock ≡ expr_names Expr-F.Clock
names_of-Clock = ap (names_of) (sym ex.rolls-Clock) ∙ names_of_layer Expr-F.Clock

pub names_of-Range : (x : Expr) (y : Expr) → names_of (ex.Range x y) ≡ expr_names (Expr-F.Range (names_of x) (names_of y))
names_of-Range x y = ap (names_of) (sym (ex.rolls-Range x y)) ∙ names_of_layer (Expr-F.Range x y)

pub names_of-Tuple : (xs : List Expr) → names_of (ex.Tuple xs) ≡ expr_names (Expr-F.«Expr::Tuple» (map names_of xs))
names_of-Tuple xs = ap (names_of) (sym (ex.rolls-Tuple xs)) ∙ names_of_layer (Expr-F.«Expr::Tuple» xs)

pub names_of-SetOf : (xs : List Expr) → names_of (ex.SetOf xs) ≡ expr_names (Expr-F.SetOf (map names_of xs))
names_of-SetOf xs = ap (names_of) (sym (ex.rolls-SetOf xs)) ∙ names_of_layer (Expr-F.SetOf xs)

pub names_of-Comp : (x : Expr) (gens : List GenTree) (cond : Option Expr) → names_of (ex.Comp x gens cond) ≡ expr_names (Expr-F.Comp (names_of x) (map gen_part gens) (option_map names_of cond))
names_of-Comp x gens None = ap (names_of) (sym (ex.rolls-Comp x gens None)) ∙ names_of_layer (Expr-F.Comp x gens None)
names_of-Comp x gens (Some o) = ap (names_of) (sym (ex.rolls-Comp x gens (Some o))) ∙ names_of_layer (Expr-F.Comp x gens (Some o))

pub names_of-Count : (x : Expr) → names_of (ex.Count x) ≡ expr_names (Expr-F.Count (names_of x))
names_of-Count x = ap (names_of) (sym (ex.rolls-Count x)) ∙ names_of_layer (Expr-F.Count x)

pub names_of-Sum : (x : Expr) → names_of (ex.Sum x) ≡ expr_names (Expr-F.Sum (names_of x))
names_of-Sum x = ap (names_of) (sym (ex.rolls-Sum x)) ∙ names_of_layer (Expr-F.Sum x)

pub names_of-Min : (x : Expr) (other : Expr) → names_of (ex.Min x other) ≡ expr_names (Expr-F.Min (names_of x) (names_of other))
names_of-Min x other = ap (names_of) (sym (ex.rolls-Min x other)) ∙ names_of_layer (Expr-F.Min x other)

pub names_of-Max : (x : Expr) (other : Expr) → names_of (ex.Max x other) ≡ expr_names (Expr-F.Max (names_of x) (names_of other))
names_of-Max x other = ap (names_of) (sym (ex.rolls-Max x other)) ∙ names_of_layer (Expr-F.Max x other)

pattern_part_layer : (x : PatternTree-F Expr PatternTree PeerTree ChainTree GenTree) → pattern_part (roll-PatternTree x) ≡ pattern_names (map-PatternTree Expr PatternTree PeerTree ChainTree GenTree Part Part Part Part Part names_of pattern_part peer_part chain_part gen_part x)
unfolding names_of pattern_part peer_part chain_part gen_part
pattern_part_layer x = fold-roll-PatternTree Part Part Part Part Part expr_names pattern_names peer_names chain_names gen_names x

pub pattern_part-Wild : pattern_part pattern.Wild ≡ pattern_names PatternTree-F.Wild
pattern_part-Wild = ap (pattern_part) (sym pattern.rolls-Wild) ∙ pattern_part_layer PatternTree-F.Wild

pub pattern_part-Name : (name : List ℕ) → pattern_part (pattern.Name name) ≡ pattern_names (PatternTree-F.«PatternTree::Name» name)
pattern_part-Name name = ap (pattern_part) (sym (pattern.rolls-Name name)) ∙ pattern_part_layer (PatternTree-F.«PatternTree::Name» name)

pub pattern_part-Int : (number : ℤ) → pattern_part (pattern.Int number) ≡ pattern_names (PatternTree-F.«PatternTree::Int» number)
pattern_part-Int number = ap (pattern_part) (sym (pattern.rolls-Int number)) ∙ pattern_part_layer (PatternTree-F.«PatternTree::Int» number)

pub pattern_part-Text : (bytes : List ℕ) → pattern_part (pattern.Text bytes) ≡ pattern_names (PatternTree-F.«PatternTree::Text» bytes)
pattern_part-Text bytes = ap (pattern_part) (sym (pattern.rolls-Text bytes)) ∙ pattern_part_layer (PatternTree-F.«PatternTree::Text» bytes)

pub pattern_part-Truth : (truth : Bool) → pattern_part (pattern.Truth truth) ≡ pattern_names (PatternTree-F.«PatternTree::Truth» truth)
pattern_part-Truth truth = ap (pattern_part) (sym (pattern.rolls-Truth truth)) ∙ pattern_part_layer (PatternTree-F.«PatternTree::Truth» truth)

pub pattern_part-Me : pattern_part pattern.Me ≡ pattern_names PatternTree-F.«PatternTree::Me»
pattern_part-Me = ap (pattern_part) (sym pattern.rolls-Me) ∙ pattern_part_layer PatternTree-F.«PatternTree::Me»

pub pattern_part-Equal : (x : Expr) → pattern_part (pattern.Equal x) ≡ pattern_names (PatternTree-F.Equal (names_of x))
pattern_part-Equal x = ap (pattern_part) (sym (pattern.rolls-Equal x)) ∙ pattern_part_layer (PatternTree-F.Equal x)

pub pattern_part-Tuple : (ps : List PatternTree) → pattern_part (pattern.Tuple ps) ≡ pattern_names (PatternTree-F.«PatternTree::Tuple» (map pattern_part ps))
pattern_part-Tuple ps = ap (pattern_part) (sym (pattern.rolls-Tuple ps)) ∙ pattern_part_layer (PatternTree-F.«PatternTree::Tuple» ps)

peer_part_layer : (x : PeerTree-F Expr PatternTree PeerTree ChainTree GenTree) → peer_part (roll-PeerTree x) ≡ peer_names (map-PeerTree Expr PatternTree PeerTree ChainTree GenTree Part Part Part Part Part names_of pattern_part peer_part chain_part gen_part x)
unfolding names_of pattern_part peer_part chain_part gen_part
peer_part_layer x = fold-roll-PeerTree Part Part Part Part Part expr_names pattern_names peer_names chain_names gen_names x

pub peer_part-From : (p : PatternTree) → peer_part (peer.From p) ≡ peer_names (PeerTree-F.From (pattern_part p))
peer_part-From p = ap (peer_part) (sym (peer.rolls-From p)) ∙ peer_part_layer (PeerTree-F.From p)

pub peer_part-To : (p : PatternTree) → peer_part (peer.To p) ≡ peer_names (PeerTree-F.To (pattern_part p))
peer_part-To p = ap (peer_part) (sym (peer.rolls-To p)) ∙ peer_part_layer (PeerTree-F.To p)

pub chain_part-of : (op_ : ArithOp) (operand_ : Expr) → chain_part (roll-ChainTree (record { op = op_; operand = operand_ })) ≡ chain_names (record { op = op_; operand = (names_of operand_) })
unfolding names_of pattern_part peer_part chain_part gen_part
chain_part-of op_ operand_ = fold-roll-ChainTree Part Part Part Part Part expr_names pattern_names peer_names chain_names gen_names (record { op = op_; operand = operand_ })

pub gen_part-of : (message_ : PatternTree) (peer_ : Option PeerTree) (source_ : SourceTree) → gen_part (roll-GenTree (record { message = message_; peer = peer_; source = source_ })) ≡ gen_names (record { message = (pattern_part message_); peer = (option_map peer_part peer_); source = source_ })
unfolding names_of pattern_part peer_part chain_part gen_part
gen_part-of message_ None source_ = fold-roll-GenTree Part Part Part Part Part expr_names pattern_names peer_names chain_names gen_names (record { message = message_; peer = None; source = source_ })
gen_part-of message_ (Some o) source_ = fold-roll-GenTree Part Part Part Part Part expr_names pattern_names peer_names chain_names gen_names (record { message = message_; peer = (Some o); source = source_ })

pub ruleset naming = (names_of-Quant, names_of-Or, names_of-And, names_of-Not, names_of-Cmp, names_of-Member, names_of-Chain, names_of-Int, names_of-Text, names_of-Truth, names_of-Me, names_of-Name, names_of-Clock, names_of-Range, names_of-Tuple, names_of-SetOf, names_of-Comp, names_of-Count, names_of-Sum, names_of-Min, names_of-Max, pattern_part-Wild, pattern_part-Name, pattern_part-Int, pattern_part-Text, pattern_part-Truth, pattern_part-Me, pattern_part-Equal, pattern_part-Tuple, peer_part-From, peer_part-To, chain_part-of, gen_part-of)
