-- What is written in an expression, one layer at a time.
use Rattle.std.specs.Prelude.{ℕ, ℤ, Bool, List, map, Option, Some, None}
use Rattle.std.specs.Option.{option_map}
use Rattle.std.proofs.Common.{◌≡◌, ◌∙◌, ap, sym}
use Rattle.da_lang.specs.declared.tree.ArithOp.{ArithOp}
use Rattle.da_lang.specs.declared.tree.ChainTree.{ChainTree, roll-ChainTree}
use Rattle.da_lang.specs.declared.tree.CmpOp.{CmpOp}
use Rattle.da_lang.specs.declared.tree.Expr.{Expr, roll-Expr}
use Rattle.da_lang.specs.declared.tree.Expr.TheVariants as ex
use Rattle.da_lang.specs.declared.tree.Expr.TheOpen.{Expr-F, PatternTree-F, PeerTree-F}
use Rattle.da_lang.specs.declared.tree.Expr.TheFolds.{map-Expr, map-PatternTree, map-PeerTree, fold-roll-Expr, fold-roll-PatternTree, fold-roll-PeerTree, fold-roll-ChainTree, fold-roll-GenTree}
use Rattle.da_lang.specs.declared.tree.GenTree.{GenTree, roll-GenTree}
use Rattle.da_lang.specs.declared.tree.PatternTree.{PatternTree, roll-PatternTree}
use Rattle.da_lang.specs.declared.tree.PatternTree.TheVariants as pattern
use Rattle.da_lang.specs.declared.tree.PeerTree.{PeerTree, roll-PeerTree}
use Rattle.da_lang.specs.declared.tree.PeerTree.TheVariants as peer
use Rattle.da_lang.specs.declared.tree.SourceTree.{SourceTree}
use Rattle.da_lang.specs.Written.{Writing, writing, pattern_written, peer_written, chain_written, gen_written, expr_writing, pattern_writing, peer_writing, chain_writing, gen_writing}

writing_layer : (x : Expr-F Expr PatternTree PeerTree ChainTree GenTree) → writing (roll-Expr x) ≡ expr_writing (map-Expr Expr PatternTree PeerTree ChainTree GenTree Writing Writing Writing Writing Writing writing pattern_written peer_written chain_written gen_written x)
unfolding writing pattern_written peer_written chain_written gen_written
writing_layer x = fold-roll-Expr Writing Writing Writing Writing Writing expr_writing pattern_writing peer_writing chain_writing gen_writing x

pub writing-Quant : (each : Bool) (gens : List GenTree) (cond : Option Expr) → writing (ex.Quant each gens cond) ≡ expr_writing (Expr-F.Quant each (map gen_written gens) (option_map writing cond))
writing-Quant each gens None = ap (writing) (sym (ex.rolls-Quant each gens None)) ∙ writing_layer (Expr-F.Quant each gens None)
writing-Quant each gens (Some o) = ap (writing) (sym (ex.rolls-Quant each gens (Some o))) ∙ writing_layer (Expr-F.Quant each gens (Some o))

pub writing-Or : (xs : List Expr) → writing (ex.Or xs) ≡ expr_writing (Expr-F.Or (map writing xs))
writing-Or xs = ap (writing) (sym (ex.rolls-Or xs)) ∙ writing_layer (Expr-F.Or xs)

pub writing-And : (xs : List Expr) → writing (ex.And xs) ≡ expr_writing (Expr-F.And (map writing xs))
writing-And xs = ap (writing) (sym (ex.rolls-And xs)) ∙ writing_layer (Expr-F.And xs)

pub writing-Not : (x : Expr) → writing (ex.Not x) ≡ expr_writing (Expr-F.Not (writing x))
writing-Not x = ap (writing) (sym (ex.rolls-Not x)) ∙ writing_layer (Expr-F.Not x)

pub writing-Cmp : (o : CmpOp) (x : Expr) (y : Expr) → writing (ex.Cmp o x y) ≡ expr_writing (Expr-F.Cmp o (writing x) (writing y))
writing-Cmp o x y = ap (writing) (sym (ex.rolls-Cmp o x y)) ∙ writing_layer (Expr-F.Cmp o x y)

pub writing-Member : (x : Expr) (y : Expr) → writing (ex.Member x y) ≡ expr_writing (Expr-F.Member (writing x) (writing y))
writing-Member x y = ap (writing) (sym (ex.rolls-Member x y)) ∙ writing_layer (Expr-F.Member x y)

pub writing-Chain : (x : Expr) (more : List ChainTree) → writing (ex.Chain x more) ≡ expr_writing (Expr-F.Chain (writing x) (map chain_written more))
writing-Chain x more = ap (writing) (sym (ex.rolls-Chain x more)) ∙ writing_layer (Expr-F.Chain x more)

pub writing-Int : (number : ℤ) → writing (ex.Int number) ≡ expr_writing (Expr-F.«Expr::Int» number)
writing-Int number = ap (writing) (sym (ex.rolls-Int number)) ∙ writing_layer (Expr-F.«Expr::Int» number)

pub writing-Text : (bytes : List ℕ) → writing (ex.Text bytes) ≡ expr_writing (Expr-F.«Expr::Text» bytes)
writing-Text bytes = ap (writing) (sym (ex.rolls-Text bytes)) ∙ writing_layer (Expr-F.«Expr::Text» bytes)

pub writing-Truth : (truth : Bool) → writing (ex.Truth truth) ≡ expr_writing (Expr-F.«Expr::Truth» truth)
writing-Truth truth = ap (writing) (sym (ex.rolls-Truth truth)) ∙ writing_layer (Expr-F.«Expr::Truth» truth)

pub writing-Me : writing ex.Me ≡ expr_writing Expr-F.«Expr::Me»
writing-Me = ap (writing) (sym ex.rolls-Me) ∙ writing_layer Expr-F.«Expr::Me»

pub writing-Name : (name : List ℕ) → writing (ex.Name name) ≡ expr_writing (Expr-F.«Expr::Name» name)
writing-Name name = ap (writing) (sym (ex.rolls-Name name)) ∙ writing_layer (Expr-F.«Expr::Name» name)

pub writing-Clock : writing ex.Clock ≡ expr_writing Expr-F.Clock
writing-Clock = ap (writing) (sym ex.rolls-Clock) ∙ writing_layer Expr-F.Clock

pub writing-Range : (x : Expr) (y : Expr) → writing (ex.Range x y) ≡ expr_writing (Expr-F.Range (writing x) (writing y))
writing-Range x y = ap (writing) (sym (ex.rolls-Range x y)) ∙ writing_layer (Expr-F.Range x y)

pub writing-Tuple : (xs : List Expr) → writing (ex.Tuple xs) ≡ expr_writing (Expr-F.«Expr::Tuple» (map writing xs))
writing-Tuple xs = ap (writing) (sym (ex.rolls-Tuple xs)) ∙ writing_layer (Expr-F.«Expr::Tuple» xs)

pub writing-SetOf : (xs : List Expr) → writing (ex.SetOf xs) ≡ expr_writing (Expr-F.SetOf (map writing xs))
writing-SetOf xs = ap (writing) (sym (ex.rolls-SetOf xs)) ∙ writing_layer (Expr-F.SetOf xs)

pub writing-Comp : (x : Expr) (gens : List GenTree) (cond : Option Expr) → writing (ex.Comp x gens cond) ≡ expr_writing (Expr-F.Comp (writing x) (map gen_written gens) (option_map writing cond))
writing-Comp x gens None = ap (writing) (sym (ex.rolls-Comp x gens None)) ∙ writing_layer (Expr-F.Comp x gens None)
writing-Comp x gens (Some o) = ap (writing) (sym (ex.rolls-Comp x gens (Some o))) ∙ writing_layer (Expr-F.Comp x gens (Some o))

pub writing-Count : (x : Expr) → writing (ex.Count x) ≡ expr_writing (Expr-F.Count (writing x))
writing-Count x = ap (writing) (sym (ex.rolls-Count x)) ∙ writing_layer (Expr-F.Count x)

pub writing-Sum : (x : Expr) → writing (ex.Sum x) ≡ expr_writing (Expr-F.Sum (writing x))
writing-Sum x = ap (writing) (sym (ex.rolls-Sum x)) ∙ writing_layer (Expr-F.Sum x)

pub writing-Min : (x : Expr) (other : Expr) → writing (ex.Min x other) ≡ expr_writing (Expr-F.Min (writing x) (writing other))
writing-Min x other = ap (writing) (sym (ex.rolls-Min x other)) ∙ writing_layer (Expr-F.Min x other)

pub writing-Max : (x : Expr) (other : Expr) → writing (ex.Max x other) ≡ expr_writing (Expr-F.Max (writing x) (writing other))
writing-Max x other = ap (writing) (sym (ex.rolls-Max x other)) ∙ writing_layer (Expr-F.Max x other)

pattern_written_layer : (x : PatternTree-F Expr PatternTree PeerTree ChainTree GenTree) → pattern_written (roll-PatternTree x) ≡ pattern_writing (map-PatternTree Expr PatternTree PeerTree ChainTree GenTree Writing Writing Writing Writing Writing writing pattern_written peer_written chain_written gen_written x)
unfolding writing pattern_written peer_written chain_written gen_written
pattern_written_layer x = fold-roll-PatternTree Writing Writing Writing Writing Writing expr_writing pattern_writing peer_writing chain_writing gen_writing x

pub pattern_written-Wild : pattern_written pattern.Wild ≡ pattern_writing PatternTree-F.Wild
pattern_written-Wild = ap (pattern_written) (sym pattern.rolls-Wild) ∙ pattern_written_layer PatternTree-F.Wild

pub pattern_written-Name : (name : List ℕ) → pattern_written (pattern.Name name) ≡ pattern_writing (PatternTree-F.«PatternTree::Name» name)
pattern_written-Name name = ap (pattern_written) (sym (pattern.rolls-Name name)) ∙ pattern_written_layer (PatternTree-F.«PatternTree::Name» name)

pub pattern_written-Int : (number : ℤ) → pattern_written (pattern.Int number) ≡ pattern_writing (PatternTree-F.«PatternTree::Int» number)
pattern_written-Int number = ap (pattern_written) (sym (pattern.rolls-Int number)) ∙ pattern_written_layer (PatternTree-F.«PatternTree::Int» number)

pub pattern_written-Text : (bytes : List ℕ) → pattern_written (pattern.Text bytes) ≡ pattern_writing (PatternTree-F.«PatternTree::Text» bytes)
pattern_written-Text bytes = ap (pattern_written) (sym (pattern.rolls-Text bytes)) ∙ pattern_written_layer (PatternTree-F.«PatternTree::Text» bytes)

pub pattern_written-Truth : (truth : Bool) → pattern_written (pattern.Truth truth) ≡ pattern_writing (PatternTree-F.«PatternTree::Truth» truth)
pattern_written-Truth truth = ap (pattern_written) (sym (pattern.rolls-Truth truth)) ∙ pattern_written_layer (PatternTree-F.«PatternTree::Truth» truth)

pub pattern_written-Me : pattern_written pattern.Me ≡ pattern_writing PatternTree-F.«PatternTree::Me»
pattern_written-Me = ap (pattern_written) (sym pattern.rolls-Me) ∙ pattern_written_layer PatternTree-F.«PatternTree::Me»

pub pattern_written-Equal : (x : Expr) → pattern_written (pattern.Equal x) ≡ pattern_writing (PatternTree-F.Equal (writing x))
pattern_written-Equal x = ap (pattern_written) (sym (pattern.rolls-Equal x)) ∙ pattern_written_layer (PatternTree-F.Equal x)

pub pattern_written-Tuple : (ps : List PatternTree) → pattern_written (pattern.Tuple ps) ≡ pattern_writing (PatternTree-F.«PatternTree::Tuple» (map pattern_written ps))
pattern_written-Tuple ps = ap (pattern_written) (sym (pattern.rolls-Tuple ps)) ∙ pattern_written_layer (PatternTree-F.«PatternTree::Tuple» ps)

peer_written_layer : (x : PeerTree-F Expr PatternTree PeerTree ChainTree GenTree) → peer_written (roll-PeerTree x) ≡ peer_writing (map-PeerTree Expr PatternTree PeerTree ChainTree GenTree Writing Writing Writing Writing Writing writing pattern_written peer_written chain_written gen_written x)
unfolding writing pattern_written peer_written chain_written gen_written
peer_written_layer x = fold-roll-PeerTree Writing Writing Writing Writing Writing expr_writing pattern_writing peer_writing chain_writing gen_writing x

pub peer_written-From : (p : PatternTree) → peer_written (peer.From p) ≡ peer_writing (PeerTree-F.From (pattern_written p))
peer_written-From p = ap (peer_written) (sym (peer.rolls-From p)) ∙ peer_written_layer (PeerTree-F.From p)

pub peer_written-To : (p : PatternTree) → peer_written (peer.To p) ≡ peer_writing (PeerTree-F.To (pattern_written p))
peer_written-To p = ap (peer_written) (sym (peer.rolls-To p)) ∙ peer_written_layer (PeerTree-F.To p)

pub chain_written-of : (op_ : ArithOp) (operand_ : Expr) → chain_written (roll-ChainTree (record { op = op_; operand = operand_ })) ≡ chain_writing (record { op = op_; operand = (writing operand_) })
unfolding writing pattern_written peer_written chain_written gen_written
chain_written-of op_ operand_ = fold-roll-ChainTree Writing Writing Writing Writing Writing expr_writing pattern_writing peer_writing chain_writing gen_writing (record { op = op_; operand = operand_ })

pub gen_written-of : (message_ : PatternTree) (peer_ : Option PeerTree) (source_ : SourceTree) → gen_written (roll-GenTree (record { message = message_; peer = peer_; source = source_ })) ≡ gen_writing (record { message = (pattern_written message_); peer = (option_map peer_written peer_); source = source_ })
unfolding writing pattern_written peer_written chain_written gen_written
gen_written-of message_ None source_ = fold-roll-GenTree Writing Writing Writing Writing Writing expr_writing pattern_writing peer_writing chain_writing gen_writing (record { message = message_; peer = None; source = source_ })
gen_written-of message_ (Some o) source_ = fold-roll-GenTree Writing Writing Writing Writing Writing expr_writing pattern_writing peer_writing chain_writing gen_writing (record { message = message_; peer = (Some o); source = source_ })

pub ruleset written = (writing-Quant, writing-Or, writing-And, writing-Not, writing-Cmp, writing-Member, writing-Chain, writing-Int, writing-Text, writing-Truth, writing-Me, writing-Name, writing-Clock, writing-Range, writing-Tuple, writing-SetOf, writing-Comp, writing-Count, writing-Sum, writing-Min, writing-Max, pattern_written-Wild, pattern_written-Name, pattern_written-Int, pattern_written-Text, pattern_written-Truth, pattern_written-Me, pattern_written-Equal, pattern_written-Tuple, peer_written-From, peer_written-To, chain_written-of, gen_written-of)
