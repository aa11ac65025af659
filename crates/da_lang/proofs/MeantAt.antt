-- What expressions become, one layer at a time.
use Rattle.std.specs.Prelude.{ℕ, ℤ, Bool, List, map, Option, Some, None}
use Rattle.std.specs.Option.{option_map}
use Rattle.std.proofs.Common.{◌≡◌, ◌∙◌, ap, sym}
use Rattle.da_lang.specs.declared.tree.ArithOp.{ArithOp}
use Rattle.da_lang.specs.declared.tree.ChainTree.{ChainTree, roll-ChainTree}
use Rattle.da_lang.specs.declared.tree.CmpOp.{CmpOp}
use Rattle.da_lang.specs.declared.tree.Expr.{Expr, roll-Expr}
use Rattle.da_lang.specs.declared.tree.Expr.TheVariants as ex
use Rattle.da_lang.specs.declared.tree.Expr.TheOpen.{Expr-F, PatternTree-F, PeerTree-F}
use Rattle.da_lang.specs.declared.tree.Expr.TheFolds.{map-Expr, map-PatternTree, map-PeerTree, fold-roll-Expr, fold-roll-PatternTree, fold-roll-PeerTree, fold-roll-ChainTree, fold-roll-GenTree}
use Rattle.da_lang.specs.declared.tree.GenTree.{GenTree, roll-GenTree}
use Rattle.da_lang.specs.declared.tree.PatternTree.{PatternTree, roll-PatternTree}
use Rattle.da_lang.specs.declared.tree.PatternTree.TheVariants as pattern
use Rattle.da_lang.specs.declared.tree.PeerTree.{PeerTree, roll-PeerTree}
use Rattle.da_lang.specs.declared.tree.PeerTree.TheVariants as peer
use Rattle.da_lang.specs.declared.tree.SourceTree.{SourceTree}
use Rattle.da_lang.specs.ExprMeaning.{Meant, Matching, Peer, Signed, Generator, meant, matching, peer_of, signed_of, generator, expr_meant, pattern_meant, peer_meant, chain_meant, gen_meant}

meant_layer : (x : Expr-F Expr PatternTree PeerTree ChainTree GenTree) → meant (roll-Expr x) ≡ expr_meant (map-Expr Expr PatternTree PeerTree ChainTree GenTree Meant Matching Peer Signed Generator meant matching peer_of signed_of generator x)
unfolding meant matching peer_of signed_of generator
meant_layer x = fold-roll-Expr Meant Matching Peer Signed Generator expr_meant pattern_meant peer_meant chain_meant gen_meant x

pub meant-Quant : (each : Bool) (gens : List GenTree) (cond : Option Expr) → meant (ex.Quant each gens cond) ≡ expr_meant (Expr-F.Quant each (map generator gens) (option_map meant cond))
meant-Quant each gens None = ap (meant) (sym (ex.rolls-Quant each gens None)) ∙ meant_layer (Expr-F.Quant each gens None)
meant-Quant each gens (Some o) = ap (meant) (sym (ex.rolls-Quant each gens (Some o))) ∙ meant_layer (Expr-F.Quant each gens (Some o))

pub meant-Or : (xs : List Expr) → meant (ex.Or xs) ≡ expr_meant (Expr-F.Or (map meant xs))
meant-Or xs = ap (meant) (sym (ex.rolls-Or xs)) ∙ meant_layer (Expr-F.Or xs)

pub meant-And : (xs : List Expr) → meant (ex.And xs) ≡ expr_meant (Expr-F.And (map meant xs))
meant-And xs = ap (meant) (sym (ex.rolls-And xs)) ∙ meant_layer (Expr-F.And xs)

pub meant-Not : (x : Expr) → meant (ex.Not x) ≡ expr_meant (Expr-F.Not (meant x))
meant-Not x = ap (meant) (sym (ex.rolls-Not x)) ∙ meant_layer (Expr-F.Not x)

pub meant-Cmp : (o : CmpOp) (x : Expr) (y : Expr) → meant (ex.Cmp o x y) ≡ expr_meant (Expr-F.Cmp o (meant x) (meant y))
meant-Cmp o x y = ap (meant) (sym (ex.rolls-Cmp o x y)) ∙ meant_layer (Expr-F.Cmp o x y)

pub meant-Member : (x : Expr) (y : Expr) → meant (ex.Member x y) ≡ expr_meant (Expr-F.Member (meant x) (meant y))
meant-Member x y = ap (meant) (sym (ex.rolls-Member x y)) ∙ meant_layer (Expr-F.Member x y)

pub meant-Chain : (x : Expr) (more : List ChainTree) → meant (ex.Chain x more) ≡ expr_meant (Expr-F.Chain (meant x) (map signed_of more))
meant-Chain x more = ap (meant) (sym (ex.rolls-Chain x more)) ∙ meant_layer (Expr-F.Chain x more)

pub meant-Int : (number : ℤ) → meant (ex.Int number) ≡ expr_meant (Expr-F.«Expr::Int» number)
meant-Int number = ap (meant) (sym (ex.rolls-Int number)) ∙ meant_layer (Expr-F.«Expr::Int» number)

pub meant-Text : (bytes : List ℕ) → meant (ex.Text bytes) ≡ expr_meant (Expr-F.«Expr::Text» bytes)
meant-Text bytes = ap (meant) (sym (ex.rolls-Text bytes)) ∙ meant_layer (Expr-F.«Expr::Text» bytes)

pub meant-Truth : (truth : Bool) → meant (ex.Truth truth) ≡ expr_meant (Expr-F.«Expr::Truth» truth)
meant-Truth truth = ap (meant) (sym (ex.rolls-Truth truth)) ∙ meant_layer (Expr-F.«Expr::Truth» truth)

pub meant-Me : meant ex.Me ≡ expr_meant Expr-F.«Expr::Me»
meant-Me = ap (meant) (sym ex.rolls-Me) ∙ meant_layer Expr-F.«Expr::Me»

pub meant-Name : (name : List ℕ) → meant (ex.Name name) ≡ expr_meant (Expr-F.«Expr::Name» name)
meant-Name name = ap (meant) (sym (ex.rolls-Name name)) ∙ meant_layer (Expr-F.«Expr::Name» name)

pub meant-Clock : meant ex.Clock ≡ expr_meant Expr-F.Clock
meant-Clock = ap (meant) (sym ex.rolls-Clock) ∙ meant_layer Expr-F.Clock

pub meant-Range : (x : Expr) (y : Expr) → meant (ex.Range x y) ≡ expr_meant (Expr-F.Range (meant x) (meant y))
meant-Range x y = ap (meant) (sym (ex.rolls-Range x y)) ∙ meant_layer (Expr-F.Range x y)

pub meant-Tuple : (xs : List Expr) → meant (ex.Tuple xs) ≡ expr_meant (Expr-F.«Expr::Tuple» (map meant xs))
meant-Tuple xs = ap (meant) (sym (ex.rolls-Tuple xs)) ∙ meant_layer (Expr-F.«Expr::Tuple» xs)

pub meant-SetOf : (xs : List Expr) → meant (ex.SetOf xs) ≡ expr_meant (Expr-F.SetOf (map meant xs))
meant-SetOf xs = ap (meant) (sym (ex.rolls-SetOf xs)) ∙ meant_layer (Expr-F.SetOf xs)

pub meant-Comp : (x : Expr) (gens : List GenTree) (cond : Option Expr) → meant (ex.Comp x gens cond) ≡ expr_meant (Expr-F.Comp (meant x) (map generator gens) (option_map meant cond))
meant-Comp x gens None = ap (meant) (sym (ex.rolls-Comp x gens None)) ∙ meant_layer (Expr-F.Comp x gens None)
meant-Comp x gens (Some o) = ap (meant) (sym (ex.rolls-Comp x gens (Some o))) ∙ meant_layer (Expr-F.Comp x gens (Some o))

pub meant-Count : (x : Expr) → meant (ex.Count x) ≡ expr_meant (Expr-F.Count (meant x))
meant-Count x = ap (meant) (sym (ex.rolls-Count x)) ∙ meant_layer (Expr-F.Count x)

pub meant-Sum : (x : Expr) → meant (ex.Sum x) ≡ expr_meant (Expr-F.Sum (meant x))
meant-Sum x = ap (meant) (sym (ex.rolls-Sum x)) ∙ meant_layer (Expr-F.Sum x)

pub meant-Min : (x : Expr) (other : Expr) → meant (ex.Min x other) ≡ expr_meant (Expr-F.Min (meant x) (meant other))
meant-Min x other = ap (meant) (sym (ex.rolls-Min x other)) ∙ meant_layer (Expr-F.Min x other)

pub meant-Max : (x : Expr) (other : Expr) → meant (ex.Max x other) ≡ expr_meant (Expr-F.Max (meant x) (meant other))
meant-Max x other = ap (meant) (sym (ex.rolls-Max x other)) ∙ meant_layer (Expr-F.Max x other)

matching_layer : (x : PatternTree-F Expr PatternTree PeerTree ChainTree GenTree) → matching (roll-PatternTree x) ≡ pattern_meant (map-PatternTree Expr PatternTree PeerTree ChainTree GenTree Meant Matching Peer Signed Generator meant matching peer_of signed_of generator x)
unfolding meant matching peer_of signed_of generator
matching_layer x = fold-roll-PatternTree Meant Matching Peer Signed Generator expr_meant pattern_meant peer_meant chain_meant gen_meant x

pub matching-Wild : matching pattern.Wild ≡ pattern_meant PatternTree-F.Wild
matching-Wild = ap (matching) (sym pattern.rolls-Wild) ∙ matching_layer PatternTree-F.Wild

pub matching-Name : (name : List ℕ) → matching (pattern.Name name) ≡ pattern_meant (PatternTree-F.«PatternTree::Name» name)
matching-Name name = ap (matching) (sym (pattern.rolls-Name name)) ∙ matching_layer (PatternTree-F.«PatternTree::Name» name)

pub matching-Int : (number : ℤ) → matching (pattern.Int number) ≡ pattern_meant (PatternTree-F.«PatternTree::Int» number)
matching-Int number = ap (matching) (sym (pattern.rolls-Int number)) ∙ matching_layer (PatternTree-F.«PatternTree::Int» number)

pub matching-Text : (bytes : List ℕ) → matching (pattern.Text bytes) ≡ pattern_meant (PatternTree-F.«PatternTree::Text» bytes)
matching-Text bytes = ap (matching) (sym (pattern.rolls-Text bytes)) ∙ matching_layer (PatternTree-F.«PatternTree::Text» bytes)

pub matching-Truth : (truth : Bool) → matching (pattern.Truth truth) ≡ pattern_meant (PatternTree-F.«PatternTree::Truth» truth)
matching-Truth truth = ap (matching) (sym (pattern.rolls-Truth truth)) ∙ matching_layer (PatternTree-F.«PatternTree::Truth» truth)

pub matching-Me : matching pattern.Me ≡ pattern_meant PatternTree-F.«PatternTree::Me»
matching-Me = ap (matching) (sym pattern.rolls-Me) ∙ matching_layer PatternTree-F.«PatternTree::Me»

pub matching-Equal : (x : Expr) → matching (pattern.Equal x) ≡ pattern_meant (PatternTree-F.Equal (meant x))
matching-Equal x = ap (matching) (sym (pattern.rolls-Equal x)) ∙ matching_layer (PatternTree-F.Equal x)

pub matching-Tuple : (ps : List PatternTree) → matching (pattern.Tuple ps) ≡ pattern_meant (PatternTree-F.«PatternTree::Tuple» (map matching ps))
matching-Tuple ps = ap (matching) (sym (pattern.rolls-Tuple ps)) ∙ matching_layer (PatternTree-F.«PatternTree::Tuple» ps)

peer_of_layer : (x : PeerTree-F Expr PatternTree PeerTree ChainTree GenTree) → peer_of (roll-PeerTree x) ≡ peer_meant (map-PeerTree Expr PatternTree PeerTree ChainTree GenTree Meant Matching Peer Signed Generator meant matching peer_of signed_of generator x)
unfolding meant matching peer_of signed_of generator
peer_of_layer x = fold-roll-PeerTree Meant Matching Peer Signed Generator expr_meant pattern_meant peer_meant chain_meant gen_meant x

pub peer_of-From : (p : PatternTree) → peer_of (peer.From p) ≡ peer_meant (PeerTree-F.From (matching p))
peer_of-From p = ap (peer_of) (sym (peer.rolls-From p)) ∙ peer_of_layer (PeerTree-F.From p)

pub peer_of-To : (p : PatternTree) → peer_of (peer.To p) ≡ peer_meant (PeerTree-F.To (matching p))
peer_of-To p = ap (peer_of) (sym (peer.rolls-To p)) ∙ peer_of_layer (PeerTree-F.To p)

pub signed_of-of : (op_ : ArithOp) (operand_ : Expr) → signed_of (roll-ChainTree (record { op = op_; operand = operand_ })) ≡ chain_meant (record { op = op_; operand = (meant operand_) })
unfolding meant matching peer_of signed_of generator
signed_of-of op_ operand_ = fold-roll-ChainTree Meant Matching Peer Signed Generator expr_meant pattern_meant peer_meant chain_meant gen_meant (record { op = op_; operand = operand_ })

pub generator-of : (message_ : PatternTree) (peer_ : Option PeerTree) (source_ : SourceTree) → generator (roll-GenTree (record { message = message_; peer = peer_; source = source_ })) ≡ gen_meant (record { message = (matching message_); peer = (option_map peer_of peer_); source = source_ })
unfolding meant matching peer_of signed_of generator
generator-of message_ None source_ = fold-roll-GenTree Meant Matching Peer Signed Generator expr_meant pattern_meant peer_meant chain_meant gen_meant (record { message = message_; peer = None; source = source_ })
generator-of message_ (Some o) source_ = fold-roll-GenTree Meant Matching Peer Signed Generator expr_meant pattern_meant peer_meant chain_meant gen_meant (record { message = message_; peer = (Some o); source = source_ })

pub ruleset meaning = (meant-Quant, meant-Or, meant-And, meant-Not, meant-Cmp, meant-Member, meant-Chain, meant-Int, meant-Text, meant-Truth, meant-Me, meant-Name, meant-Clock, meant-Range, meant-Tuple, meant-SetOf, meant-Comp, meant-Count, meant-Sum, meant-Min, meant-Max, matching-Wild, matching-Name, matching-Int, matching-Text, matching-Truth, matching-Me, matching-Equal, matching-Tuple, peer_of-From, peer_of-To, signed_of-of, generator-of)
