-- The notes of expressions, one layer at a time.
use Rattle.std.specs.Prelude.{ℕ, ℤ, Bool, List, ◌∷◌, ◌++◌, map, length, Option, Some, None}
use Rattle.std.specs.Option.{option_map}
use Rattle.std.proofs.Common.{◌≡◌, ◌∙◌, ap, sym}
use Rattle.std.proofs.lemmas.List.{length-map}
use Rattle.da_lang.specs.declared.tree.ArithOp.{ArithOp}
use Rattle.da_lang.specs.declared.tree.ChainTree.{ChainTree, roll-ChainTree}
use Rattle.da_lang.specs.declared.tree.CmpOp.{CmpOp}
use Rattle.da_lang.specs.declared.tree.Expr.{Expr, roll-Expr}
use Rattle.da_lang.specs.declared.tree.Expr.TheVariants as ex
use Rattle.da_lang.specs.declared.tree.Expr.TheOpen.{Expr-F, PatternTree-F, PeerTree-F}
use Rattle.da_lang.specs.declared.tree.Expr.TheFolds.{map-Expr, map-PatternTree, map-PeerTree, fold-roll-Expr, fold-roll-PatternTree, fold-roll-PeerTree, fold-roll-ChainTree, fold-roll-GenTree}
use Rattle.da_lang.specs.declared.tree.GenTree.{GenTree, roll-GenTree}
use Rattle.da_lang.specs.declared.tree.PatternTree.{PatternTree, roll-PatternTree}
use Rattle.da_lang.specs.declared.tree.PatternTree.TheVariants as pattern
use Rattle.da_lang.specs.declared.tree.PeerTree.{PeerTree, roll-PeerTree}
use Rattle.da_lang.specs.declared.tree.PeerTree.TheVariants as peer
use Rattle.da_lang.specs.declared.tree.SourceTree.{SourceTree}
use Rattle.da_types.specs.Constants.{Signs, Notes, all, notes, pattern_notes, peer_notes, link_notes, gen_notes, notes_step, pattern_notes_step, peer_notes_step, link_notes_step, gen_notes_step}

notes_layer : (x : Expr-F Expr PatternTree PeerTree ChainTree GenTree) → notes (roll-Expr x) ≡ notes_step (map-Expr Expr PatternTree PeerTree ChainTree GenTree Notes Notes Notes Notes Notes notes pattern_notes peer_notes link_notes gen_notes x)
unfolding notes pattern_notes peer_notes link_notes gen_notes
notes_layer x = fold-roll-Expr Notes Notes Notes Notes Notes notes_step pattern_notes_step peer_notes_step link_notes_step gen_notes_step x

pub notes-Quant : (each : Bool) (gens : List GenTree) (cond : Option Expr) → notes (ex.Quant each gens cond) ≡ notes_step (Expr-F.Quant each (map gen_notes gens) (option_map notes cond))
notes-Quant each gens None = ap (notes) (sym (ex.rolls-Quant each gens None)) ∙ notes_layer (Expr-F.Quant each gens None)
notes-Quant each gens (Some o) = ap (notes) (sym (ex.rolls-Quant each gens (Some o))) ∙ notes_layer (Expr-F.Quant each gens (Some o))

pub notes-Or : (xs : List Expr) → notes (ex.Or xs) ≡ notes_step (Expr-F.Or (map notes xs))
notes-Or xs = ap (notes) (sym (ex.rolls-Or xs)) ∙ notes_layer (Expr-F.Or xs)

pub notes-And : (xs : List Expr) → notes (ex.And xs) ≡ notes_step (Expr-F.And (map notes xs))
notes-And xs = ap (notes) (sym (ex.rolls-And xs)) ∙ notes_layer (Expr-F.And xs)

pub notes-Not : (x : Expr) → notes (ex.Not x) ≡ notes_step (Expr-F.Not (notes x))
notes-Not x = ap (notes) (sym (ex.rolls-Not x)) ∙ notes_layer (Expr-F.Not x)

pub notes-Cmp : (o : CmpOp) (x : Expr) (y : Expr) → notes (ex.Cmp o x y) ≡ notes_step (Expr-F.Cmp o (notes x) (notes y))
notes-Cmp o x y = ap (notes) (sym (ex.rolls-Cmp o x y)) ∙ notes_layer (Expr-F.Cmp o x y)

pub notes-Member : (x : Expr) (y : Expr) → notes (ex.Member x y) ≡ notes_step (Expr-F.Member (notes x) (notes y))
notes-Member x y = ap (notes) (sym (ex.rolls-Member x y)) ∙ notes_layer (Expr-F.Member x y)

pub notes-Chain : (x : Expr) (more : List ChainTree) → notes (ex.Chain x more) ≡ Signs (length more) ∷ notes x ++ all (map link_notes more)
notes-Chain x more =
    ap notes (sym (ex.rolls-Chain x more)) ∙ notes_layer (Expr-F.Chain x more)
    ∙ ap (λ n. Signs n ∷ notes x ++ all (map link_notes more)) (length-map more link_notes)

pub notes-Int : (number : ℤ) → notes (ex.Int number) ≡ notes_step (Expr-F.«Expr::Int» number)
notes-Int number = ap (notes) (sym (ex.rolls-Int number)) ∙ notes_layer (Expr-F.«Expr::Int» number)

pub notes-Text : (bytes : List ℕ) → notes (ex.Text bytes) ≡ notes_step (Expr-F.«Expr::Text» bytes)
notes-Text bytes = ap (notes) (sym (ex.rolls-Text bytes)) ∙ notes_layer (Expr-F.«Expr::Text» bytes)

pub notes-Truth : (truth : Bool) → notes (ex.Truth truth) ≡ notes_step (Expr-F.«Expr::Truth» truth)
notes-Truth truth = ap (notes) (sym (ex.rolls-Truth truth)) ∙ notes_layer (Expr-F.«Expr::Truth» truth)

pub notes-Me : notes ex.Me ≡ notes_step Expr-F.«Expr::Me»
notes-Me = ap (notes) (sym ex.rolls-Me) ∙ notes_layer Expr-F.«Expr::Me»

pub notes-Name : (name : List ℕ) → notes (ex.Name name) ≡ notes_step (Expr-F.«Expr::Name» name)
notes-Name name = ap (notes) (sym (ex.rolls-Name name)) ∙ notes_layer (Expr-F.«Expr::Name» name)

pub notes-Clock : notes ex.Clock ≡ notes_step Expr-F.Clock
notes-Clock = ap (notes) (sym ex.rolls-Clock) ∙ notes_layer Expr-F.Clock

pub notes-Range : (x : Expr) (y : Expr) → notes (ex.Range x y) ≡ notes_step (Expr-F.Range (notes x) (notes y))
notes-Range x y = ap (notes) (sym (ex.rolls-Range x y)) ∙ notes_layer (Expr-F.Range x y)

pub notes-Tuple : (xs : List Expr) → notes (ex.Tuple xs) ≡ notes_step (Expr-F.«Expr::Tuple» (map notes xs))
notes-Tuple xs = ap (notes) (sym (ex.rolls-Tuple xs)) ∙ notes_layer (Expr-F.«Expr::Tuple» xs)

pub notes-SetOf : (xs : List Expr) → notes (ex.SetOf xs) ≡ notes_step (Expr-F.SetOf (map notes xs))
notes-SetOf xs = ap (notes) (sym (ex.rolls-SetOf xs)) ∙ notes_layer (Expr-F.SetOf xs)

pub notes-Comp : (x : Expr) (gens : List GenTree) (cond : Option Expr) → notes (ex.Comp x gens cond) ≡ notes_step (Expr-F.Comp (notes x) (map gen_notes gens) (option_map notes cond))
notes-Comp x gens None = ap (notes) (sym (ex.rolls-Comp x gens None)) ∙ notes_layer (Expr-F.Comp x gens None)
notes-Comp x gens (Some o) = ap (notes) (sym (ex.rolls-Comp x gens (Some o))) ∙ notes_layer (Expr-F.Comp x gens (Some o))

pub notes-Count : (x : Expr) → notes (ex.Count x) ≡ notes_step (Expr-F.Count (notes x))
notes-Count x = ap (notes) (sym (ex.rolls-Count x)) ∙ notes_layer (Expr-F.Count x)

pub notes-Sum : (x : Expr) → notes (ex.Sum x) ≡ notes_step (Expr-F.Sum (notes x))
notes-Sum x = ap (notes) (sym (ex.rolls-Sum x)) ∙ notes_layer (Expr-F.Sum x)

pub notes-Min : (x : Expr) (other : Expr) → notes (ex.Min x other) ≡ notes_step (Expr-F.Min (notes x) (notes other))
notes-Min x other = ap (notes) (sym (ex.rolls-Min x other)) ∙ notes_layer (Expr-F.Min x other)

pub notes-Max : (x : Expr) (other : Expr) → notes (ex.Max x other) ≡ notes_step (Expr-F.Max (notes x) (notes other))
notes-Max x other = ap (notes) (sym (ex.rolls-Max x other)) ∙ notes_layer (Expr-F.Max x other)

pattern_notes_layer : (x : PatternTree-F Expr PatternTree PeerTree ChainTree GenTree) → pattern_notes (roll-PatternTree x) ≡ pattern_notes_step (map-PatternTree Expr PatternTree PeerTree ChainTree GenTree Notes Notes Notes Notes Notes notes pattern_notes peer_notes link_notes gen_notes x)
unfolding notes pattern_notes peer_notes link_notes gen_notes
pattern_notes_layer x = fold-roll-PatternTree Notes Notes Notes Notes Notes notes_step pattern_notes_step peer_notes_step link_notes_step gen_notes_step x

pub pattern_notes-Wild : pattern_notes pattern.Wild ≡ pattern_notes_step PatternTree-F.Wild
pattern_notes-Wild = ap (pattern_notes) (sym pattern.rolls-Wild) ∙ pattern_notes_layer PatternTree-F.Wild

pub pattern_notes-Name : (name : List ℕ) → pattern_notes (pattern.Name name) ≡ pattern_notes_step (PatternTree-F.«PatternTree::Name» name)
pattern_notes-Name name = ap (pattern_notes) (sym (pattern.rolls-Name name)) ∙ pattern_notes_layer (PatternTree-F.«PatternTree::Name» name)

pub pattern_notes-Int : (number : ℤ) → pattern_notes (pattern.Int number) ≡ pattern_notes_step (PatternTree-F.«PatternTree::Int» number)
pattern_notes-Int number = ap (pattern_notes) (sym (pattern.rolls-Int number)) ∙ pattern_notes_layer (PatternTree-F.«PatternTree::Int» number)

pub pattern_notes-Text : (bytes : List ℕ) → pattern_notes (pattern.Text bytes) ≡ pattern_notes_step (PatternTree-F.«PatternTree::Text» bytes)
pattern_notes-Text bytes = ap (pattern_notes) (sym (pattern.rolls-Text bytes)) ∙ pattern_notes_layer (PatternTree-F.«PatternTree::Text» bytes)

pub pattern_notes-Truth : (truth : Bool) → pattern_notes (pattern.Truth truth) ≡ pattern_notes_step (PatternTree-F.«PatternTree::Truth» truth)
pattern_notes-Truth truth = ap (pattern_notes) (sym (pattern.rolls-Truth truth)) ∙ pattern_notes_layer (PatternTree-F.«PatternTree::Truth» truth)

pub pattern_notes-Me : pattern_notes pattern.Me ≡ pattern_notes_step PatternTree-F.«PatternTree::Me»
pattern_notes-Me = ap (pattern_notes) (sym pattern.rolls-Me) ∙ pattern_notes_layer PatternTree-F.«PatternTree::Me»

pub pattern_notes-Equal : (x : Expr) → pattern_notes (pattern.Equal x) ≡ pattern_notes_step (PatternTree-F.Equal (notes x))
pattern_notes-Equal x = ap (pattern_notes) (sym (pattern.rolls-Equal x)) ∙ pattern_notes_layer (PatternTree-F.Equal x)

pub pattern_notes-Tuple : (ps : List PatternTree) → pattern_notes (pattern.Tuple ps) ≡ pattern_notes_step (PatternTree-F.«PatternTree::Tuple» (map pattern_notes ps))
pattern_notes-Tuple ps = ap (pattern_notes) (sym (pattern.rolls-Tuple ps)) ∙ pattern_notes_layer (PatternTree-F.«PatternTree::Tuple» ps)

peer_notes_layer : (x : PeerTree-F Expr PatternTree PeerTree ChainTree GenTree) → peer_notes (roll-PeerTree x) ≡ peer_notes_step (map-PeerTree Expr PatternTree PeerTree ChainTree GenTree Notes Notes Notes Notes Notes notes pattern_notes peer_notes link_notes gen_notes x)
unfolding notes pattern_notes peer_notes link_notes gen_notes
peer_notes_layer x = fold-roll-PeerTree Notes Notes Notes Notes Notes notes_step pattern_notes_step peer_notes_step link_notes_step gen_notes_step x

pub peer_notes-From : (p : PatternTree) → peer_notes (peer.From p) ≡ peer_notes_step (PeerTree-F.From (pattern_notes p))
peer_notes-From p = ap (peer_notes) (sym (peer.rolls-From p)) ∙ peer_notes_layer (PeerTree-F.From p)

pub peer_notes-To : (p : PatternTree) → peer_notes (peer.To p) ≡ peer_notes_step (PeerTree-F.To (pattern_notes p))
peer_notes-To p = ap (peer_notes) (sym (peer.rolls-To p)) ∙ peer_notes_layer (PeerTree-F.To p)

pub link_notes-of : (op_ : ArithOp) (operand_ : Expr) → link_notes (roll-ChainTree (record { op = op_; operand = operand_ })) ≡ link_notes_step (record { op = op_; operand = (notes operand_) })
unfolding notes pattern_notes peer_notes link_notes gen_notes
link_notes-of op_ operand_ = fold-roll-ChainTree Notes Notes Notes Notes Notes notes_step pattern_notes_step peer_notes_step link_notes_step gen_notes_step (record { op = op_; operand = operand_ })

pub gen_notes-of : (message_ : PatternTree) (peer_ : Option PeerTree) (source_ : SourceTree) → gen_notes (roll-GenTree (record { message = message_; peer = peer_; source = source_ })) ≡ gen_notes_step (record { message = (pattern_notes message_); peer = (option_map peer_notes peer_); source = source_ })
unfolding notes pattern_notes peer_notes link_notes gen_notes
gen_notes-of message_ None source_ = fold-roll-GenTree Notes Notes Notes Notes Notes notes_step pattern_notes_step peer_notes_step link_notes_step gen_notes_step (record { message = message_; peer = None; source = source_ })
gen_notes-of message_ (Some o) source_ = fold-roll-GenTree Notes Notes Notes Notes Notes notes_step pattern_notes_step peer_notes_step link_notes_step gen_notes_step (record { message = message_; peer = (Some o); source = source_ })

pub ruleset noting = (notes-Quant, notes-Or, notes-And, notes-Not, notes-Cmp, notes-Member, notes-Chain, notes-Int, notes-Text, notes-Truth, notes-Me, notes-Name, notes-Clock, notes-Range, notes-Tuple, notes-SetOf, notes-Comp, notes-Count, notes-Sum, notes-Min, notes-Max, pattern_notes-Wild, pattern_notes-Name, pattern_notes-Int, pattern_notes-Text, pattern_notes-Truth, pattern_notes-Me, pattern_notes-Equal, pattern_notes-Tuple, peer_notes-From, peer_notes-To, link_notes-of, gen_notes-of)
