-- The printed tokens of expressions and patterns spell them again, with no more nesting: the laws of the rules at one place.
use Rattle.std.proofs.Common.{◌≡◌, ℕ, zero, suc, pos, negsuc, neg_ℤ, Bool, true, false, List, [], ◌∷◌, map, Option, refl, ap, ◌∙◌, arith}
use Rattle.std.specs.Option.{option_map}
use Rattle.std.specs.Prelude.{codes}
use Rattle.da_values.specs.declared.token.Mark.{Mark}
use Rattle.da_values.specs.declared.token.Mark.TheVariants as m
use Rattle.da_values.specs.Marks.{Tok}
use Rattle.da_lang.specs.declared.tree.ArithOp.{ArithOp}
use Rattle.da_lang.specs.declared.tree.ArithOp.TheVariants as arith_op
use Rattle.da_lang.specs.declared.tree.ChainTree.{ChainTree, roll-ChainTree}
use Rattle.da_lang.specs.declared.tree.Expr.{Expr}
use Rattle.da_lang.specs.declared.tree.Expr.TheVariants as ex
use Rattle.da_lang.specs.declared.tree.GenTree.{GenTree}
use Rattle.da_lang.specs.declared.tree.PatternTree.{PatternTree}
use Rattle.da_lang.specs.declared.tree.PatternTree.TheVariants as pat
use Rattle.da_lang.specs.declared.tree.PeerTree.{PeerTree}
use Rattle.da_lang.specs.Spelling as g
use Rattle.da_lang.specs.Spelling.{Spelling, Opens, Named, Separated}
use Rattle.da_lang.specs.ExprGrammar as eg
use Rattle.da_lang.specs.ExprGrammar.{IsSource, IsPeer, IsGen, IsGens, IsCond, IsAtom, IsUnary, IsTimes, IsPlus, IsOthers, IsProd, IsSum, IsCmp, IsComp, IsNeg, IsConj, IsDisj, IsQuant, IsExpr, IsPattern, negated, deeper}
use Rattle.da_unparse.specs.Expressions.{Link, quantified, either, both, negation, comparison, sum, product, signed, shown, expr_pieces, pattern_pieces, gen_pieces, peer_pieces, link_of, linked, chain, is_sum, op_text, cmp_text, condition, source, peer, all_at_least, atom}
use Rattle.da_unparse.specs.Pieces.{Piece, between, joined, listed}
use Rattle.da_unparse.proofs.AgainPlaces.{operand, below, Held, HeldBelow, Fits, grouped, expr-below, held, fits-looser, fits-operand, fits-shown}
use Rattle.da_unparse.proofs.AgainTools.{put, tok_of, putting, put-tupled, put-in_braces, put-described, put-after_word, put-append, number_of-decimal, Again, number-again, quoted-again, separated-again, listed-again, closed-again}
use Rattle.da_unparse.proofs.AgainTypes.{opens-again}
use Rattle.da_unparse.proofs.ShownAt.{shown-Quant, shown-Or, shown-And, shown-Not, shown-Cmp, shown-Member, shown-Chain, shown-Int, shown-Text, shown-Truth, shown-Me, shown-Name, shown-Clock, shown-Range, shown-Tuple, shown-SetOf, shown-Comp, shown-Count, shown-Sum, shown-Min, shown-Max, pattern-Wild, pattern-Name, pattern-Int, pattern-Text, pattern-Truth, pattern-Me, pattern-Equal, pattern-Tuple, peer-From, peer-To, link_at, gen_at}

pub operands : (k : ℕ) (xs : List Expr) → all_at_least k (map shown xs) ≡ map (operand k) xs
operands k [] = refl
operands k (x ∷ xs) = ap (λ z. operand k x ∷ z) (operands k xs)

source-again : (n : ℕ) → Again n IsSource IsSource source
source-again n _ i r (eg.IsSource.received h) s = simp putting (eg.IsSource.received (g.At.at refl))
source-again n _ i r (eg.IsSource.sent h) s = simp putting (eg.IsSource.sent (g.At.at refl))
source-again n _ i r (eg.IsSource.name (g.Named.named {t} h)) s = simp putting (eg.IsSource.name (g.Named.named refl))

times-again : (n : ℕ) → Again n IsTimes IsTimes op_text
times-again n _ i r (eg.IsTimes.times h) s = simp putting (eg.IsTimes.times (g.At.at refl))
times-again n _ i r (eg.IsTimes.div h) s = simp putting (eg.IsTimes.div (g.At.at refl))
times-again n _ i r (eg.IsTimes.rem h) s = simp putting (eg.IsTimes.rem (g.At.at refl))

plus-again : (n : ℕ) → Again n IsPlus IsPlus op_text
plus-again n _ i r (eg.IsPlus.plus h) s = simp putting (eg.IsPlus.plus (g.At.at refl))
plus-again n _ i r (eg.IsPlus.minus h) s = simp putting (eg.IsPlus.minus (g.At.at refl))

cmp-again : (n : ℕ) → Again n IsCmp IsCmp cmp_text
cmp-again n _ i r (eg.IsCmp.eq h) s = simp putting (eg.IsCmp.eq (g.At.at refl))
cmp-again n _ i r (eg.IsCmp.ne h) s = simp putting (eg.IsCmp.ne (g.At.at refl))
cmp-again n _ i r (eg.IsCmp.lt h) s = simp putting (eg.IsCmp.lt (g.At.at refl))
cmp-again n _ i r (eg.IsCmp.le h) s = simp putting (eg.IsCmp.le (g.At.at refl))
cmp-again n _ i r (eg.IsCmp.gt h) s = simp putting (eg.IsCmp.gt (g.At.at refl))
cmp-again n _ i r (eg.IsCmp.ge h) s = simp putting (eg.IsCmp.ge (g.At.at refl))

module _ (n : ℕ) {Pattern : Spelling PatternTree} (inner : Again n Pattern Pattern pattern_pieces) where
  peer-again : (o : Option PeerTree) (i r : List Tok) → IsPeer Pattern o i r → (s : List Tok) → IsPeer Pattern o (put n (peer (option_map peer_pieces o)) s) s
  peer-again _ i r eg.IsPeer.no_peer s = simp putting eg.IsPeer.no_peer
  peer-again _ i r (eg.IsPeer.from {p} h a) s = simp (peer-From p, putting) (eg.IsPeer.from (g.At.at refl) (inner p _ _ a _))
  peer-again _ i r (eg.IsPeer.to {p} h a) s = simp (peer-To p, putting) (eg.IsPeer.to (g.At.at refl) (inner p _ _ a _))

  gen-again : Again n (IsGen Pattern) (IsGen Pattern) gen_pieces
  gen-again _ i r (eg.IsGen.gen {p} {o} {x} a b h c) s =
      simp (gen_at p o x, putting) (eg.IsGen.gen (inner p _ _ a _) (peer-again o _ _ b _) (g.At.at refl) (source-again n x _ _ c s))

  gens-again : (gs : List GenTree) (i r : List Tok) → IsGens Pattern gs i r → (s : List Tok) → IsGens Pattern gs (put n (listed (map gen_pieces gs)) s) s
  gens-again = listed-again n gen_pieces gen-again

cond-again : (n : ℕ) {Condition : Spelling Expr} → Again n Condition Condition expr_pieces
    → (o : Option Expr) (i r : List Tok) → IsCond Condition o i r → (s : List Tok) → IsCond Condition o (put n (condition (option_map shown o)) s) s
cond-again n inner _ i r eg.IsCond.no_cond s = simp putting eg.IsCond.no_cond
cond-again n inner _ i r (eg.IsCond.bar {x} h a) s = simp putting (eg.IsCond.bar (g.At.at refl) (inner x _ _ a _))
cond-again n inner _ i r (eg.IsCond.has {x} h a) s = simp putting (eg.IsCond.bar (g.At.at refl) (inner x _ _ a _))

-- the tokens of further operands
others-again : (n : ℕ) {Sign : Spelling ArithOp} {Operand Printed : Spelling Expr} (k : ℕ) → Again n Sign Sign op_text → Again n Operand Printed (operand k)
    → (ps : List ChainTree) (i r : List Tok) → IsOthers Sign Operand ps i r → (s : List Tok) → IsOthers Sign Printed ps (put n (linked k (map link_of ps)) s) s
others-again n k signs operands _ i r eg.IsOthers.no_other s = simp putting eg.IsOthers.no_other
others-again n k signs operands _ i r (eg.IsOthers.other {o} {x} {ps} h a l) s =
    simp (link_at o x, putting) (eg.IsOthers.other (signs o _ _ h _) (operands x _ _ a _) (others-again n k signs operands ps _ _ l s))

chain_shown : (b : Bool) (o : ArithOp) (x y : Expr) (ps : List ChainTree) → is_sum o ≡ b
    → let p = roll-ChainTree (record { op = o; operand = y }) in shown (ex.Chain x (p ∷ ps)) ≡ chain b (shown x) (map link_of (p ∷ ps))
chain_shown b o x y ps e =
    let p = roll-ChainTree (record { op = o; operand = y }) in
    shown-Chain x (p ∷ ps) ∙ ap (λ c. chain c (shown x) (map link_of (p ∷ ps))) (ap (λ (l : Link). is_sum l.op) (link_at o y) ∙ e)

times-false : (o : ArithOp) (i r : List Tok) → IsTimes o i r → is_sum o ≡ false
times-false _ i r (eg.IsTimes.times h) = refl
times-false _ i r (eg.IsTimes.div h) = refl
times-false _ i r (eg.IsTimes.rem h) = refl

plus-true : (o : ArithOp) (i r : List Tok) → IsPlus o i r → is_sum o ≡ true
plus-true _ i r (eg.IsPlus.plus h) = refl
plus-true _ i r (eg.IsPlus.minus h) = refl

pub room-of : {X : Type 0} {k : Mark} {i r : List Tok} → Opens k (λ t. X) i r → X
room-of (g.Opens.opens some h) = some

module _ (R : ℕ → Type 0) (down : (d : ℕ) → R (suc d) → R d) (n : ℕ) where
  -- the laws for what stands one deeper
  pub record Below (f d : ℕ) : Type 0 where
    pub expr : (x : Expr) (i r : List Tok) → (below R down n f d).expr x i r → HeldBelow R down n f d x
    pub disj : Again n (below R down n f d).disj (below R down n f d).disj (operand either)
    pub neg : Again n (below R down n f d).neg (below R down n f d).neg (operand negation)
    pub minus : (x : Expr) (i r : List Tok) → (below R down n f d).unary x i r → HeldBelow R down n f d (negated x)
    pub pattern : Again n (below R down n f d).pattern (below R down n f d).pattern pattern_pieces

  module _ (f d : ℕ) (b : Below f d) where
    abbrev Here : ℕ → Expr → Type 0
    Here = Fits R down n f d

    exprs : Again n (below R down n f d).expr (below R down n f d).expr expr_pieces
    exprs x i r h = expr-below R down n f d x (b.expr x i r h)

    own : (x : Expr) (ps : List Piece) → shown x ≡ atom ps → ((s : List Tok) → IsAtom (λ t. R d) (below R down n f d) x (put n ps s) s) → Here signed x
    own x ps e h = fits-shown R down n (atom ps) e (omega arith) (λ s. eg.IsUnary.atom (h s))

    atom-again : (x : Expr) (i r : List Tok) → IsAtom (λ t. R d) (below R down n f d) x i r → Here signed x
    atom-again _ i r (eg.IsAtom.int {n = v} h) = own (ex.Int (pos v)) _ (shown-Int (pos v)) (λ s. simp putting (eg.IsAtom.int (number-again n h s)))
    atom-again _ i r (eg.IsAtom.text {b = t} h) = own (ex.Text t) _ (shown-Text t) (λ s. simp putting (eg.IsAtom.text (quoted-again n h s)))
    atom-again _ i r (eg.IsAtom.yes h) = own (ex.Truth true) _ (shown-Truth true) (λ s. simp putting (eg.IsAtom.yes (g.At.at refl)))
    atom-again _ i r (eg.IsAtom.no h) = own (ex.Truth false) _ (shown-Truth false) (λ s. simp putting (eg.IsAtom.no (g.At.at refl)))
    atom-again _ i r (eg.IsAtom.me h) = own ex.Me _ shown-Me (λ s. simp putting (eg.IsAtom.me (g.At.at refl)))
    atom-again _ i r (eg.IsAtom.name (g.Named.named {t} h)) = own (ex.Name t.text) _ (shown-Name t.text) (λ s. simp putting (eg.IsAtom.name (g.Named.named refl)))
    atom-again _ i r (eg.IsAtom.clock h o e) = own ex.Clock _ shown-Clock (λ s. simp putting (eg.IsAtom.clock (g.At.at refl) (opens-again o _ _ refl) (g.At.at refl)))
    atom-again _ i r (eg.IsAtom.range {x} {y} h o p c q e) =
        own (ex.Range x y) _ (shown-Range x y) (λ s. simp putting (eg.IsAtom.range (g.At.at refl) (opens-again o _ _ refl) (b.disj x _ _ p _) (g.At.at refl) (b.disj y _ _ q _) (g.At.at refl)))
    atom-again _ i r (eg.IsAtom.group {x} o a e) = grouped (room-of o) (b.expr x _ _ a)
    atom-again _ i r (eg.IsAtom.tuple {x} {xs} o a c l) =
        own (ex.Tuple (x ∷ xs)) _ (shown-Tuple (x ∷ xs)) (λ s. rw (operands either xs, put-tupled n (operand either x) (map (operand either) xs) s)
        (eg.IsAtom.tuple (opens-again o _ _ refl) (b.disj x _ _ a _) (g.At.at refl) (closed-again n (operand either) b.disj m.CloseParen _ xs _ _ l s)))
    atom-again _ i r (eg.IsAtom.set_of {xs} o l) =
        own (ex.SetOf xs) _ (shown-SetOf xs) (λ s. rw (operands either xs, put-in_braces n (listed (map (operand either) xs)) s) (eg.IsAtom.set_of (opens-again o _ _ refl) (closed-again n (operand either) b.disj m.CloseBrace _ xs _ _ l s)))
    atom-again _ i r (eg.IsAtom.comprehension {x} {gs} {o = cond} o a c l e z) =
        own (ex.Comp x gs cond) _ (shown-Comp x gs cond) (λ s. rw (put-described n (operand either x) (listed (map gen_pieces gs)) (condition (option_map shown cond)) s)
        (eg.IsAtom.comprehension (opens-again o _ _ refl) (b.disj x _ _ a _) (g.At.at refl) (gens-again n b.pattern gs _ _ l _) (cond-again n exprs cond _ _ e _) (g.At.at refl)))
    atom-again _ i r (eg.IsAtom.count {x} h o a e) =
        own (ex.Count x) _ (shown-Count x) (λ s. simp putting (eg.IsAtom.count (g.At.at refl) (opens-again o _ _ refl) (b.disj x _ _ a _) (g.At.at refl)))
    atom-again _ i r (eg.IsAtom.sum {x} h o a e) =
        own (ex.Sum x) _ (shown-Sum x) (λ s. simp putting (eg.IsAtom.sum (g.At.at refl) (opens-again o _ _ refl) (b.disj x _ _ a _) (g.At.at refl)))
    atom-again _ i r (eg.IsAtom.min {x} {y} h o p c q e) =
        own (ex.Min x y) _ (shown-Min x y) (λ s. simp putting (eg.IsAtom.min (g.At.at refl) (opens-again o _ _ refl) (b.disj x _ _ p _) (g.At.at refl) (b.disj y _ _ q _) (g.At.at refl)))
    atom-again _ i r (eg.IsAtom.max {x} {y} h o p c q e) =
        own (ex.Max x y) _ (shown-Max x y) (λ s. simp putting (eg.IsAtom.max (g.At.at refl) (opens-again o _ _ refl) (b.disj x _ _ p _) (g.At.at refl) (b.disj y _ _ q _) (g.At.at refl)))

    negative-again : (v : ℕ) (i r q : List Tok) → Opens m.Minus (λ t. R d) i r → g.Number v r q → Here signed (ex.Int (neg_ℤ (pos v)))
    negative-again zero i r q o h = own (ex.Int (pos zero)) _ (shown-Int (pos zero)) (λ s. simp putting (eg.IsAtom.int (number-again n h s)))
    negative-again (suc v) i r q o h =
        fits-shown R down n _ (shown-Int (negsuc v)) (omega arith) (λ s. simp putting (eg.IsUnary.negative (opens-again o _ _ refl) (number-again n h s)))

    pub unary-again : (x : Expr) (i r : List Tok) → IsUnary (λ t. R d) (below R down n f d) x i r → Here signed x
    unary-again x i r (eg.IsUnary.atom a) = atom-again x i r a
    unary-again _ i r (eg.IsUnary.negative {n = v} o h) = negative-again v _ _ _ o h
    unary-again _ i r (eg.IsUnary.minus {x} o other a) = grouped (room-of o) (b.minus x _ _ a)

    pub prod-again : (x : Expr) (i r : List Tok) → IsProd (λ t. R d) (below R down n f d) x i r → Here product x
    prod-again x i r (eg.IsChain.lone a) = fits-looser R down n (omega arith) (unary-again x i r a)
    prod-again _ i r (eg.IsChain.chain {x} a (eg.IsOthers.other {o} {x = y} {ps} h c l)) =
        let p = roll-ChainTree (record { op = o; operand = y }) in
        fits-shown R down n _ (chain_shown false o x y ps (times-false o _ _ h)) (omega arith) (λ s. rw (put-append n (operand signed x) (linked signed (map link_of (p ∷ ps))) s)
        (eg.IsChain.chain (fits-operand R down n (unary-again x _ _ a) _)
        (others-again n signed (times-again n) (λ z j q e. fits-operand R down n (unary-again z j q e)) (p ∷ ps) _ _ (eg.IsOthers.other h c l) s)))

    pub sum-again : (x : Expr) (i r : List Tok) → IsSum (λ t. R d) (below R down n f d) x i r → Here sum x
    sum-again x i r (eg.IsChain.lone a) = fits-looser R down n (omega arith) (prod-again x i r a)
    sum-again _ i r (eg.IsChain.chain {x} a (eg.IsOthers.other {o} {x = y} {ps} h c l)) =
        let p = roll-ChainTree (record { op = o; operand = y }) in
        fits-shown R down n _ (chain_shown true o x y ps (plus-true o _ _ h)) (omega arith) (λ s. rw (put-append n (operand product x) (linked product (map link_of (p ∷ ps))) s)
        (eg.IsChain.chain (fits-operand R down n (prod-again x _ _ a) _)
        (others-again n product (plus-again n) (λ z j q e. fits-operand R down n (prod-again z j q e)) (p ∷ ps) _ _ (eg.IsOthers.other h c l) s)))

    pub comp-again : (x : Expr) (i r : List Tok) → IsComp (λ t. R d) (below R down n f d) x i r → Here comparison x
    comp-again x i r (eg.IsComp.lone a) = fits-looser R down n (omega arith) (sum-again x i r a)
    comp-again _ i r (eg.IsComp.compared {o} {x} {y} a h c) =
        fits-shown R down n _ (shown-Cmp o x y) (omega arith)
        (λ s. simp putting (eg.IsComp.compared (fits-operand R down n (sum-again x _ _ a) _) (cmp-again n o _ _ h _) (fits-operand R down n (sum-again y _ _ c) s)))
    comp-again _ i r (eg.IsComp.member {x} {y} a h c) =
        fits-shown R down n _ (shown-Member x y) (omega arith)
        (λ s. simp putting (eg.IsComp.member (fits-operand R down n (sum-again x _ _ a) _) (g.At.at refl) (fits-operand R down n (sum-again y _ _ c) s)))

    pub neg-again : (x : Expr) (i r : List Tok) → IsNeg (λ t. R d) (below R down n f d) x i r → Here negation x
    neg-again _ i r (eg.IsNeg.negation {x} o a) = fits-shown R down n _ (shown-Not x) (omega arith) (λ s. simp putting (eg.IsNeg.negation (opens-again o _ _ refl) (b.neg x _ _ a s)))
    neg-again x i r (eg.IsNeg.comp a) = fits-looser R down n (omega arith) (comp-again x i r a)

    pub conj-again : (x : Expr) (i r : List Tok) → IsConj (λ t. R d) (below R down n f d) x i r → Here both x
    conj-again x i r (eg.IsJoined.lone a) = fits-looser R down n (omega arith) (neg-again x i r a)
    conj-again _ i r (eg.IsJoined.joined {x} {y} {ys} l) =
        let xs = x ∷ y ∷ ys in
        fits-shown R down n _ (shown-And xs ∙ ap (λ pss. record { holds = both; pieces = joined (between m.And (codes "and")) pss }) (operands negation xs)) (omega arith)
        (λ s. eg.IsJoined.joined (separated-again n (operand negation) (λ z j q e. fits-operand R down n (neg-again z j q e)) m.And (between m.And (codes "and")) (λ s. simp putting (g.At.at refl)) xs _ _ l s))

    pub disj-again : (x : Expr) (i r : List Tok) → IsDisj (λ t. R d) (below R down n f d) x i r → Here either x
    disj-again x i r (eg.IsJoined.lone a) = fits-looser R down n (omega arith) (conj-again x i r a)
    disj-again _ i r (eg.IsJoined.joined {x} {y} {ys} l) =
        let xs = x ∷ y ∷ ys in
        fits-shown R down n _ (shown-Or xs ∙ ap (λ pss. record { holds = either; pieces = joined (between m.Or (codes "or")) pss }) (operands both xs)) (omega arith)
        (λ s. eg.IsJoined.joined (separated-again n (operand both) (λ z j q e. fits-operand R down n (conj-again z j q e)) m.Or (between m.Or (codes "or")) (λ s. simp putting (g.At.at refl)) xs _ _ l s))

    pub expr-again : (x : Expr) (i r : List Tok) → IsExpr (λ t. R d) (below R down n f d) x i r → Here quantified x
    expr-again _ i r (eg.IsExpr.quant (eg.IsQuant.«some» {gs} {o = cond} o l c)) =
        fits-shown R down n _ (shown-Quant false gs cond) (omega arith) (λ s. rw (put-after_word n m.Some (codes "some") (listed (map gen_pieces gs)) (condition (option_map shown cond)) s)
        (eg.IsExpr.quant (eg.IsQuant.«some» (opens-again o _ _ refl) (gens-again n b.pattern gs _ _ l _) (cond-again n exprs cond _ _ c s))))
    expr-again _ i r (eg.IsExpr.quant (eg.IsQuant.each {gs} {o = cond} o l c)) =
        fits-shown R down n _ (shown-Quant true gs cond) (omega arith) (λ s. rw (put-after_word n m.Each (codes "each") (listed (map gen_pieces gs)) (condition (option_map shown cond)) s)
        (eg.IsExpr.quant (eg.IsQuant.each (opens-again o _ _ refl) (gens-again n b.pattern gs _ _ l _) (cond-again n exprs cond _ _ c s))))
    expr-again x i r (eg.IsExpr.disj a) = fits-looser R down n (omega arith) (disj-again x i r a)

    pattern_negative-again : (v : ℕ) (i r : List Tok) → g.Number v i r → (s : List Tok) → IsPattern (λ t. R d) (below R down n f d) (pat.Int (neg_ℤ (pos v))) (put n (pattern_pieces (pat.Int (neg_ℤ (pos v)))) s) s
    pattern_negative-again zero i r h s = simp (pattern-Int (pos zero), putting) (eg.IsPattern.int (number-again n h s))
    pattern_negative-again (suc v) i r h s = simp (pattern-Int (negsuc v), putting) (eg.IsPattern.negative (g.At.at refl) (number-again n h s))

    pub pattern-again : Again n (IsPattern (λ t. R d) (below R down n f d)) (IsPattern (λ t. R d) (below R down n f d)) pattern_pieces
    pattern-again _ i r (eg.IsPattern.wild h) s = simp (pattern-Wild, putting) (eg.IsPattern.wild (g.At.at refl))
    pattern-again _ i r (eg.IsPattern.name (g.Named.named {t} h)) s = simp (pattern-Name t.text, putting) (eg.IsPattern.name (g.Named.named refl))
    pattern-again _ i r (eg.IsPattern.int {n = v} h) s = simp (pattern-Int (pos v), putting) (eg.IsPattern.int (number-again n h s))
    pattern-again _ i r (eg.IsPattern.negative {n = v} h e) s = pattern_negative-again v _ _ e s
    pattern-again _ i r (eg.IsPattern.text {b = t} h) s = simp (pattern-Text t, putting) (eg.IsPattern.text (quoted-again n h s))
    pattern-again _ i r (eg.IsPattern.yes h) s = simp (pattern-Truth true, putting) (eg.IsPattern.yes (g.At.at refl))
    pattern-again _ i r (eg.IsPattern.no h) s = simp (pattern-Truth false, putting) (eg.IsPattern.no (g.At.at refl))
    pattern-again _ i r (eg.IsPattern.me h) s = simp (pattern-Me, putting) (eg.IsPattern.me (g.At.at refl))
    pattern-again _ i r (eg.IsPattern.equal {x} h a) s = simp (pattern-Equal x, putting) (eg.IsPattern.equal (g.At.at refl) (fits-operand R down n (unary-again x _ _ a) s))
    pattern-again _ i r (eg.IsPattern.tuple {p} {ps} o a c l) s =
        rw (pattern-Tuple (p ∷ ps), put-tupled n (pattern_pieces p) (map pattern_pieces ps) s)
        (eg.IsPattern.tuple (opens-again o _ _ refl) (b.pattern p _ _ a _) (g.At.at refl) (closed-again n pattern_pieces b.pattern m.CloseParen _ ps _ _ l s))

    -- what follows a `-`, taken from 0
    negated-again : (x : Expr) (i r : List Tok) → IsUnary (λ t. R d) (below R down n f d) x i r → Held R down n f d (negated x)
    negated-again x i r a =
        let p = roll-ChainTree (record { op = arith_op.Minus; operand = x }) in
        let start : Here product (ex.Int (pos zero)) =
        fits-looser R down n (omega arith) (own (ex.Int (pos zero)) _ (shown-Int (pos zero)) (λ s. simp putting (eg.IsAtom.int (g.Number.number refl (number_of-decimal zero (omega arith)))))) in
        let whole : Here sum (negated x) = fits-shown R down n _ (chain_shown true arith_op.Minus (ex.Int (pos zero)) x [] refl) (omega arith)
        (λ s. rw (put-append n (operand product (ex.Int (pos zero))) (linked product (map link_of (p ∷ []))) s)
        (eg.IsChain.chain (fits-operand R down n start _)
        (others-again n product (plus-again n) (λ z j q e. fits-operand R down n (prod-again z j q e)) (p ∷ []) (tok_of n m.Minus (codes "-") ∷ i) r (eg.IsOthers.other (eg.IsPlus.minus (g.At.at refl)) (eg.IsChain.lone a) eg.IsOthers.no_other) s))) in
        held R down n whole

  pub below-again : (f d : ℕ) → Below f d
  unfolding deeper
  below-again zero d = record { expr = λ x i r h. absurd h; disj = λ x i r h. absurd h; neg = λ x i r h. absurd h; minus = λ x i r h. absurd h; pattern = λ x i r h. absurd h }
  below-again (suc f) d =
      let b : Below f (suc d) = below-again f (suc d) in
      record {
        expr = λ x i r h. held R down n (expr-again f (suc d) b x i r h);
        disj = λ x i r h. fits-operand R down n (disj-again f (suc d) b x i r h);
        neg = λ x i r h. fits-operand R down n (neg-again f (suc d) b x i r h);
        minus = negated-again f (suc d) b;
        pattern = pattern-again f (suc d) b;
      }
