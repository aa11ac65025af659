-- Where fewer things are open, the same is spelled: an expression or a pattern that stands one deeper may stand here.
use Rattle.std.proofs.Common.{ℕ, zero, suc, List}
use Rattle.da_values.specs.declared.token.Mark.{Mark}
use Rattle.da_values.specs.Marks.{Tok}
use Rattle.da_lang.specs.declared.tree.ArithOp.{ArithOp}
use Rattle.da_lang.specs.declared.tree.Expr.{Expr}
use Rattle.da_lang.specs.declared.tree.PatternTree.{PatternTree}
use Rattle.da_lang.specs.Spelling as g
use Rattle.da_lang.specs.Spelling.{Spelling, Room, Opens, Separated, Closed}
use Rattle.da_lang.specs.ExprGrammar as eg
use Rattle.da_lang.specs.ExprGrammar.{Deeper, IsPeer, IsGen, IsGens, IsCond, IsAtom, IsUnary, IsOthers, IsChain, IsTimes, IsPlus, IsProd, IsSum, IsComp, IsNeg, IsJoined, IsConj, IsDisj, IsQuant, IsExpr, IsPattern, deeper}

-- what the first relation spells, the second does
abbrev pub Within : {A : Type 0} → Spelling A → Spelling A → Type 0
Within {A} G H = (a : A) (i r : List Tok) → G a i r → H a i r

pub record DeepWithin (deep more : Deeper) : Type 0 where
  pub expr : Within deep.expr more.expr
  pub disj : Within deep.disj more.disj
  pub neg : Within deep.neg more.neg
  pub unary : Within deep.unary more.unary
  pub pattern : Within deep.pattern more.pattern

module _ {A : Type 0} {Item More : Spelling A} (w : Within Item More) where
  pub Separated-more : (k : Mark) → Within (Separated k Item) (Separated k More)
  Separated-more k _ i r (g.Separated.last a) = g.Separated.last (w _ _ _ a)
  Separated-more k _ i r (g.Separated.more a h l) = g.Separated.more (w _ _ _ a) h (Separated-more k _ _ _ l)

  pub Closed-more : (close : Mark) → Within (Closed close Item) (Closed close More)
  Closed-more close _ i r (g.Closed.empty h) = g.Closed.empty h
  Closed-more close _ i r (g.Closed.full l h) = g.Closed.full (Separated-more _ _ _ _ l) h

IsPeer-more : {G H : Spelling PatternTree} → Within G H → Within (IsPeer G) (IsPeer H)
IsPeer-more w _ i r eg.IsPeer.no_peer = eg.IsPeer.no_peer
IsPeer-more w _ i r (eg.IsPeer.from h p) = eg.IsPeer.from h (w _ _ _ p)
IsPeer-more w _ i r (eg.IsPeer.to h p) = eg.IsPeer.to h (w _ _ _ p)

IsGen-more : {G H : Spelling PatternTree} → Within G H → Within (IsGen G) (IsGen H)
IsGen-more w _ i r (eg.IsGen.gen p o h s) = eg.IsGen.gen (w _ _ _ p) (IsPeer-more w _ _ _ o) h s

IsGens-more : {G H : Spelling PatternTree} → Within G H → Within (IsGens G) (IsGens H)
IsGens-more w = Separated-more (IsGen-more w) _

IsCond-more : {G H : Spelling Expr} → Within G H → Within (IsCond G) (IsCond H)
IsCond-more w _ i r eg.IsCond.no_cond = eg.IsCond.no_cond
IsCond-more w _ i r (eg.IsCond.bar h c) = eg.IsCond.bar h (w _ _ _ c)
IsCond-more w _ i r (eg.IsCond.has h c) = eg.IsCond.has h (w _ _ _ c)

IsOthers-more : {S : Spelling ArithOp} {G H : Spelling Expr} → Within G H → Within (IsOthers S G) (IsOthers S H)
IsOthers-more w _ i r eg.IsOthers.no_other = eg.IsOthers.no_other
IsOthers-more w _ i r (eg.IsOthers.other s a l) = eg.IsOthers.other s (w _ _ _ a) (IsOthers-more w _ _ _ l)

IsChain-more : {S : Spelling ArithOp} {G H : Spelling Expr} → Within G H → Within (IsChain S G) (IsChain S H)
IsChain-more w _ i r (eg.IsChain.lone a) = eg.IsChain.lone (w _ _ _ a)
IsChain-more w _ i r (eg.IsChain.chain a l) = eg.IsChain.chain (w _ _ _ a) (IsOthers-more w _ _ _ l)

IsJoined-more : {k : Mark} {join : List Expr → Expr} {G H : Spelling Expr} → Within G H → Within (IsJoined k join G) (IsJoined k join H)
IsJoined-more w _ i r (eg.IsJoined.lone a) = eg.IsJoined.lone (w _ _ _ a)
IsJoined-more w _ i r (eg.IsJoined.joined l) = eg.IsJoined.joined (Separated-more w _ _ _ _ l)

module _ (room wider : Room) (widens : (t : List Tok) → room t → wider t) (deep more : Deeper) (w : DeepWithin deep more) where
  Opens-more : (k : Mark) (i r : List Tok) → Opens k room i r → Opens k wider i r
  Opens-more k i r (g.Opens.opens some h) = g.Opens.opens (widens _ some) h

  IsAtom-more : Within (IsAtom room deep) (IsAtom wider more)
  IsAtom-more _ i r (eg.IsAtom.int h) = eg.IsAtom.int h
  IsAtom-more _ i r (eg.IsAtom.text h) = eg.IsAtom.text h
  IsAtom-more _ i r (eg.IsAtom.yes h) = eg.IsAtom.yes h
  IsAtom-more _ i r (eg.IsAtom.no h) = eg.IsAtom.no h
  IsAtom-more _ i r (eg.IsAtom.me h) = eg.IsAtom.me h
  IsAtom-more _ i r (eg.IsAtom.name h) = eg.IsAtom.name h
  IsAtom-more _ i r (eg.IsAtom.clock h o e) = eg.IsAtom.clock h (Opens-more _ _ _ o) e
  IsAtom-more _ i r (eg.IsAtom.range h o a c b e) = eg.IsAtom.range h (Opens-more _ _ _ o) (w.disj _ _ _ a) c (w.disj _ _ _ b) e
  IsAtom-more _ i r (eg.IsAtom.group o a e) = eg.IsAtom.group (Opens-more _ _ _ o) (w.expr _ _ _ a) e
  IsAtom-more _ i r (eg.IsAtom.tuple o a c l) = eg.IsAtom.tuple (Opens-more _ _ _ o) (w.disj _ _ _ a) c (Closed-more w.disj _ _ _ _ l)
  IsAtom-more _ i r (eg.IsAtom.set_of o l) = eg.IsAtom.set_of (Opens-more _ _ _ o) (Closed-more w.disj _ _ _ _ l)
  IsAtom-more _ i r (eg.IsAtom.comprehension o a c l d e) = eg.IsAtom.comprehension (Opens-more _ _ _ o) (w.disj _ _ _ a) c (IsGens-more w.pattern _ _ _ l) (IsCond-more w.expr _ _ _ d) e
  IsAtom-more _ i r (eg.IsAtom.count h o a e) = eg.IsAtom.count h (Opens-more _ _ _ o) (w.disj _ _ _ a) e
  IsAtom-more _ i r (eg.IsAtom.sum h o a e) = eg.IsAtom.sum h (Opens-more _ _ _ o) (w.disj _ _ _ a) e
  IsAtom-more _ i r (eg.IsAtom.min h o a c b e) = eg.IsAtom.min h (Opens-more _ _ _ o) (w.disj _ _ _ a) c (w.disj _ _ _ b) e
  IsAtom-more _ i r (eg.IsAtom.max h o a c b e) = eg.IsAtom.max h (Opens-more _ _ _ o) (w.disj _ _ _ a) c (w.disj _ _ _ b) e

  pub IsUnary-more : Within (IsUnary room deep) (IsUnary wider more)
  IsUnary-more _ i r (eg.IsUnary.atom a) = eg.IsUnary.atom (IsAtom-more _ _ _ a)
  IsUnary-more _ i r (eg.IsUnary.negative o n) = eg.IsUnary.negative (Opens-more _ _ _ o) n
  IsUnary-more _ i r (eg.IsUnary.minus o other a) = eg.IsUnary.minus (Opens-more _ _ _ o) other (w.unary _ _ _ a)

  pub IsProd-more : Within (IsProd room deep) (IsProd wider more)
  IsProd-more = IsChain-more IsUnary-more

  pub IsSum-more : Within (IsSum room deep) (IsSum wider more)
  IsSum-more = IsChain-more IsProd-more

  pub IsComp-more : Within (IsComp room deep) (IsComp wider more)
  IsComp-more _ i r (eg.IsComp.lone a) = eg.IsComp.lone (IsSum-more _ _ _ a)
  IsComp-more _ i r (eg.IsComp.compared a h b) = eg.IsComp.compared (IsSum-more _ _ _ a) h (IsSum-more _ _ _ b)
  IsComp-more _ i r (eg.IsComp.member a h b) = eg.IsComp.member (IsSum-more _ _ _ a) h (IsSum-more _ _ _ b)

  pub IsNeg-more : Within (IsNeg room deep) (IsNeg wider more)
  IsNeg-more _ i r (eg.IsNeg.negation o a) = eg.IsNeg.negation (Opens-more _ _ _ o) (w.neg _ _ _ a)
  IsNeg-more _ i r (eg.IsNeg.comp a) = eg.IsNeg.comp (IsComp-more _ _ _ a)

  pub IsConj-more : Within (IsConj room deep) (IsConj wider more)
  IsConj-more = IsJoined-more IsNeg-more

  pub IsDisj-more : Within (IsDisj room deep) (IsDisj wider more)
  IsDisj-more = IsJoined-more IsConj-more

  IsQuant-more : Within (IsQuant room deep) (IsQuant wider more)
  IsQuant-more _ i r (eg.IsQuant.«some» o l c) = eg.IsQuant.«some» (Opens-more _ _ _ o) (IsGens-more w.pattern _ _ _ l) (IsCond-more w.expr _ _ _ c)
  IsQuant-more _ i r (eg.IsQuant.each o l c) = eg.IsQuant.each (Opens-more _ _ _ o) (IsGens-more w.pattern _ _ _ l) (IsCond-more w.expr _ _ _ c)

  pub IsExpr-more : Within (IsExpr room deep) (IsExpr wider more)
  IsExpr-more _ i r (eg.IsExpr.quant a) = eg.IsExpr.quant (IsQuant-more _ _ _ a)
  IsExpr-more _ i r (eg.IsExpr.disj a) = eg.IsExpr.disj (IsDisj-more _ _ _ a)

  pub IsPattern-more : Within (IsPattern room deep) (IsPattern wider more)
  IsPattern-more _ i r (eg.IsPattern.wild h) = eg.IsPattern.wild h
  IsPattern-more _ i r (eg.IsPattern.name h) = eg.IsPattern.name h
  IsPattern-more _ i r (eg.IsPattern.int h) = eg.IsPattern.int h
  IsPattern-more _ i r (eg.IsPattern.negative h n) = eg.IsPattern.negative h n
  IsPattern-more _ i r (eg.IsPattern.text h) = eg.IsPattern.text h
  IsPattern-more _ i r (eg.IsPattern.yes h) = eg.IsPattern.yes h
  IsPattern-more _ i r (eg.IsPattern.no h) = eg.IsPattern.no h
  IsPattern-more _ i r (eg.IsPattern.me h) = eg.IsPattern.me h
  IsPattern-more _ i r (eg.IsPattern.equal h a) = eg.IsPattern.equal h (IsUnary-more _ _ _ a)
  IsPattern-more _ i r (eg.IsPattern.tuple o p c l) = eg.IsPattern.tuple (Opens-more _ _ _ o) (w.pattern _ _ _ p) c (Closed-more w.pattern _ _ _ _ l)

-- where one thing less is open, the same is spelled, if a place that has room leaves room before it
pub deeper-down : (R : ℕ → Type 0) → ((d : ℕ) → R (suc d) → R d) → (f d : ℕ) → DeepWithin (deeper (λ d t. R d) f (suc d)) (deeper (λ d t. R d) (suc f) d)
unfolding deeper
deeper-down R down zero d = record { expr = λ a i r h. absurd h; disj = λ a i r h. absurd h; neg = λ a i r h. absurd h; unary = λ a i r h. absurd h; pattern = λ a i r h. absurd h }
deeper-down R down (suc f) d =
    let deep : Deeper = deeper (λ d t. R d) f (suc (suc d)) in
    let more : Deeper = deeper (λ d t. R d) (suc f) (suc d) in
    let w : DeepWithin deep more = deeper-down R down f (suc d) in
    record {
      expr = IsExpr-more (λ t. R (suc d)) (λ t. R d) (λ t. down d) deep more w;
      disj = IsDisj-more (λ t. R (suc d)) (λ t. R d) (λ t. down d) deep more w;
      neg = IsNeg-more (λ t. R (suc d)) (λ t. R d) (λ t. down d) deep more w;
      unary = IsUnary-more (λ t. R (suc d)) (λ t. R d) (λ t. down d) deep more w;
      pattern = IsPattern-more (λ t. R (suc d)) (λ t. R d) (λ t. down d) deep more w;
    }
