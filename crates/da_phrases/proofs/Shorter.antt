-- Each relation of the grammar of lists, types, expressions and patterns passes at least one token, and optional parts none or more.
use Rattle.std.proofs.Common.{ℕ, zero, suc, ◌<◌, ◌≤◌, List, length, arith}
use Rattle.da_values.specs.declared.token.Mark.{Mark}
use Rattle.da_values.specs.Marks.{Tok}
use Rattle.da_lang.specs.declared.tree.ArithOp.{ArithOp}
use Rattle.da_lang.specs.declared.tree.Expr.{Expr}
use Rattle.da_lang.specs.declared.ty.Ty.{Ty}
use Rattle.da_lang.specs.Spelling.{Spelling, Room, Opens, opens, Separated, Closed, EachAfter, Many, Ended}
use Rattle.da_lang.specs.TypeGrammar.{IsType, TypeIn}
use Rattle.da_lang.specs.ExprGrammar.{Deeper, deeper, IsSource, IsPeer, IsGen, IsGens, IsCond, IsAtom, IsUnary, IsTimes, IsPlus, IsOthers, IsChain, IsProd, IsSum, IsCmp, IsComp, IsNeg, IsJoined, IsConj, IsDisj, IsQuant, IsExpr, IsPattern}
use Rattle.da_phrases.proofs.Laws.{Shrinks}
use Rattle.da_phrases.proofs.Steps.{shorter-At, shorter-Named, shorter-Number, shorter-Quoted}

-- none or more tokens are passed
abbrev pub Keeps : {A : Type 0} → Spelling A → Type 0
Keeps {A} G = (x : A) (i r : List Tok) → G x i r → length r ≤ length i

pub shorter-Opens : {k : Mark} {room : Room} {i r : List Tok} → Opens k room i r → length r < length i
shorter-Opens (opens some h) = shorter-At h

-- ---- lists

module _ {A : Type 0} (Item : Spelling A) (shrinks : Shrinks Item) where
  pub Separated-shrinks : (k : Mark) → Shrinks (Separated k Item)
  Separated-shrinks k _ i r (Separated.last a) = shrinks _ _ _ a
  Separated-shrinks k _ i r (Separated.more a h l) = omega (arith, shrinks _ _ _ a, shorter-At h, Separated-shrinks k _ _ _ l)

  pub Closed-shrinks : (close : Mark) → Shrinks (Closed close Item)
  Closed-shrinks close _ i r (Closed.empty h) = shorter-At h
  Closed-shrinks close xs i r (Closed.full l h) = omega (arith, Separated-shrinks _ _ _ _ l, shorter-At h)

  pub Behind-keeps : (k : Mark) → Keeps (EachAfter k Item)
  Behind-keeps k _ i r EachAfter.none = omega arith
  Behind-keeps k _ i r (EachAfter.one h a l) = omega (arith, shorter-At h, shrinks _ _ _ a, Behind-keeps k _ _ _ l)

  pub Many-keeps : Keeps (Many Item)
  Many-keeps _ i r Many.none = omega arith
  Many-keeps _ i r (Many.one a l) = omega (arith, shrinks _ _ _ a, Many-keeps _ _ _ l)

  pub Ended-shrinks : Shrinks (Ended Item)
  Ended-shrinks _ i r (Ended.ends a h) = omega (arith, shrinks _ _ _ a, shorter-At h)
  Ended-shrinks _ i r (Ended.goes_on a l) = omega (arith, shrinks _ _ _ a, Ended-shrinks _ _ _ l)

-- ---- types

pub IsType-shrinks : (room : Room) (Inner : Spelling Ty) → Shrinks Inner → Shrinks (IsType room Inner)
IsType-shrinks room Inner shrinks _ i r (IsType.int h) = shorter-At h
IsType-shrinks room Inner shrinks _ i r (IsType.bool h) = shorter-At h
IsType-shrinks room Inner shrinks _ i r (IsType.str h) = shorter-At h
IsType-shrinks room Inner shrinks _ i r (IsType.proc h) = shorter-At h
IsType-shrinks room Inner shrinks _ i r (IsType.set h o a c) = omega (arith, shorter-At h, shorter-Opens o, shrinks _ _ _ a, shorter-At c)
IsType-shrinks room Inner shrinks _ i r (IsType.tuple o a h l) = omega (arith, shorter-Opens o, shrinks _ _ _ a, shorter-At h, Closed-shrinks Inner shrinks _ _ _ _ l)

pub TypeIn-shrinks : (room : ℕ → Room) (f d : ℕ) → Shrinks (TypeIn room f d)
unfolding TypeIn
TypeIn-shrinks room zero d x i r h = absurd h
TypeIn-shrinks room (suc f) d x i r h = IsType-shrinks (room d) (TypeIn room f (suc d)) (TypeIn-shrinks room f (suc d)) x i r h

-- ---- expressions and patterns

-- what stands one deeper passes at least one token
pub record Shrinking (deep : Deeper) : Type 0 where
  pub expr : Shrinks deep.expr
  pub disj : Shrinks deep.disj
  pub neg : Shrinks deep.neg
  pub unary : Shrinks deep.unary
  pub pattern : Shrinks deep.pattern

pub IsSource-shrinks : Shrinks IsSource
IsSource-shrinks _ i r (IsSource.received h) = shorter-At h
IsSource-shrinks _ i r (IsSource.sent h) = shorter-At h
IsSource-shrinks _ i r (IsSource.name h) = shorter-Named h

pub IsTimes-shrinks : Shrinks IsTimes
IsTimes-shrinks _ i r (IsTimes.times h) = shorter-At h
IsTimes-shrinks _ i r (IsTimes.div h) = shorter-At h
IsTimes-shrinks _ i r (IsTimes.rem h) = shorter-At h

pub IsPlus-shrinks : Shrinks IsPlus
IsPlus-shrinks _ i r (IsPlus.plus h) = shorter-At h
IsPlus-shrinks _ i r (IsPlus.minus h) = shorter-At h

pub IsCmp-shrinks : Shrinks IsCmp
IsCmp-shrinks _ i r (IsCmp.eq h) = shorter-At h
IsCmp-shrinks _ i r (IsCmp.ne h) = shorter-At h
IsCmp-shrinks _ i r (IsCmp.lt h) = shorter-At h
IsCmp-shrinks _ i r (IsCmp.le h) = shorter-At h
IsCmp-shrinks _ i r (IsCmp.gt h) = shorter-At h
IsCmp-shrinks _ i r (IsCmp.ge h) = shorter-At h

module _ (Sign : Spelling ArithOp) (Operand : Spelling Expr) (signs : Shrinks Sign) (shrinks : Shrinks Operand) where
  pub IsOthers-keeps : Keeps (IsOthers Sign Operand)
  IsOthers-keeps _ i r IsOthers.no_other = omega arith
  IsOthers-keeps _ i r (IsOthers.other s a l) = omega (arith, signs _ _ _ s, shrinks _ _ _ a, IsOthers-keeps _ _ _ l)

  pub IsChain-shrinks : Shrinks (IsChain Sign Operand)
  IsChain-shrinks x i r (IsChain.lone a) = shrinks x i r a
  IsChain-shrinks _ i r (IsChain.chain a l) = omega (arith, shrinks _ _ _ a, IsOthers-keeps _ _ _ l)

pub IsJoined-shrinks : (k : Mark) (join : List Expr → Expr) (Operand : Spelling Expr) → Shrinks Operand → Shrinks (IsJoined k join Operand)
IsJoined-shrinks k join Operand shrinks x i r (IsJoined.lone a) = shrinks x i r a
IsJoined-shrinks k join Operand shrinks _ i r (IsJoined.joined l) = Separated-shrinks Operand shrinks k _ _ _ l

module _ (deep : Deeper) (s : Shrinking deep) where
  pub IsPeer-keeps : Keeps (IsPeer deep.pattern)
  IsPeer-keeps _ i r IsPeer.no_peer = omega arith
  IsPeer-keeps _ i r (IsPeer.from h a) = omega (arith, shorter-At h, s.pattern _ _ _ a)
  IsPeer-keeps _ i r (IsPeer.to h a) = omega (arith, shorter-At h, s.pattern _ _ _ a)

  pub IsGen-shrinks : Shrinks (IsGen deep.pattern)
  IsGen-shrinks _ i r (IsGen.gen a o h x) = omega (arith, s.pattern _ _ _ a, IsPeer-keeps _ _ _ o, shorter-At h, IsSource-shrinks _ _ _ x)

  pub IsGens-shrinks : Shrinks (IsGens deep.pattern)
  IsGens-shrinks xs i r l = Separated-shrinks (IsGen deep.pattern) IsGen-shrinks _ xs i r l

  pub IsCond-keeps : Keeps (IsCond deep.expr)
  IsCond-keeps _ i r IsCond.no_cond = omega arith
  IsCond-keeps _ i r (IsCond.bar h a) = omega (arith, shorter-At h, s.expr _ _ _ a)
  IsCond-keeps _ i r (IsCond.has h a) = omega (arith, shorter-At h, s.expr _ _ _ a)

module _ (room : Room) (deep : Deeper) (s : Shrinking deep) where
  pub IsAtom-shrinks : Shrinks (IsAtom room deep)
  IsAtom-shrinks _ i r (IsAtom.int h) = shorter-Number h
  IsAtom-shrinks _ i r (IsAtom.text h) = shorter-Quoted h
  IsAtom-shrinks _ i r (IsAtom.yes h) = shorter-At h
  IsAtom-shrinks _ i r (IsAtom.no h) = shorter-At h
  IsAtom-shrinks _ i r (IsAtom.me h) = shorter-At h
  IsAtom-shrinks _ i r (IsAtom.name h) = shorter-Named h
  IsAtom-shrinks _ i r (IsAtom.clock h o c) = omega (arith, shorter-At h, shorter-Opens o, shorter-At c)
  IsAtom-shrinks _ i r (IsAtom.range h o a b e c) = omega (arith, shorter-At h, shorter-Opens o, s.disj _ _ _ a, shorter-At b, s.disj _ _ _ e, shorter-At c)
  IsAtom-shrinks _ i r (IsAtom.group o a c) = omega (arith, shorter-Opens o, s.expr _ _ _ a, shorter-At c)
  IsAtom-shrinks _ i r (IsAtom.tuple o a b l) = omega (arith, shorter-Opens o, s.disj _ _ _ a, shorter-At b, Closed-shrinks deep.disj s.disj _ _ _ _ l)
  IsAtom-shrinks _ i r (IsAtom.set_of o l) = omega (arith, shorter-Opens o, Closed-shrinks deep.disj s.disj _ _ _ _ l)
  IsAtom-shrinks _ i r (IsAtom.comprehension o a b l q c) = omega (arith, shorter-Opens o, s.disj _ _ _ a, shorter-At b, IsGens-shrinks deep s _ _ _ l, IsCond-keeps deep s _ _ _ q, shorter-At c)
  IsAtom-shrinks _ i r (IsAtom.count h o a c) = omega (arith, shorter-At h, shorter-Opens o, s.disj _ _ _ a, shorter-At c)
  IsAtom-shrinks _ i r (IsAtom.sum h o a c) = omega (arith, shorter-At h, shorter-Opens o, s.disj _ _ _ a, shorter-At c)
  IsAtom-shrinks _ i r (IsAtom.min h o a b e c) = omega (arith, shorter-At h, shorter-Opens o, s.disj _ _ _ a, shorter-At b, s.disj _ _ _ e, shorter-At c)
  IsAtom-shrinks _ i r (IsAtom.max h o a b e c) = omega (arith, shorter-At h, shorter-Opens o, s.disj _ _ _ a, shorter-At b, s.disj _ _ _ e, shorter-At c)

  pub IsUnary-shrinks : Shrinks (IsUnary room deep)
  IsUnary-shrinks x i r (IsUnary.atom a) = IsAtom-shrinks x i r a
  IsUnary-shrinks _ i r (IsUnary.negative o h) = omega (arith, shorter-Opens o, shorter-Number h)
  IsUnary-shrinks _ i r (IsUnary.minus o n a) = omega (arith, shorter-Opens o, s.unary _ _ _ a)

  pub IsProd-shrinks : Shrinks (IsProd room deep)
  IsProd-shrinks = IsChain-shrinks IsTimes (IsUnary room deep) IsTimes-shrinks IsUnary-shrinks

  pub IsSum-shrinks : Shrinks (IsSum room deep)
  IsSum-shrinks = IsChain-shrinks IsPlus (IsProd room deep) IsPlus-shrinks IsProd-shrinks

  pub IsComp-shrinks : Shrinks (IsComp room deep)
  IsComp-shrinks x i r (IsComp.lone a) = IsSum-shrinks x i r a
  IsComp-shrinks _ i r (IsComp.compared a h b) = omega (arith, IsSum-shrinks _ _ _ a, IsCmp-shrinks _ _ _ h, IsSum-shrinks _ _ _ b)
  IsComp-shrinks _ i r (IsComp.member a h b) = omega (arith, IsSum-shrinks _ _ _ a, shorter-At h, IsSum-shrinks _ _ _ b)

  pub IsNeg-shrinks : Shrinks (IsNeg room deep)
  IsNeg-shrinks _ i r (IsNeg.negation o a) = omega (arith, shorter-Opens o, s.neg _ _ _ a)
  IsNeg-shrinks x i r (IsNeg.comp a) = IsComp-shrinks x i r a

  pub IsConj-shrinks : Shrinks (IsConj room deep)
  IsConj-shrinks = IsJoined-shrinks _ _ (IsNeg room deep) IsNeg-shrinks

  pub IsDisj-shrinks : Shrinks (IsDisj room deep)
  IsDisj-shrinks = IsJoined-shrinks _ _ (IsConj room deep) IsConj-shrinks

  pub IsQuant-shrinks : Shrinks (IsQuant room deep)
  IsQuant-shrinks _ i r (IsQuant.«some» o l c) = omega (arith, shorter-Opens o, IsGens-shrinks deep s _ _ _ l, IsCond-keeps deep s _ _ _ c)
  IsQuant-shrinks _ i r (IsQuant.each o l c) = omega (arith, shorter-Opens o, IsGens-shrinks deep s _ _ _ l, IsCond-keeps deep s _ _ _ c)

  pub IsExpr-shrinks : Shrinks (IsExpr room deep)
  IsExpr-shrinks x i r (IsExpr.quant a) = IsQuant-shrinks x i r a
  IsExpr-shrinks x i r (IsExpr.disj a) = IsDisj-shrinks x i r a

  pub IsPattern-shrinks : Shrinks (IsPattern room deep)
  IsPattern-shrinks _ i r (IsPattern.wild h) = shorter-At h
  IsPattern-shrinks _ i r (IsPattern.name h) = shorter-Named h
  IsPattern-shrinks _ i r (IsPattern.int h) = shorter-Number h
  IsPattern-shrinks _ i r (IsPattern.negative h n) = omega (arith, shorter-At h, shorter-Number n)
  IsPattern-shrinks _ i r (IsPattern.text h) = shorter-Quoted h
  IsPattern-shrinks _ i r (IsPattern.yes h) = shorter-At h
  IsPattern-shrinks _ i r (IsPattern.no h) = shorter-At h
  IsPattern-shrinks _ i r (IsPattern.me h) = shorter-At h
  IsPattern-shrinks _ i r (IsPattern.equal h a) = omega (arith, shorter-At h, IsUnary-shrinks _ _ _ a)
  IsPattern-shrinks _ i r (IsPattern.tuple o a h l) = omega (arith, shorter-Opens o, s.pattern _ _ _ a, shorter-At h, Closed-shrinks deep.pattern s.pattern _ _ _ _ l)

pub deeper-shrinks : (room : ℕ → Room) (f d : ℕ) → Shrinking (deeper room f d)
unfolding deeper
deeper-shrinks room zero d = record { expr = λ x i r h. absurd h; disj = λ x i r h. absurd h; neg = λ x i r h. absurd h; unary = λ x i r h. absurd h; pattern = λ x i r h. absurd h }
deeper-shrinks room (suc f) d =
    let inner = deeper-shrinks room f (suc d) in
    record {
      expr = IsExpr-shrinks (room d) (deeper room f (suc d)) inner;
      disj = IsDisj-shrinks (room d) (deeper room f (suc d)) inner;
      neg = IsNeg-shrinks (room d) (deeper room f (suc d)) inner;
      unary = IsUnary-shrinks (room d) (deeper room f (suc d)) inner;
      pattern = IsPattern-shrinks (room d) (deeper room f (suc d)) inner;
    }
