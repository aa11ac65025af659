-- What some tokens spell before others, as many tokens spell before any others: types, expressions and patterns.
use Rattle.std.specs.Prelude.{◌≡◌, refl, ℕ, zero, suc, ◌≤◌, List, ◌∷◌, Option}
use Rattle.std.proofs.Common.{arith}
use Rattle.da_values.specs.declared.token.Mark.{Mark}
use Rattle.da_values.specs.declared.token.Mark.TheVariants as m
use Rattle.da_values.specs.Marks.{Tok}
use Rattle.da_lang.specs.declared.tree.ArithOp.{ArithOp}
use Rattle.da_lang.specs.declared.tree.ChainTree.{ChainTree}
use Rattle.da_lang.specs.declared.tree.Expr.{Expr}
use Rattle.da_lang.specs.declared.tree.PatternTree.{PatternTree}
use Rattle.da_lang.specs.declared.ty.Ty.{Ty}
use Rattle.da_lang.specs.Spelling as g
use Rattle.da_lang.specs.Spelling.{Spelling, Room}
use Rattle.da_lang.specs.TypeGrammar as ty
use Rattle.da_lang.specs.TypeGrammar.{IsType, TypeIn}
use Rattle.da_lang.specs.ExprGrammar as eg
use Rattle.da_lang.specs.ExprGrammar.{Deeper, IsSource, IsPeer, IsGen, IsGens, IsCond, IsAtom, IsUnary, IsTimes, IsPlus, IsOthers, IsChain, IsProd, IsSum, IsCmp, IsComp, IsNeg, IsJoined, IsConj, IsDisj, IsQuant, IsExpr, IsPattern, deeper}
use Rattle.da_infer.proofs.MovedLists.{Free, here, more, join, moved, Moves, named_moves, still_not_at, headed, HeadMoves, head_moves, separated_moves, closed_moves}

-- ---- types

type_form_moves : (room : Room) {X Y : Spelling Ty} → Moves X Y → Moves (IsType room X) (IsType Free Y)
type_form_moves room each _ t r (ty.IsType.int (g.At.at e)) s = moved (more here) (ty.IsType.int (g.At.at e))
type_form_moves room each _ t r (ty.IsType.bool (g.At.at e)) s = moved (more here) (ty.IsType.bool (g.At.at e))
type_form_moves room each _ t r (ty.IsType.str (g.At.at e)) s = moved (more here) (ty.IsType.str (g.At.at e))
type_form_moves room each _ t r (ty.IsType.proc (g.At.at e)) s = moved (more here) (ty.IsType.proc (g.At.at e))
type_form_moves room each _ t r (ty.IsType.set {x} (g.At.at e) (g.Opens.opens o (g.At.at f)) h (g.At.at {t = c} i)) s =
    let a = each x _ _ h (c ∷ s) in
    moved (more (more (join a.along (more here)))) (ty.IsType.set (g.At.at e) (g.Opens.opens tt (g.At.at f)) a.spelled (g.At.at i))
type_form_moves room each _ t r (ty.IsType.tuple {x} {xs} (g.Opens.opens o (g.At.at e)) h (g.At.at {t = c} f) l) s =
    let b = closed_moves each m.CloseParen xs _ _ l s in
    let a = each x _ _ h (c ∷ b.now) in
    moved (more (join a.along (more b.along))) (ty.IsType.tuple (g.Opens.opens tt (g.At.at e)) a.spelled (g.At.at f) b.spelled)

pub type_moves : (room : ℕ → Room) (f d size e : ℕ) → f ≤ size → Moves (TypeIn room f d) (TypeIn (λ d. Free) size e)
unfolding TypeIn
type_moves room zero d size e few x t r h s = absurd h
type_moves room (suc f) d zero e few x t r h s = absurd (omega (arith, few))
type_moves room (suc f) d (suc size) e few x t r h s = type_form_moves (room d) (type_moves room f (suc d) size (suc e) (omega (arith, few))) x t r h s

-- ---- operators

source_moves : Moves IsSource IsSource
source_moves _ t r (eg.IsSource.received (g.At.at e)) s = moved (more here) (eg.IsSource.received (g.At.at e))
source_moves _ t r (eg.IsSource.sent (g.At.at e)) s = moved (more here) (eg.IsSource.sent (g.At.at e))
source_moves _ t r (eg.IsSource.name (g.Named.named e)) s = moved (more here) (eg.IsSource.name (g.Named.named e))

times_moves : Moves IsTimes IsTimes
times_moves _ t r (eg.IsTimes.times (g.At.at e)) s = moved (more here) (eg.IsTimes.times (g.At.at e))
times_moves _ t r (eg.IsTimes.div (g.At.at e)) s = moved (more here) (eg.IsTimes.div (g.At.at e))
times_moves _ t r (eg.IsTimes.rem (g.At.at e)) s = moved (more here) (eg.IsTimes.rem (g.At.at e))

plus_moves : Moves IsPlus IsPlus
plus_moves _ t r (eg.IsPlus.plus (g.At.at e)) s = moved (more here) (eg.IsPlus.plus (g.At.at e))
plus_moves _ t r (eg.IsPlus.minus (g.At.at e)) s = moved (more here) (eg.IsPlus.minus (g.At.at e))

cmp_moves : Moves IsCmp IsCmp
cmp_moves _ t r (eg.IsCmp.eq (g.At.at e)) s = moved (more here) (eg.IsCmp.eq (g.At.at e))
cmp_moves _ t r (eg.IsCmp.ne (g.At.at e)) s = moved (more here) (eg.IsCmp.ne (g.At.at e))
cmp_moves _ t r (eg.IsCmp.lt (g.At.at e)) s = moved (more here) (eg.IsCmp.lt (g.At.at e))
cmp_moves _ t r (eg.IsCmp.le (g.At.at e)) s = moved (more here) (eg.IsCmp.le (g.At.at e))
cmp_moves _ t r (eg.IsCmp.gt (g.At.at e)) s = moved (more here) (eg.IsCmp.gt (g.At.at e))
cmp_moves _ t r (eg.IsCmp.ge (g.At.at e)) s = moved (more here) (eg.IsCmp.ge (g.At.at e))

-- ---- parts of queries

module _ {X Y : Spelling PatternTree} (each : Moves X Y) where
  peer_moves : Moves (IsPeer X) (IsPeer Y)
  peer_moves _ t r eg.IsPeer.no_peer s = moved here eg.IsPeer.no_peer
  peer_moves _ t r (eg.IsPeer.from {p} (g.At.at e) h) s = let a = each p _ _ h s in moved (more a.along) (eg.IsPeer.from (g.At.at e) a.spelled)
  peer_moves _ t r (eg.IsPeer.to {p} (g.At.at e) h) s = let a = each p _ _ h s in moved (more a.along) (eg.IsPeer.to (g.At.at e) a.spelled)

  gen_moves : Moves (IsGen X) (IsGen Y)
  gen_moves _ t r (eg.IsGen.gen {p} {o} {x} h i (g.At.at {t = c} e) j) s =
      let d = source_moves x _ _ j s in
      let b = peer_moves o _ _ i (c ∷ d.now) in
      let a = each p _ _ h b.now in
      moved (join a.along (join b.along (more d.along))) (eg.IsGen.gen a.spelled b.spelled (g.At.at e) d.spelled)

  gens_moves : Moves (IsGens X) (IsGens Y)
  gens_moves = separated_moves gen_moves m.Comma

cond_moves : {X Y : Spelling Expr} → Moves X Y → Moves (IsCond X) (IsCond Y)
cond_moves each _ t r eg.IsCond.no_cond s = moved here eg.IsCond.no_cond
cond_moves each _ t r (eg.IsCond.bar {x} (g.At.at e) h) s = let a = each x _ _ h s in moved (more a.along) (eg.IsCond.bar (g.At.at e) a.spelled)
cond_moves each _ t r (eg.IsCond.has {x} (g.At.at e) h) s = let a = each x _ _ h s in moved (more a.along) (eg.IsCond.has (g.At.at e) a.spelled)

-- ---- chains and joined operands

module _ {S : Spelling ArithOp} {X Y : Spelling Expr} (sign : Moves S S) (each : Moves X Y) where
  others_moves : Moves (IsOthers S X) (IsOthers S Y)
  others_moves _ t r eg.IsOthers.no_other s = moved here eg.IsOthers.no_other
  others_moves _ t r (eg.IsOthers.other {o} {x} {ps} h i l) s =
      let d = others_moves ps _ _ l s in
      let b = each x _ _ i d.now in
      let a = sign o _ _ h b.now in
      moved (join a.along (join b.along d.along)) (eg.IsOthers.other a.spelled b.spelled d.spelled)

  chain_moves : Moves (IsChain S X) (IsChain S Y)
  chain_moves _ t r (eg.IsChain.lone {x} h) s = let a = each x _ _ h s in moved a.along (eg.IsChain.lone a.spelled)
  chain_moves _ t r (eg.IsChain.chain {x} {p} {ps} h l) s =
      let b = others_moves (p ∷ ps) _ _ l s in
      let a = each x _ _ h b.now in
      moved (join a.along b.along) (eg.IsChain.chain a.spelled b.spelled)

joined_moves : (k : Mark) (made : List Expr → Expr) {X Y : Spelling Expr} → Moves X Y → Moves (IsJoined k made X) (IsJoined k made Y)
joined_moves k made each _ t r (eg.IsJoined.lone {x} h) s = let a = each x _ _ h s in moved a.along (eg.IsJoined.lone a.spelled)
joined_moves k made each _ t r (eg.IsJoined.joined {x} {y} {ys} l) s =
    let a = separated_moves each k (x ∷ y ∷ ys) _ _ l s in
    moved a.along (eg.IsJoined.joined a.spelled)

-- ---- what stands one deeper

pub record DeepMoves (deep other : Deeper) : Type 0 where
  pub expr : Moves deep.expr other.expr
  pub disj : Moves deep.disj other.disj
  pub neg : Moves deep.neg other.neg
  pub unary : HeadMoves deep.unary other.unary
  pub pattern : Moves deep.pattern other.pattern

module _ (room : Room) (deep other : Deeper) (below : DeepMoves deep other) where
  atom_moves : HeadMoves (IsAtom room deep) (IsAtom Free other)
  atom_moves _ t r (eg.IsAtom.int (g.Number.number e is)) s = headed (more here) (eg.IsAtom.int (g.Number.number e is)) refl
  atom_moves _ t r (eg.IsAtom.text (g.Quoted.quoted e is)) s = headed (more here) (eg.IsAtom.text (g.Quoted.quoted e is)) refl
  atom_moves _ t r (eg.IsAtom.yes (g.At.at e)) s = headed (more here) (eg.IsAtom.yes (g.At.at e)) refl
  atom_moves _ t r (eg.IsAtom.no (g.At.at e)) s = headed (more here) (eg.IsAtom.no (g.At.at e)) refl
  atom_moves _ t r (eg.IsAtom.me (g.At.at e)) s = headed (more here) (eg.IsAtom.me (g.At.at e)) refl
  atom_moves _ t r (eg.IsAtom.name (g.Named.named e)) s = headed (more here) (eg.IsAtom.name (g.Named.named e)) refl
  atom_moves _ t r (eg.IsAtom.clock (g.At.at e) (g.Opens.opens o (g.At.at f)) (g.At.at i)) s =
      headed (more (more (more here))) (eg.IsAtom.clock (g.At.at e) (g.Opens.opens tt (g.At.at f)) (g.At.at i)) refl
  atom_moves _ t r (eg.IsAtom.range {x} {y} (g.At.at e) (g.Opens.opens o (g.At.at f)) h (g.At.at {t = c} i) k (g.At.at {t = z} j)) s =
      let b = below.disj y _ _ k (z ∷ s) in
      let a = below.disj x _ _ h (c ∷ b.now) in
      headed (more (more (join a.along (more (join b.along (more here)))))) (eg.IsAtom.range (g.At.at e) (g.Opens.opens tt (g.At.at f)) a.spelled (g.At.at i) b.spelled (g.At.at j)) refl
  atom_moves _ t r (eg.IsAtom.group {x} (g.Opens.opens o (g.At.at e)) h (g.At.at {t = z} j)) s =
      let a = below.expr x _ _ h (z ∷ s) in
      headed (more (join a.along (more here))) (eg.IsAtom.group (g.Opens.opens tt (g.At.at e)) a.spelled (g.At.at j)) refl
  atom_moves _ t r (eg.IsAtom.tuple {x} {xs} (g.Opens.opens o (g.At.at e)) h (g.At.at {t = c} i) l) s =
      let b = closed_moves below.disj m.CloseParen xs _ _ l s in
      let a = below.disj x _ _ h (c ∷ b.now) in
      headed (more (join a.along (more b.along))) (eg.IsAtom.tuple (g.Opens.opens tt (g.At.at e)) a.spelled (g.At.at i) b.spelled) refl
  atom_moves _ t r (eg.IsAtom.set_of {xs} (g.Opens.opens o (g.At.at e)) l) s =
      let a = closed_moves below.disj m.CloseBrace xs _ _ l s in
      headed (more a.along) (eg.IsAtom.set_of (g.Opens.opens tt (g.At.at e)) a.spelled) refl
  atom_moves _ t r (eg.IsAtom.comprehension {x} {gs} {o = cond} (g.Opens.opens o (g.At.at e)) h (g.At.at {t = c} i) l k (g.At.at {t = z} j)) s =
      let d = cond_moves below.expr cond _ _ k (z ∷ s) in
      let b = gens_moves below.pattern gs _ _ l d.now in
      let a = below.disj x _ _ h (c ∷ b.now) in
      headed (more (join a.along (more (join b.along (join d.along (more here)))))) (eg.IsAtom.comprehension (g.Opens.opens tt (g.At.at e)) a.spelled (g.At.at i) b.spelled d.spelled (g.At.at j)) refl
  atom_moves _ t r (eg.IsAtom.count {x} (g.At.at e) (g.Opens.opens o (g.At.at f)) h (g.At.at {t = z} j)) s =
      let a = below.disj x _ _ h (z ∷ s) in
      headed (more (more (join a.along (more here)))) (eg.IsAtom.count (g.At.at e) (g.Opens.opens tt (g.At.at f)) a.spelled (g.At.at j)) refl
  atom_moves _ t r (eg.IsAtom.sum {x} (g.At.at e) (g.Opens.opens o (g.At.at f)) h (g.At.at {t = z} j)) s =
      let a = below.disj x _ _ h (z ∷ s) in
      headed (more (more (join a.along (more here)))) (eg.IsAtom.sum (g.At.at e) (g.Opens.opens tt (g.At.at f)) a.spelled (g.At.at j)) refl
  atom_moves _ t r (eg.IsAtom.min {x} {y} (g.At.at e) (g.Opens.opens o (g.At.at f)) h (g.At.at {t = c} i) k (g.At.at {t = z} j)) s =
      let b = below.disj y _ _ k (z ∷ s) in
      let a = below.disj x _ _ h (c ∷ b.now) in
      headed (more (more (join a.along (more (join b.along (more here)))))) (eg.IsAtom.min (g.At.at e) (g.Opens.opens tt (g.At.at f)) a.spelled (g.At.at i) b.spelled (g.At.at j)) refl
  atom_moves _ t r (eg.IsAtom.max {x} {y} (g.At.at e) (g.Opens.opens o (g.At.at f)) h (g.At.at {t = c} i) k (g.At.at {t = z} j)) s =
      let b = below.disj y _ _ k (z ∷ s) in
      let a = below.disj x _ _ h (c ∷ b.now) in
      headed (more (more (join a.along (more (join b.along (more here)))))) (eg.IsAtom.max (g.At.at e) (g.Opens.opens tt (g.At.at f)) a.spelled (g.At.at i) b.spelled (g.At.at j)) refl

  pub unary_moves : HeadMoves (IsUnary room deep) (IsUnary Free other)
  unary_moves x t r (eg.IsUnary.atom h) s = let a = atom_moves x _ _ h s in headed a.along (eg.IsUnary.atom a.spelled) a.head
  unary_moves _ t r (eg.IsUnary.negative (g.Opens.opens o (g.At.at e)) (g.Number.number f is)) s =
      headed (more (more here)) (eg.IsUnary.negative (g.Opens.opens tt (g.At.at e)) (g.Number.number f is)) refl
  unary_moves _ t r (eg.IsUnary.minus {x} (g.Opens.opens o (g.At.at e)) n h) s =
      let a = below.unary x _ _ h s in
      headed (more a.along) (eg.IsUnary.minus (g.Opens.opens tt (g.At.at e)) (still_not_at a.now a.head n) a.spelled) refl

  pub sum_moves : Moves (IsSum room deep) (IsSum Free other)
  sum_moves = chain_moves plus_moves (chain_moves times_moves (head_moves unary_moves))

  pub comp_moves : Moves (IsComp room deep) (IsComp Free other)
  comp_moves _ t r (eg.IsComp.lone {x} h) s = let a = sum_moves x _ _ h s in moved a.along (eg.IsComp.lone a.spelled)
  comp_moves _ t r (eg.IsComp.compared {o} {x} {y} h i j) s =
      let d = sum_moves y _ _ j s in
      let b = cmp_moves o _ _ i d.now in
      let a = sum_moves x _ _ h b.now in
      moved (join a.along (join b.along d.along)) (eg.IsComp.compared a.spelled b.spelled d.spelled)
  comp_moves _ t r (eg.IsComp.member {x} {y} h (g.At.at {t = c} e) j) s =
      let b = sum_moves y _ _ j s in
      let a = sum_moves x _ _ h (c ∷ b.now) in
      moved (join a.along (more b.along)) (eg.IsComp.member a.spelled (g.At.at e) b.spelled)

  pub neg_moves : Moves (IsNeg room deep) (IsNeg Free other)
  neg_moves _ t r (eg.IsNeg.negation {x} (g.Opens.opens o (g.At.at e)) h) s =
      let a = below.neg x _ _ h s in
      moved (more a.along) (eg.IsNeg.negation (g.Opens.opens tt (g.At.at e)) a.spelled)
  neg_moves _ t r (eg.IsNeg.comp {x} h) s = let a = comp_moves x _ _ h s in moved a.along (eg.IsNeg.comp a.spelled)

  pub disj_moves : Moves (IsDisj room deep) (IsDisj Free other)
  disj_moves = joined_moves m.Or _ (joined_moves m.And _ neg_moves)

  quant_moves : Moves (IsQuant room deep) (IsQuant Free other)
  quant_moves _ t r (eg.IsQuant.«some» {gs} {o = cond} (g.Opens.opens o (g.At.at e)) l k) s =
      let b = cond_moves below.expr cond _ _ k s in
      let a = gens_moves below.pattern gs _ _ l b.now in
      moved (more (join a.along b.along)) (eg.IsQuant.«some» (g.Opens.opens tt (g.At.at e)) a.spelled b.spelled)
  quant_moves _ t r (eg.IsQuant.each {gs} {o = cond} (g.Opens.opens o (g.At.at e)) l k) s =
      let b = cond_moves below.expr cond _ _ k s in
      let a = gens_moves below.pattern gs _ _ l b.now in
      moved (more (join a.along b.along)) (eg.IsQuant.each (g.Opens.opens tt (g.At.at e)) a.spelled b.spelled)

  pub expr_moves : Moves (IsExpr room deep) (IsExpr Free other)
  expr_moves _ t r (eg.IsExpr.quant {x} h) s = let a = quant_moves x _ _ h s in moved a.along (eg.IsExpr.quant a.spelled)
  expr_moves _ t r (eg.IsExpr.disj {x} h) s = let a = disj_moves x _ _ h s in moved a.along (eg.IsExpr.disj a.spelled)

  pub pattern_moves : Moves (IsPattern room deep) (IsPattern Free other)
  pattern_moves _ t r (eg.IsPattern.wild (g.At.at e)) s = moved (more here) (eg.IsPattern.wild (g.At.at e))
  pattern_moves _ t r (eg.IsPattern.name (g.Named.named e)) s = moved (more here) (eg.IsPattern.name (g.Named.named e))
  pattern_moves _ t r (eg.IsPattern.int (g.Number.number e is)) s = moved (more here) (eg.IsPattern.int (g.Number.number e is))
  pattern_moves _ t r (eg.IsPattern.negative (g.At.at e) (g.Number.number f is)) s = moved (more (more here)) (eg.IsPattern.negative (g.At.at e) (g.Number.number f is))
  pattern_moves _ t r (eg.IsPattern.text (g.Quoted.quoted e is)) s = moved (more here) (eg.IsPattern.text (g.Quoted.quoted e is))
  pattern_moves _ t r (eg.IsPattern.yes (g.At.at e)) s = moved (more here) (eg.IsPattern.yes (g.At.at e))
  pattern_moves _ t r (eg.IsPattern.no (g.At.at e)) s = moved (more here) (eg.IsPattern.no (g.At.at e))
  pattern_moves _ t r (eg.IsPattern.me (g.At.at e)) s = moved (more here) (eg.IsPattern.me (g.At.at e))
  pattern_moves _ t r (eg.IsPattern.equal {x} (g.At.at e) h) s = let a = unary_moves x _ _ h s in moved (more a.along) (eg.IsPattern.equal (g.At.at e) a.spelled)
  pattern_moves _ t r (eg.IsPattern.tuple {p} {ps} (g.Opens.opens o (g.At.at e)) h (g.At.at {t = c} i) l) s =
      let b = closed_moves below.pattern m.CloseParen ps _ _ l s in
      let a = below.pattern p _ _ h (c ∷ b.now) in
      moved (more (join a.along (more b.along))) (eg.IsPattern.tuple (g.Opens.opens tt (g.At.at e)) a.spelled (g.At.at i) b.spelled)

pub deep_moves : (room : ℕ → Room) (f d size e : ℕ) → f ≤ size → DeepMoves (deeper room f d) (deeper (λ d. Free) size e)
unfolding deeper
deep_moves room zero d size e few = record { expr = λ x t r h. absurd h; disj = λ x t r h. absurd h; neg = λ x t r h. absurd h; unary = λ x t r h. absurd h; pattern = λ x t r h. absurd h }
deep_moves room (suc f) d zero e few = absurd (omega (arith, few))
deep_moves room (suc f) d (suc size) e few =
    let below : DeepMoves (deeper room f (suc d)) (deeper (λ d. Free) size (suc e)) = deep_moves room f (suc d) size (suc e) (omega (arith, few)) in
    record {
      expr = expr_moves (room d) (deeper room f (suc d)) (deeper (λ d. Free) size (suc e)) below;
      disj = disj_moves (room d) (deeper room f (suc d)) (deeper (λ d. Free) size (suc e)) below;
      neg = neg_moves (room d) (deeper room f (suc d)) (deeper (λ d. Free) size (suc e)) below;
      unary = unary_moves (room d) (deeper room f (suc d)) (deeper (λ d. Free) size (suc e)) below;
      pattern = pattern_moves (room d) (deeper room f (suc d)) (deeper (λ d. Free) size (suc e)) below;
    }
