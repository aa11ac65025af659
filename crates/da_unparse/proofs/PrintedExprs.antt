-- What is printed of an expression or a pattern that some tokens spell is a part of a line.
use Rattle.std.proofs.Common.{◌≡◌, ℕ, zero, suc, pos, neg_ℤ, true, false, List, [], ◌∷◌, map, refl, sym, subst, arith}
use Rattle.std.specs.Option.{option_map}
use Rattle.da_values.specs.declared.token.Mark.TheVariants as m
use Rattle.da_values.specs.Marks.{Tok}
use Rattle.da_lang.specs.declared.tree.ArithOp.{ArithOp}
use Rattle.da_lang.specs.declared.tree.ArithOp.TheVariants as arith_op
use Rattle.da_lang.specs.declared.tree.ChainTree.{roll-ChainTree}
use Rattle.da_lang.specs.declared.tree.CmpOp.{CmpOp}
use Rattle.da_lang.specs.declared.tree.Expr.{Expr}
use Rattle.da_lang.specs.declared.tree.Expr.TheVariants as ex
use Rattle.da_lang.specs.declared.tree.GenTree.{GenTree}
use Rattle.da_lang.specs.declared.tree.PatternTree.{PatternTree}
use Rattle.da_lang.specs.Spelling.{Spelling, Room}
use Rattle.da_lang.specs.ExprGrammar.{Deeper, deeper, IsSource, IsPeer, IsGen, IsGens, IsCond, IsAtom, IsUnary, IsTimes, IsPlus, IsOthers, IsChain, IsProd, IsSum, IsCmp, IsComp, IsNeg, IsJoined, IsConj, IsDisj, IsQuant, IsExpr, IsPattern}
use Rattle.da_unparse.specs.Expressions.{Shown, either, both, negation, sum, signed, at_least, all_at_least, condition, source, peer, shown, pattern_pieces, peer_pieces, link_of, gen_pieces}
use Rattle.da_unparse.specs.Pieces.{Piece, joined, listed}
use Rattle.da_unparse.proofs.PrintedParts.{solid, operand, loose, Part, Optional, none, some, part, gap_part, join, next, as_solid, follow, joined_part, joined_optional, between_part, before_part, bracketed}
use Rattle.da_unparse.proofs.PrintedOperators.{IsOperand, ExprPart, cmp_part, name_part, truth_part, digits_part, negative_part, text_part, at_least_part, each_at_least, call_part, equal_part, IsLinked, link_part, chained_part}
use Rattle.da_unparse.proofs.PrintedSteps.{Spelt, Shows, past, past_open, name_shows, number_shows, text_shows, SomeHas, each_part, separated_shows, closed_shows, comma_part, tupled_part}
use Rattle.da_unparse.proofs.PrintedTypes.{same_part}
use Rattle.da_unparse.proofs.PrintedWords.{makes-Wild, makes-Received, makes-Sent, makes-From, makes-To, makes-In, makes-Bar, makes-Colon, makes-SelfWord, makes-LogicalTime, makes-Range, makes-Count, makes-Sum, makes-Min, makes-Max, makes-OpenBrace, makes-CloseBrace, makes-Not, makes-And, makes-Or, makes-Some, makes-Each}
use Rattle.da_unparse.proofs.ShownAt.{shown-Quant, shown-Or, shown-And, shown-Not, shown-Cmp, shown-Member, shown-Chain, shown-Int, shown-Text, shown-Truth, shown-Me, shown-Name, shown-Clock, shown-Range, shown-Tuple, shown-SetOf, shown-Comp, shown-Count, shown-Sum, shown-Min, shown-Max, pattern-Wild, pattern-Name, pattern-Int, pattern-Text, pattern-Truth, pattern-Me, pattern-Equal, pattern-Tuple, peer-From, peer-To, link_at, gen_at}

abbrev pub PatternPart : PatternTree → Type 0
PatternPart p = Part solid solid (pattern_pieces p)

abbrev pub GenPart : GenTree → Type 0
GenPart g = Part solid solid (gen_pieces g)

-- what stands one deeper is printed as parts
pub record DeepShows (deep : Deeper) : Type 0 where
  pub expr : Shows deep.expr ExprPart
  pub disj : Shows deep.disj ExprPart
  pub neg : Shows deep.neg ExprPart
  pub unary : Shows deep.unary ExprPart
  pub pattern : Shows deep.pattern PatternPart

-- what is printed so is an operand
same_operand : (x : Expr) {w : Shown} → shown x ≡ w → IsOperand w → ExprPart x
same_operand x e l = subst IsOperand (sym e) l

-- ---- generators and conditions

source_shows : Shows IsSource (λ x. Part solid solid (source x))
source_shows _ i r (IsSource.received h) s = (part solid solid makes-Received refl refl refl refl, past h s)
source_shows _ i r (IsSource.sent h) s = (part solid solid makes-Sent refl refl refl refl, past h s)
source_shows _ i r (IsSource.name h) s = let (named, t) = name_shows _ _ _ h s in (name_part solid named refl, t)

module _ (deep : Deeper) (d : DeepShows deep) where
  peer_shows : Shows (IsPeer deep.pattern) (λ o. Optional loose solid (peer (option_map peer_pieces o)))
  peer_shows _ i r IsPeer.no_peer s = (none, s)
  peer_shows _ i r (IsPeer.from {p} h a) s = let (l, t) = d.pattern _ _ _ a (past h s) in (some (same_part (peer-From p) (next (between_part makes-From refl refl) l)), t)
  peer_shows _ i r (IsPeer.to {p} h a) s = let (l, t) = d.pattern _ _ _ a (past h s) in (some (same_part (peer-To p) (next (between_part makes-To refl refl) l)), t)

  gen_shows : Shows (IsGen deep.pattern) GenPart
  gen_shows _ i r (IsGen.gen {p} {o} {x} a b h c) s =
      let (l, t) = d.pattern _ _ _ a s in
      let (others, u) = peer_shows _ _ _ b t in
      let (from, v) = source_shows _ _ _ c (past h u) in
      (same_part (gen_at p o x) (next (join (follow l others) (between_part makes-In refl refl)) from), v)

  gens_show : Shows (IsGens deep.pattern) (SomeHas GenPart)
  gens_show = separated_shows (IsGen deep.pattern) GenPart gen_shows m.Comma

  cond_shows : Shows (IsCond deep.expr) (λ o. Optional loose solid (condition (option_map shown o)))
  cond_shows _ i r IsCond.no_cond s = (none, s)
  cond_shows _ i r (IsCond.bar h a) s = let (l, t) = d.expr _ _ _ a (past h s) in (some (next (between_part makes-Bar refl refl) (as_solid l)), t)
  cond_shows _ i r (IsCond.has h a) s = let (l, t) = d.expr _ _ _ a (past h s) in (some (next (between_part makes-Bar refl refl) (as_solid l)), t)

-- one generator or more, with commas between
gens_part : (gs : List GenTree) → SomeHas GenPart gs → Part solid solid (listed (map gen_pieces gs))
gens_part [] h = absurd h
gens_part (g ∷ gs) h = joined_part comma_part h.0 (map gen_pieces gs) (each_part GenPart gen_pieces (λ y p. p) gs h.1)

-- ---- atoms

module _ (room : Room) (deep : Deeper) (d : DeepShows deep) where
  pub atom_shows : Shows (IsAtom room deep) ExprPart
  atom_shows _ i r (IsAtom.int {n} h) s = let (small, t) = number_shows _ _ _ h s in (same_operand _ (shown-Int (pos n)) (digits_part n small), t)
  atom_shows _ i r (IsAtom.text {b} h) s = let (plain, t) = text_shows _ _ _ h s in (same_operand _ (shown-Text b) (text_part b plain), t)
  atom_shows _ i r (IsAtom.yes h) s = (same_operand _ (shown-Truth true) (truth_part true), past h s)
  atom_shows _ i r (IsAtom.no h) s = (same_operand _ (shown-Truth false) (truth_part false), past h s)
  atom_shows _ i r (IsAtom.me h) s = (same_operand _ shown-Me (part operand solid makes-SelfWord refl refl refl refl), past h s)
  atom_shows _ i r (IsAtom.name {b} h) s = let (named, t) = name_shows _ _ _ h s in (same_operand _ (shown-Name b) (name_part operand named refl), t)
  atom_shows _ i r (IsAtom.clock h o c) s = (same_operand _ shown-Clock (call_part makes-LogicalTime refl refl refl [] tt), past c (past_open o (past h s)))
  atom_shows _ i r (IsAtom.range {x} {y} h o a c b e) s =
      let (l, t) = d.disj _ _ _ a (past_open o (past h s)) in
      let (k, u) = d.disj _ _ _ b (past c t) in
      (same_operand _ (shown-Range x y) (call_part makes-Range refl refl refl (x ∷ y ∷ []) (l, (k, tt))), past e u)
  atom_shows _ i r (IsAtom.group o a c) s = let (l, t) = d.expr _ _ _ a (past_open o s) in (l, past c t)
  atom_shows _ i r (IsAtom.tuple {x} {xs} o a h l) s =
      let (first, t) = d.disj _ _ _ a (past_open o s) in
      let (each, u) = closed_shows deep.disj ExprPart d.disj m.CloseParen xs _ _ l (past h t) in
      (same_operand _ (shown-Tuple (x ∷ xs)) (tupled_part (at_least either (shown x)) (all_at_least either (map shown xs)) (each_at_least either (x ∷ xs) (first, each))), u)
  atom_shows _ i r (IsAtom.set_of {xs} o l) s =
      let (each, u) = closed_shows deep.disj ExprPart d.disj m.CloseBrace xs _ _ l (past_open o s) in
      (same_operand _ (shown-SetOf xs) (bracketed operand solid makes-OpenBrace makes-CloseBrace refl refl refl refl refl refl refl (joined_optional comma_part _ (each_at_least either xs each))), u)
  atom_shows _ i r (IsAtom.comprehension {x} {gs} {o} op a h l c e) s =
      let (term, t) = d.disj _ _ _ a (past_open op s) in
      let (gens, u) = gens_show deep d gs _ _ l (past h t) in
      let (cond, v) = cond_shows deep d o _ _ c u in
      let inner = follow (join (join (as_solid (at_least_part either (shown x) term)) (part loose solid makes-Colon refl refl refl refl)) (next gap_part (gens_part gs gens))) cond in
      (same_operand _ (shown-Comp x gs o) (bracketed operand solid makes-OpenBrace makes-CloseBrace refl refl refl refl refl refl refl (some inner)), past e v)
  atom_shows _ i r (IsAtom.count {x} h o a c) s =
      let (l, t) = d.disj _ _ _ a (past_open o (past h s)) in
      (same_operand _ (shown-Count x) (call_part makes-Count refl refl refl (x ∷ []) (l, tt)), past c t)
  atom_shows _ i r (IsAtom.sum {x} h o a c) s =
      let (l, t) = d.disj _ _ _ a (past_open o (past h s)) in
      (same_operand _ (shown-Sum x) (call_part makes-Sum refl refl refl (x ∷ []) (l, tt)), past c t)
  atom_shows _ i r (IsAtom.min {x} {y} h o a c b e) s =
      let (l, t) = d.disj _ _ _ a (past_open o (past h s)) in
      let (k, u) = d.disj _ _ _ b (past c t) in
      (same_operand _ (shown-Min x y) (call_part makes-Min refl refl refl (x ∷ y ∷ []) (l, (k, tt))), past e u)
  atom_shows _ i r (IsAtom.max {x} {y} h o a c b e) s =
      let (l, t) = d.disj _ _ _ a (past_open o (past h s)) in
      let (k, u) = d.disj _ _ _ b (past c t) in
      (same_operand _ (shown-Max x y) (call_part makes-Max refl refl refl (x ∷ y ∷ []) (l, (k, tt))), past e u)

  -- ---- operators

  pub unary_shows : Shows (IsUnary room deep) ExprPart
  unary_shows x i r (IsUnary.atom a) s = atom_shows x i r a s
  unary_shows _ i r (IsUnary.negative {n} o h) s = let (small, t) = number_shows _ _ _ h (past_open o s) in (same_operand _ (shown-Int (neg_ℤ (pos n))) (negative_part n small), t)
  unary_shows _ i r (IsUnary.minus {x} o n a) s =
      let (l, t) = d.unary _ _ _ a (past_open o s) in
      let link = roll-ChainTree (record { op = arith_op.Minus; operand = x }) in
      let zero_first = same_operand (ex.Int (pos 0)) (shown-Int (pos 0)) (digits_part 0 (omega arith)) in
      let linked_so : IsLinked (link_of link ∷ []) = subst (λ k. IsLinked (k ∷ [])) (sym (link_at arith_op.Minus x)) (link_part arith_op.Minus (shown x) [] l (λ asked. none)) in
      (same_operand _ (shown-Chain (ex.Int (pos 0)) (link ∷ [])) (chained_part (shown (ex.Int (pos 0))) (link_of link ∷ []) zero_first linked_so), t)

-- what a sign passes
abbrev Passes : Spelling ArithOp → Type 0
Passes Sign = (o : ArithOp) (i r : List Tok) → Sign o i r → Spelt i → Spelt r

times_pass : Passes IsTimes
times_pass _ i r (IsTimes.times h) s = past h s
times_pass _ i r (IsTimes.div h) s = past h s
times_pass _ i r (IsTimes.rem h) s = past h s

plus_pass : Passes IsPlus
plus_pass _ i r (IsPlus.plus h) s = past h s
plus_pass _ i r (IsPlus.minus h) s = past h s

module _ (Sign : Spelling ArithOp) (Operand : Spelling Expr) (passes : Passes Sign) (shows : Shows Operand ExprPart) where
  others_show : Shows (IsOthers Sign Operand) (λ ps. IsLinked (map link_of ps))
  others_show _ i r IsOthers.no_other s = (λ asked. none, s)
  others_show _ i r (IsOthers.other {o} {x} {ps} h a l) s =
      let (operand_is, t) = shows _ _ _ a (passes _ _ _ h s) in
      let (more, u) = others_show _ _ _ l t in
      (subst (λ k. IsLinked (k ∷ map link_of ps)) (sym (link_at o x)) (link_part o (shown x) (map link_of ps) operand_is more), u)

  chain_shows : Shows (IsChain Sign Operand) ExprPart
  chain_shows x i r (IsChain.lone a) s = shows x i r a s
  chain_shows _ i r (IsChain.chain {x} {p} {ps} a l) s =
      let (first, t) = shows _ _ _ a s in
      let (more, u) = others_show (p ∷ ps) _ _ l t in
      (same_operand _ (shown-Chain x (p ∷ ps)) (chained_part (shown x) (map link_of (p ∷ ps)) first more), u)

cmp_pass : (o : CmpOp) (i r : List Tok) → IsCmp o i r → Spelt i → Spelt r
cmp_pass _ i r (IsCmp.eq h) s = past h s
cmp_pass _ i r (IsCmp.ne h) s = past h s
cmp_pass _ i r (IsCmp.lt h) s = past h s
cmp_pass _ i r (IsCmp.le h) s = past h s
cmp_pass _ i r (IsCmp.gt h) s = past h s
cmp_pass _ i r (IsCmp.ge h) s = past h s

-- operands with a word between them
joined_operands : (asked : ℕ) {separator : List Piece} → Part loose loose separator → (x : Expr) (xs : List Expr) → SomeHas ExprPart (x ∷ xs) → Part operand solid (joined separator (all_at_least asked (map shown (x ∷ xs))))
joined_operands asked between_them x xs h = joined_part between_them (at_least_part asked (shown x) h.0) (all_at_least asked (map shown xs)) (each_at_least asked xs h.1)

module _ (room : Room) (deep : Deeper) (d : DeepShows deep) where
  prod_shows : Shows (IsProd room deep) ExprPart
  prod_shows = chain_shows IsTimes (IsUnary room deep) times_pass (unary_shows room deep d)

  sum_shows : Shows (IsSum room deep) ExprPart
  sum_shows = chain_shows IsPlus (IsProd room deep) plus_pass prod_shows

  comp_shows : Shows (IsComp room deep) ExprPart
  comp_shows x i r (IsComp.lone a) s = sum_shows x i r a s
  comp_shows _ i r (IsComp.compared {o} {x} {y} a h b) s =
      let (l, t) = sum_shows _ _ _ a s in
      let (k, u) = sum_shows _ _ _ b (cmp_pass _ _ _ h t) in
      (same_operand _ (shown-Cmp o x y) (next (join (at_least_part sum (shown x) l) (cmp_part o)) (as_solid (at_least_part sum (shown y) k))), u)
  comp_shows _ i r (IsComp.member {x} {y} a h b) s =
      let (l, t) = sum_shows _ _ _ a s in
      let (k, u) = sum_shows _ _ _ b (past h t) in
      (same_operand _ (shown-Member x y) (next (join (at_least_part sum (shown x) l) (between_part makes-In refl refl)) (as_solid (at_least_part sum (shown y) k))), u)

  pub neg_shows : Shows (IsNeg room deep) ExprPart
  neg_shows _ i r (IsNeg.negation {x} o a) s =
      let (l, t) = d.neg _ _ _ a (past_open o s) in
      (same_operand _ (shown-Not x) (next (before_part makes-Not refl refl refl) (as_solid (at_least_part negation (shown x) l))), t)
  neg_shows x i r (IsNeg.comp a) s = comp_shows x i r a s

  conj_shows : Shows (IsConj room deep) ExprPart
  conj_shows x i r (IsJoined.lone a) s = neg_shows x i r a s
  conj_shows _ i r (IsJoined.joined {x} {y} {ys} l) s =
      let (each, t) = separated_shows (IsNeg room deep) ExprPart neg_shows m.And (x ∷ y ∷ ys) _ _ l s in
      (same_operand _ (shown-And (x ∷ y ∷ ys)) (joined_operands negation (between_part makes-And refl refl) x (y ∷ ys) each), t)

  pub disj_shows : Shows (IsDisj room deep) ExprPart
  disj_shows x i r (IsJoined.lone a) s = conj_shows x i r a s
  disj_shows _ i r (IsJoined.joined {x} {y} {ys} l) s =
      let (each, t) = separated_shows (IsConj room deep) ExprPart conj_shows m.Or (x ∷ y ∷ ys) _ _ l s in
      (same_operand _ (shown-Or (x ∷ y ∷ ys)) (joined_operands both (between_part makes-Or refl refl) x (y ∷ ys) each), t)

  pub expr_shows : Shows (IsExpr room deep) ExprPart
  expr_shows _ i r (IsExpr.quant (IsQuant.«some» {gs} {o} op l c)) s =
      let (gens, t) = gens_show deep d gs _ _ l (past_open op s) in
      let (cond, u) = cond_shows deep d o _ _ c t in
      (same_operand _ (shown-Quant false gs o) (follow (next (before_part makes-Some refl refl refl) (gens_part gs gens)) cond), u)
  expr_shows _ i r (IsExpr.quant (IsQuant.each {gs} {o} op l c)) s =
      let (gens, t) = gens_show deep d gs _ _ l (past_open op s) in
      let (cond, u) = cond_shows deep d o _ _ c t in
      (same_operand _ (shown-Quant true gs o) (follow (next (before_part makes-Each refl refl refl) (gens_part gs gens)) cond), u)
  expr_shows x i r (IsExpr.disj a) s = disj_shows x i r a s

  -- ---- patterns

  pub pattern_shows : Shows (IsPattern room deep) PatternPart
  pattern_shows _ i r (IsPattern.wild h) s = (same_part pattern-Wild (part solid solid makes-Wild refl refl refl refl), past h s)
  pattern_shows _ i r (IsPattern.name {b} h) s = let (named, t) = name_shows _ _ _ h s in (same_part (pattern-Name b) (name_part solid named refl), t)
  pattern_shows _ i r (IsPattern.int {n} h) s = let (small, t) = number_shows _ _ _ h s in (same_part (pattern-Int (pos n)) (as_solid (digits_part n small)), t)
  pattern_shows _ i r (IsPattern.negative {n} h a) s = let (small, t) = number_shows _ _ _ a (past h s) in (same_part (pattern-Int (neg_ℤ (pos n))) (as_solid (negative_part n small)), t)
  pattern_shows _ i r (IsPattern.text {b} h) s = let (plain, t) = text_shows _ _ _ h s in (same_part (pattern-Text b) (as_solid (text_part b plain)), t)
  pattern_shows _ i r (IsPattern.yes h) s = (same_part (pattern-Truth true) (as_solid (truth_part true)), past h s)
  pattern_shows _ i r (IsPattern.no h) s = (same_part (pattern-Truth false) (as_solid (truth_part false)), past h s)
  pattern_shows _ i r (IsPattern.me h) s = (same_part pattern-Me (part solid solid makes-SelfWord refl refl refl refl), past h s)
  pattern_shows _ i r (IsPattern.equal {x} h a) s = let (l, t) = unary_shows room deep d _ _ _ a (past h s) in (same_part (pattern-Equal x) (equal_part (at_least_part signed (shown x) l)), t)
  pattern_shows _ i r (IsPattern.tuple {p} {ps} o a h l) s =
      let (first, t) = d.pattern _ _ _ a (past_open o s) in
      let (each, u) = closed_shows deep.pattern PatternPart d.pattern m.CloseParen ps _ _ l (past h t) in
      (same_part (pattern-Tuple (p ∷ ps)) (as_solid (tupled_part (pattern_pieces p) (map pattern_pieces ps) (first, each_part PatternPart pattern_pieces (λ y q. q) ps each))), u)

-- ---- any number of things that are open

pub deeper_shows : (room : ℕ → Room) (f d : ℕ) → DeepShows (deeper room f d)
unfolding deeper
deeper_shows room zero d = record { expr = λ x i r h s. absurd h; disj = λ x i r h s. absurd h; neg = λ x i r h s. absurd h; unary = λ x i r h s. absurd h; pattern = λ x i r h s. absurd h }
deeper_shows room (suc f) d =
    let inner = deeper_shows room f (suc d) in
    record {
      expr = expr_shows (room d) (deeper room f (suc d)) inner;
      disj = disj_shows (room d) (deeper room f (suc d)) inner;
      neg = neg_shows (room d) (deeper room f (suc d)) inner;
      unary = unary_shows (room d) (deeper room f (suc d)) inner;
      pattern = pattern_shows (room d) (deeper room f (suc d)) inner;
    }
