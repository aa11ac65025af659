-- Signs, chains, comparisons, words between, quantifications and patterns: what is read is spelled so.
use Rattle.std.proofs.Common.{◌≡◌, Bool, true, false, List, [], ◌∷◌, Option, Some, None, Ok, refl, sym, subst, inl, inr}
use Rattle.da_values.specs.declared.token.Mark.{Mark}
use Rattle.da_values.specs.declared.token.Mark.TheVariants as m
use Rattle.da_values.specs.Marks.{Tok}
use Rattle.da_lang.specs.declared.tree.ArithOp.{ArithOp}
use Rattle.da_lang.specs.declared.tree.ChainTree.{ChainTree}
use Rattle.da_lang.specs.declared.tree.CmpOp.{CmpOp}
use Rattle.da_lang.specs.declared.tree.Expr.{Expr}
use Rattle.da_lang.specs.declared.tree.Expr.TheVariants as ex
use Rattle.da_lang.specs.declared.tree.GenTree.{GenTree}
use Rattle.da_lang.specs.declared.tree.PatternTree.{PatternTree}
use Rattle.da_lang.specs.declared.tree.PatternTree.TheVariants as pat
use Rattle.da_lang.specs.Spelling as spelling
use Rattle.da_lang.specs.Spelling.{Spelling, Room, At, Opens, Separated}
use Rattle.da_lang.specs.ExprGrammar as g
use Rattle.da_lang.specs.ExprGrammar.{Deeper, IsUnary, IsTimes, IsPlus, IsOthers, IsChain, IsProd, IsSum, IsCmp, IsComp, IsNeg, IsJoined, IsConj, IsDisj, IsGens, IsCond, IsQuant, IsExpr, IsPattern}
use Rattle.da_phrases.specs.declared.place.Level.TheVariants as level
use Rattle.da_phrases.specs.Reader.{mark, rest, sees, Reader}
use Rattle.da_phrases.specs.Lists.{separated, closed, others}
use Rattle.da_phrases.specs.Place.{Place}
use Rattle.da_phrases.specs.Exprs.{times_op, plus_op, cmp_op_at, quantifier, chained, joined, constant, generators, condition, after_minus, unary, product, sum, compared_by, comparison, negation, conjunction, disjunction, quantification, expression_by, expression, tuple_pattern, pattern_by, pattern}
use Rattle.da_phrases.proofs.Steps.{chosen, At-sees, At-mark, Named-mark, NotAt-sees}
use Rattle.da_phrases.proofs.Laws.{IsSound, Sounds}
use Rattle.da_phrases.proofs.SoundSteps.{reads, made, passes, passes_or, numbers, quotes, opened_by}
use Rattle.da_phrases.proofs.ListSound.{separated-sound, closed-sound, others-sound}
use Rattle.da_phrases.proofs.SoundExprs.{Shaped, generators-sound, condition-sound, atom-sound}

-- ---- signs

times_by : (k : Option Mark) (i : List Tok) (op : ArithOp) → mark i ≡ k → times_op k ≡ Some op → IsTimes op i (rest i)
times_by (Some m.Star) i op is e = subst (λ o. IsTimes o i (rest i)) (cc) (g.times (At-mark m.Star i is))
times_by (Some m.Slashes) i op is e = subst (λ o. IsTimes o i (rest i)) (cc) (g.div (At-mark m.Slashes i is))
times_by (Some m.Percent) i op is e = subst (λ o. IsTimes o i (rest i)) (cc) (g.rem (At-mark m.Percent i is))
times_by _ i op is e = cc

pub times-sound : (i : List Tok) (op : ArithOp) → times_op (mark i) ≡ Some op → IsTimes op i (rest i)
times-sound i op e = times_by (mark i) i op refl e

plus_by : (k : Option Mark) (i : List Tok) (op : ArithOp) → mark i ≡ k → plus_op k ≡ Some op → IsPlus op i (rest i)
plus_by (Some m.Plus) i op is e = subst (λ o. IsPlus o i (rest i)) (cc) (g.plus (At-mark m.Plus i is))
plus_by (Some m.Minus) i op is e = subst (λ o. IsPlus o i (rest i)) (cc) (g.IsPlus.minus (At-mark m.Minus i is))
plus_by _ i op is e = cc

pub plus-sound : (i : List Tok) (op : ArithOp) → plus_op (mark i) ≡ Some op → IsPlus op i (rest i)
plus-sound i op e = plus_by (mark i) i op refl e

cmp_by : (k : Option Mark) (i : List Tok) (op : CmpOp) → mark i ≡ k → cmp_op_at k ≡ Some op → IsCmp op i (rest i)
cmp_by (Some m.Equal) i op is e = subst (λ o. IsCmp o i (rest i)) (cc) (g.eq (At-mark m.Equal i is))
cmp_by (Some m.NotEqual) i op is e = subst (λ o. IsCmp o i (rest i)) (cc) (g.ne (At-mark m.NotEqual i is))
cmp_by (Some m.Less) i op is e = subst (λ o. IsCmp o i (rest i)) (cc) (g.lt (At-mark m.Less i is))
cmp_by (Some m.LessEqual) i op is e = subst (λ o. IsCmp o i (rest i)) (cc) (g.le (At-mark m.LessEqual i is))
cmp_by (Some m.Greater) i op is e = subst (λ o. IsCmp o i (rest i)) (cc) (g.gt (At-mark m.Greater i is))
cmp_by (Some m.GreaterEqual) i op is e = subst (λ o. IsCmp o i (rest i)) (cc) (g.ge (At-mark m.GreaterEqual i is))
cmp_by _ i op is e = cc

pub cmp-sound : (i : List Tok) (op : CmpOp) → cmp_op_at (mark i) ≡ Some op → IsCmp op i (rest i)
cmp-sound i op e = cmp_by (mark i) i op refl e

-- the word of a quantification
abbrev pub quantifying : Bool → Mark
quantifying false = m.Some
quantifying true = m.Each

pub quantifier_is : (k : Option Mark) (each : Bool) → quantifier k ≡ Some each → k ≡ Some (quantifying each)
quantifier_is (Some m.Some) false e = refl
quantifier_is (Some m.Some) true e = cc
quantifier_is (Some m.Each) true e = refl
quantifier_is (Some m.Each) false e = cc
quantifier_is _ each e = cc

-- ---- chains, and words between

pub chained-sound : {Sign : Spelling ArithOp} {Operand : Spelling Expr} (x : Expr) (ps : List ChainTree) {t r s : List Tok} → Operand x t r → IsOthers Sign Operand ps r s → IsChain Sign Operand (chained x ps) t s
chained-sound x [] a g.no_other = g.IsChain.lone a
chained-sound x (p ∷ ps) a b = g.chain a b

joined_more : {k : Mark} {join : List Expr → Expr} {Operand : Spelling Expr} (x : Expr) (xs : List Expr) {t r s q : List Tok} → Operand x t r → At k r s → Separated k Operand xs s q → IsJoined k join Operand (join (x ∷ xs)) t q
joined_more x [] a h later = elim later [ ]
joined_more x (y ∷ ys) a h later = g.joined (spelling.more a h later)

pub joined-sound : (k : Mark) (join : List Expr → Expr) (operand : Reader Expr) (Operand : Spelling Expr) (sound : IsSound operand Operand) → IsSound (joined k join operand) (IsJoined k join Operand)
unfolding joined
joined-sound k join operand Operand sound i y e =
    reads (operand i) _ y e (λ x r read e1.
    let first = sound i (x, r) read in
    passes_or k _ _ r y e1
    (λ q word e2. reads (separated k operand (x ∷ []) q) _ y e2 (λ all z others last.
    let (xs, is, spelled) = separated-sound k operand Operand sound (x ∷ []) q (all, z) others in
    made (IsJoined k join Operand) i y last (subst (λ l. IsJoined k join Operand (join l) i z) (sym is) (joined_more x xs first word spelled))))
    (λ no last. made (IsJoined k join Operand) i y last (g.IsJoined.lone first)))

quantified : {room : Room} {deep : Deeper} (each : Bool) {gs : List GenTree} {o : Option Expr} {t r q z : List Tok} → Opens (quantifying each) room t r → IsGens deep.pattern gs r q → IsCond deep.expr o q z → IsQuant room deep (ex.Quant each gs o) t z
quantified false opened gens cond = g.«some» opened gens cond
quantified true opened gens cond = g.IsQuant.each opened gens cond

module _ (p : Place) (room : Room) (deep : Deeper) (s : Sounds p room deep) (shaped : Shaped deep) where
  -- after a `-` of an expression: before an integer it is the sign of a literal
  after_minus-sound : (t i : List Tok) (y : Expr × List Tok) → Opens m.Minus room t i → after_minus p i ≡ Ok y → IsUnary room deep y.0 t y.1
  unfolding after_minus
  after_minus-sound t i y opened e = elim (chosen (sees m.Number i) _ _ i y e) [
    | inl h ↦ numbers i _ y h.1 (λ n r number last. made (IsUnary room deep) t y last (g.IsUnary.negative opened number))
    | inr h ↦ reads (p.expr level.Unary i) _ y h.1 (λ x r read last.
        let operand = s.unary i (x, r) read in
        let (next, others, is) = shaped.starts x i r operand in
        made (IsUnary room deep) t y last (g.IsUnary.minus opened (NotAt-sees m.Number i next others is h.0) operand))
  ]

  pub unary-sound : IsSound (unary p) (IsUnary room deep)
  unfolding unary
  unary-sound i y e = elim (chosen (sees m.Minus i) _ _ i y e) [
    | inl h ↦ opened_by p.may_open room s.fits m.Minus i _ y (At-sees m.Minus i h.0) h.1 (λ r opened next. after_minus-sound i r y opened next)
    | inr h ↦ g.IsUnary.atom (atom-sound p room deep s shaped i y h.1)
  ]

  pub product-sound : IsSound (product p) (IsProd room deep)
  unfolding product
  product-sound i y e =
      reads (unary p i) _ y e (λ x r read e1.
      reads (others times_op (unary p) r) _ y e1 (λ ps q more last.
      made (IsProd room deep) i y last (chained-sound x ps (unary-sound i (x, r) read) (others-sound times_op IsTimes times-sound (unary p) (IsUnary room deep) unary-sound r (ps, q) more))))

  pub sum-sound : IsSound (sum p) (IsSum room deep)
  unfolding sum
  sum-sound i y e =
      reads (product p i) _ y e (λ x r read e1.
      reads (others plus_op (product p) r) _ y e1 (λ ps q more last.
      made (IsSum room deep) i y last (chained-sound x ps (product-sound i (x, r) read) (others-sound plus_op IsPlus plus-sound (product p) (IsProd room deep) product-sound r (ps, q) more))))

  compared_by-sound : (o : Option CmpOp) (x : Expr) (t i : List Tok) (y : Expr × List Tok) → cmp_op_at (mark i) ≡ o → IsSum room deep x t i → compared_by p x o i ≡ Ok y → IsComp room deep y.0 t y.1
  compared_by-sound (Some op) x t i y is left e = reads (sum p (rest i)) _ y e (λ z r read last.
      made (IsComp room deep) t y last (g.compared left (cmp-sound i op is) (sum-sound (rest i) (z, r) read)))
  compared_by-sound None x t i y is left e = made (IsComp room deep) t y e (g.IsComp.lone left)

  pub comparison-sound : IsSound (comparison p) (IsComp room deep)
  unfolding comparison
  comparison-sound i y e =
      reads (sum p i) _ y e (λ x r read e1.
      let left = sum-sound i (x, r) read in
      passes_or m.In _ _ r y e1
      (λ q word e2. reads (sum p q) _ y e2 (λ z a right last. made (IsComp room deep) i y last (g.member left word (sum-sound q (z, a) right))))
      (λ no e2. compared_by-sound (cmp_op_at (mark r)) x i r y refl left e2))

  pub negation-sound : IsSound (negation p) (IsNeg room deep)
  unfolding negation
  negation-sound i y e = elim (chosen (sees m.Not i) _ _ i y e) [
    | inl h ↦ opened_by p.may_open room s.fits m.Not i _ y (At-sees m.Not i h.0) h.1 (λ r opened e1.
        reads (p.expr level.Neg r) _ y e1 (λ x q read last. made (IsNeg room deep) i y last (g.negation opened (s.neg r (x, q) read))))
    | inr h ↦ g.comp (comparison-sound i y h.1)
  ]

  pub conjunction-sound : IsSound (conjunction p) (IsConj room deep)
  unfolding conjunction
  conjunction-sound = joined-sound m.And ex.And (negation p) (IsNeg room deep) negation-sound

  pub disjunction-sound : IsSound (disjunction p) (IsDisj room deep)
  unfolding disjunction
  disjunction-sound = joined-sound m.Or ex.Or (conjunction p) (IsConj room deep) conjunction-sound

  pub quantification-sound : (each : Bool) (i : List Tok) (y : Expr × List Tok) → mark i ≡ Some (quantifying each) → quantification p each i ≡ Ok y → IsQuant room deep y.0 i y.1
  unfolding quantification
  quantification-sound each i y is e =
      opened_by p.may_open room s.fits (quantifying each) i _ y (At-mark (quantifying each) i is) e (λ r opened e1.
      reads (generators p r) _ y e1 (λ gens q read e2.
      reads (condition p q) _ y e2 (λ cond z asked last.
      made (IsQuant room deep) i y last (quantified each opened (generators-sound p room deep s r (gens, q) read) (condition-sound p room deep s q (cond, z) asked)))))

  expression_by-sound : (quantified : Option Bool) (i : List Tok) (y : Expr × List Tok) → quantifier (mark i) ≡ quantified → expression_by p quantified i ≡ Ok y → IsExpr room deep y.0 i y.1
  expression_by-sound (Some each) i y is e = g.quant (quantification-sound each i y (quantifier_is (mark i) each is) e)
  expression_by-sound None i y is e = g.IsExpr.disj (disjunction-sound i y e)

  pub expression-sound : IsSound (expression p) (IsExpr room deep)
  unfolding expression
  expression-sound i y e = expression_by-sound (quantifier (mark i)) i y refl e

  -- ---- patterns

  -- after `(`
  tuple_pattern-sound : (t i : List Tok) (y : PatternTree × List Tok) → Opens m.OpenParen room t i → tuple_pattern p i ≡ Ok y → IsPattern room deep y.0 t y.1
  unfolding tuple_pattern
  tuple_pattern-sound t i y opened e =
      reads (p.pattern i) _ y e (λ x r read e1.
      passes m.Comma r _ y e1 (λ q comma e2.
      reads (closed m.CloseParen p.pattern (x ∷ []) q) _ y e2 (λ all z others last.
      let (xs, is, spelled) = closed-sound m.CloseParen p.pattern deep.pattern s.pattern (x ∷ []) q (all, z) others in
      made (IsPattern room deep) t y last (subst (λ l. IsPattern room deep (pat.Tuple l) t z) (sym is) (g.IsPattern.tuple opened (s.pattern i (x, r) read) comma spelled)))))

  constant-sound : (k : Mark) (i : List Tok) (y : PatternTree × List Tok) → mark i ≡ Some k → constant k i ≡ Ok y → IsPattern room deep y.0 i y.1
  constant-sound m.Wild i y is e = made (IsPattern room deep) i y e (g.wild (At-mark m.Wild i is))
  constant-sound m.Minus i y is e = numbers (rest i) _ y e (λ n r number last. made (IsPattern room deep) i y last (g.IsPattern.negative (At-mark m.Minus i is) number))
  constant-sound m.True i y is e = made (IsPattern room deep) i y e (g.IsPattern.yes (At-mark m.True i is))
  constant-sound m.False i y is e = made (IsPattern room deep) i y e (g.IsPattern.no (At-mark m.False i is))
  constant-sound m.SelfWord i y is e = made (IsPattern room deep) i y e (g.IsPattern.me (At-mark m.SelfWord i is))
  constant-sound _ i y is e = cc

  pattern_by-sound : (k : Option Mark) (i : List Tok) (y : PatternTree × List Tok) → mark i ≡ k → pattern_by p k i ≡ Ok y → IsPattern room deep y.0 i y.1
  pattern_by-sound (Some m.Name) i y is e = made (IsPattern room deep) i y e (g.IsPattern.name (Named-mark i is))
  pattern_by-sound (Some m.Number) i y is e = numbers i _ y e (λ n r h last. made (IsPattern room deep) i y last (g.IsPattern.int h))
  pattern_by-sound (Some m.Quoted) i y is e = quotes i _ y e (λ b r h last. made (IsPattern room deep) i y last (g.IsPattern.text h))
  pattern_by-sound (Some m.OpenParen) i y is e = opened_by p.may_open room s.fits m.OpenParen i _ y (At-mark m.OpenParen i is) e (λ r opened next. tuple_pattern-sound i r y opened next)
  pattern_by-sound (Some m.Assign) i y is e = reads (unary p (rest i)) _ y e (λ x r read last. made (IsPattern room deep) i y last (g.equal (At-mark m.Assign i is) (unary-sound (rest i) (x, r) read)))
  pattern_by-sound (Some k) i y is e = constant-sound k i y is e
  pattern_by-sound None i y is e = cc

  pub pattern-sound : IsSound (pattern p) (IsPattern room deep)
  unfolding pattern
  pattern-sound i y e = pattern_by-sound (mark i) i y refl e
