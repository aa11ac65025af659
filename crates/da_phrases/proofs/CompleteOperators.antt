-- A product, a sum, a comparison, a negation, a conjunction, a disjunction or an expression that is spelled by the grammar is read, where what follows does not go on with it, if what stands one deeper is.
use Rattle.std.proofs.Common.{◌≡◌, Bool, true, false, List, [], ◌∷◌, Option, Some, None, Ok, refl, ap, ◌∙◌}
use Rattle.da_values.specs.declared.token.Mark.{Mark}
use Rattle.da_values.specs.declared.token.Mark.TheVariants as m
use Rattle.da_values.specs.Marks.{Tok}
use Rattle.da_lang.specs.declared.tree.ArithOp.{ArithOp}
use Rattle.da_lang.specs.declared.tree.CmpOp.{CmpOp}
use Rattle.da_lang.specs.declared.tree.Expr.{Expr}
use Rattle.da_lang.specs.declared.tree.Expr.TheVariants as ex
use Rattle.da_lang.specs.declared.tree.GenTree.{GenTree}
use Rattle.da_lang.specs.Spelling.{Spelling, Room, At, Opens, Separated}
use Rattle.da_lang.specs.ExprGrammar.{Deeper, IsTimes, IsPlus, IsOthers, IsChain, IsProd, IsSum, IsCmp, IsComp, IsNeg, IsJoined, IsConj, IsDisj, IsGens, IsCond, IsQuant, IsExpr}
use Rattle.da_phrases.specs.Reader.{Reading, Reader, pure, mark, rest, sees, ◌>>=◌}
use Rattle.da_phrases.specs.Lists.{others}
use Rattle.da_phrases.specs.Place.{Place}
use Rattle.da_phrases.specs.Exprs.{times_op, plus_op, cmp_op_at, quantifier, chained, joined, product, sum, comparison, negation, conjunction, disjunction, quantification, expression_by, expression}
use Rattle.da_phrases.proofs.Laws.{IsComplete, Shrinks, Anything, Lacks, is_next, Completes, goes_on_prod, goes_on_sum, goes_on_comp, goes_on_conj, goes_on_disj, goes_on_expr}
use Rattle.da_phrases.proofs.Steps.{mark-At, sees-At, rest-At, behind_is, after_not, not_seen, mark-Opens, At-Opens, room-Opens, opens_is}
use Rattle.da_phrases.proofs.Shorter.{Shrinking, IsTimes-shrinks, IsPlus-shrinks, IsUnary-shrinks, IsProd-shrinks, IsNeg-shrinks, IsConj-shrinks}
use Rattle.da_phrases.proofs.Firsts.{Beginning, begins_sum, never_seen, lacked, fewer, next-At, not_quantified, IsComp-begins, IsDisj-begins}
use Rattle.da_phrases.proofs.ListComplete.{separated-complete, others-complete, IsOthers-stops}
use Rattle.da_phrases.proofs.CompleteExprs.{unary-complete, generators-complete, condition-complete, IsCond-ends}

-- ---- what does not go on

sum_prod : (k : Mark) → goes_on_sum k ≡ false → goes_on_prod k ≡ false
sum_prod m.Plus h = refl
sum_prod m.Minus h = refl
sum_prod _ h = h

comp_sum : (k : Mark) → goes_on_comp k ≡ false → goes_on_sum k ≡ false
comp_sum m.Equal h = refl
comp_sum m.NotEqual h = refl
comp_sum m.Less h = refl
comp_sum m.LessEqual h = refl
comp_sum m.Greater h = refl
comp_sum m.GreaterEqual h = refl
comp_sum m.In h = refl
comp_sum _ h = h

conj_comp : (k : Mark) → goes_on_conj k ≡ false → goes_on_comp k ≡ false
conj_comp m.And h = refl
conj_comp _ h = h

disj_conj : (k : Mark) → goes_on_disj k ≡ false → goes_on_conj k ≡ false
disj_conj m.Or h = refl
disj_conj _ h = h

expr_disj : (k : Mark) → goes_on_expr k ≡ false → goes_on_disj k ≡ false
expr_disj m.Comma h = refl
expr_disj m.Bar h = refl
expr_disj m.Has h = refl
expr_disj _ h = h

pub lacks_prod : (r : List Tok) → Lacks goes_on_sum r → Lacks goes_on_prod r
lacks_prod = fewer goes_on_sum goes_on_prod sum_prod

pub lacks_sum : (r : List Tok) → Lacks goes_on_comp r → Lacks goes_on_sum r
lacks_sum = fewer goes_on_comp goes_on_sum comp_sum

pub lacks_comp : (r : List Tok) → Lacks goes_on_conj r → Lacks goes_on_comp r
lacks_comp = fewer goes_on_conj goes_on_comp conj_comp

pub lacks_conj : (r : List Tok) → Lacks goes_on_disj r → Lacks goes_on_conj r
lacks_conj = fewer goes_on_disj goes_on_conj disj_conj

pub lacks_disj : (r : List Tok) → Lacks goes_on_expr r → Lacks goes_on_disj r
lacks_disj = fewer goes_on_expr goes_on_disj expr_disj

no_times : (k : Option Mark) → is_next goes_on_prod k ≡ false → times_op k ≡ None
no_times None h = refl
no_times (Some m.Star) h = cc
no_times (Some m.Slashes) h = cc
no_times (Some m.Percent) h = cc
no_times (Some _) h = refl

no_plus : (k : Option Mark) → is_next goes_on_sum k ≡ false → plus_op k ≡ None
no_plus None h = refl
no_plus (Some m.Plus) h = cc
no_plus (Some m.Minus) h = cc
no_plus (Some _) h = refl

no_cmp : (k : Option Mark) → is_next goes_on_comp k ≡ false → cmp_op_at k ≡ None
no_cmp None h = refl
no_cmp (Some m.Equal) h = cc
no_cmp (Some m.NotEqual) h = cc
no_cmp (Some m.Less) h = cc
no_cmp (Some m.LessEqual) h = cc
no_cmp (Some m.Greater) h = cc
no_cmp (Some m.GreaterEqual) h = cc
no_cmp (Some _) h = refl

-- ---- signs

times_is : (o : ArithOp) (i r : List Tok) → IsTimes o i r → (times_op (mark i) ≡ Some o) × (rest i ≡ r) × Anything i
times_is _ i r (IsTimes.times h) = (ap times_op (mark-At h), rest-At h, tt)
times_is _ i r (IsTimes.div h) = (ap times_op (mark-At h), rest-At h, tt)
times_is _ i r (IsTimes.rem h) = (ap times_op (mark-At h), rest-At h, tt)

plus_is : (o : ArithOp) (i r : List Tok) → IsPlus o i r → (plus_op (mark i) ≡ Some o) × (rest i ≡ r) × Lacks goes_on_prod i
plus_is _ i r (IsPlus.plus h) = (ap plus_op (mark-At h), rest-At h, next-At goes_on_prod h)
plus_is _ i r (IsPlus.minus h) = (ap plus_op (mark-At h), rest-At h, next-At goes_on_prod h)

-- the sign of a comparison, which is no `in`, and does not go on with a sum
cmp_is : {o : CmpOp} {i r : List Tok} → IsCmp o i r → (cmp_op_at (mark i) ≡ Some o) × (rest i ≡ r) × Lacks goes_on_sum i × (sees m.In i ≡ false)
cmp_is (IsCmp.eq h) = (ap cmp_op_at (mark-At h), rest-At h, next-At goes_on_sum h, not_seen m.In h refl)
cmp_is (IsCmp.ne h) = (ap cmp_op_at (mark-At h), rest-At h, next-At goes_on_sum h, not_seen m.In h refl)
cmp_is (IsCmp.lt h) = (ap cmp_op_at (mark-At h), rest-At h, next-At goes_on_sum h, not_seen m.In h refl)
cmp_is (IsCmp.le h) = (ap cmp_op_at (mark-At h), rest-At h, next-At goes_on_sum h, not_seen m.In h refl)
cmp_is (IsCmp.gt h) = (ap cmp_op_at (mark-At h), rest-At h, next-At goes_on_sum h, not_seen m.In h refl)
cmp_is (IsCmp.ge h) = (ap cmp_op_at (mark-At h), rest-At h, next-At goes_on_sum h, not_seen m.In h refl)

-- ---- chains, and operands with a word between

chain-complete : {Stops : List Tok → Type 0} {operand : Reader Expr} {Operand : Spelling Expr} (complete : IsComplete Stops operand Operand) (shrinks : Shrinks Operand)
    (sign : Option Mark → Option ArithOp) (Sign : Spelling ArithOp) (signs : Shrinks Sign) (reads : (o : ArithOp) (i r : List Tok) → Sign o i r → (sign (mark i) ≡ Some o) × (rest i ≡ r) × Stops i)
    (x : Expr) (i r : List Tok) → IsChain Sign Operand x i r → Stops r → sign (mark r) ≡ None → (operand >>= λ y. others sign operand >>= λ ps. pure (chained y ps)) i ≡ Ok (x, r)
chain-complete complete shrinks sign Sign signs reads x i r (IsChain.lone a) s n =
    rw (complete _ _ _ a s, others-complete complete shrinks sign Sign signs reads [] r r IsOthers.no_other s n) refl
chain-complete complete shrinks sign Sign signs reads _ i r (IsChain.chain {x} {p} {ps} a l) s n =
    rw (complete _ _ _ a (IsOthers-stops complete shrinks sign Sign signs reads (p ∷ ps) _ r l s), others-complete complete shrinks sign Sign signs reads (p ∷ ps) _ r l s n) refl

joined-complete : {Stops : List Tok → Type 0} {operand : Reader Expr} {Operand : Spelling Expr} (complete : IsComplete Stops operand Operand) (shrinks : Shrinks Operand)
    (k : Mark) (join : List Expr → Expr) (between : (i r : List Tok) → At k i r → Stops i)
    (x : Expr) (i r : List Tok) → IsJoined k join Operand x i r → Stops r → sees k r ≡ false → joined k join operand i ≡ Ok (x, r)
unfolding joined
joined-complete complete shrinks k join between x i r (IsJoined.lone a) s n = rw (complete _ _ _ a s) (after_not k _ _ n)
joined-complete complete shrinks k join between _ i r (IsJoined.joined (Separated.more {x} {xs} a h l)) s n =
    rw (complete _ _ _ a (between _ _ h)) (behind_is _ _ h ∙ rw (separated-complete complete shrinks k between (x ∷ []) xs _ r l s n) refl)

module _ (p : Place) (room : Room) (deep : Deeper) (shrinking : Shrinking deep) (beginning : Beginning deep) (c : Completes p room deep) where
  pub product-complete : IsComplete (Lacks goes_on_prod) (product p) (IsProd room deep)
  unfolding product
  product-complete x i r h s =
      chain-complete (unary-complete p room deep shrinking beginning c) (IsUnary-shrinks room deep shrinking) times_op IsTimes IsTimes-shrinks times_is x i r h tt (no_times (mark r) s)

  pub sum-complete : IsComplete (Lacks goes_on_sum) (sum p) (IsSum room deep)
  unfolding sum
  sum-complete x i r h s =
      chain-complete product-complete (IsProd-shrinks room deep shrinking) plus_op IsPlus IsPlus-shrinks plus_is x i r h (lacks_prod r s) (no_plus (mark r) s)

  pub comparison-complete : IsComplete (Lacks goes_on_comp) (comparison p) (IsComp room deep)
  unfolding comparison
  comparison-complete x i r (IsComp.lone a) s =
      rw (sum-complete x i r a (lacks_sum r s)) (after_not m.In _ _ (lacked goes_on_comp m.In r refl s) ∙ rw (no_cmp (mark r) s) refl)
  comparison-complete _ i r (IsComp.compared a h b) s =
      let (is, passed, ends, no_member) = cmp_is h in
      rw (sum-complete _ _ _ a ends) (after_not m.In _ _ no_member ∙ rw (is, passed, sum-complete _ _ _ b (lacks_sum r s)) refl)
  comparison-complete _ i r (IsComp.member a h b) s =
      rw (sum-complete _ _ _ a (next-At goes_on_sum h)) (behind_is _ _ h ∙ rw (sum-complete _ _ _ b (lacks_sum r s)) refl)

  pub negation-complete : IsComplete (Lacks goes_on_comp) (negation p) (IsNeg room deep)
  unfolding negation
  negation-complete _ i r (IsNeg.negation o a) s = rw (sees-At (At-Opens o), opens_is p.may_open c.allows o, c.neg _ (room-Opens o) _ _ _ a s) refl
  negation-complete x i r (IsNeg.comp a) s = rw (never_seen begins_sum m.Not i refl (IsComp-begins room deep x i r a)) (comparison-complete x i r a s)

  pub conjunction-complete : IsComplete (Lacks goes_on_conj) (conjunction p) (IsConj room deep)
  unfolding conjunction
  conjunction-complete x i r h s =
      joined-complete negation-complete (IsNeg-shrinks room deep shrinking) m.And ex.And (λ j q e. next-At goes_on_comp e) x i r h (lacks_comp r s) (lacked goes_on_conj m.And r refl s)

  pub disjunction-complete : IsComplete (Lacks goes_on_disj) (disjunction p) (IsDisj room deep)
  unfolding disjunction
  disjunction-complete x i r h s =
      joined-complete conjunction-complete (IsConj-shrinks room deep shrinking) m.Or ex.Or (λ j q e. next-At goes_on_conj e) x i r h (lacks_conj r s) (lacked goes_on_disj m.Or r refl s)

  -- the reader takes what opens a quantification for granted
  quantification-complete : (each : Bool) {k : Mark} {gs : List GenTree} {o : Option Expr} {i r s q : List Tok} → Opens k room i r → IsGens deep.pattern gs r s → IsCond deep.expr o s q → Lacks goes_on_expr q
      → quantification p each i ≡ Ok (ex.Quant each gs o, q)
  unfolding quantification
  quantification-complete each {gs = gs} {o = o} b l d s =
      rw (opens_is p.may_open c.allows b, generators-complete p room deep shrinking beginning c _ (room-Opens b) gs _ _ l (IsCond-ends p room deep shrinking beginning c o _ _ d s), condition-complete p room deep shrinking beginning c _ (room-Opens b) o _ _ d s) refl

  at_expression : {k : Option Bool} (i : List Tok) {o : Reading Expr} → quantifier (mark i) ≡ k → expression_by p k i ≡ o → expression p i ≡ o
  unfolding expression
  at_expression {k} i is e = ap (λ z. expression_by p z i) is ∙ e

  pub expression-complete : IsComplete (Lacks goes_on_expr) (expression p) (IsExpr room deep)
  expression-complete _ i r (IsExpr.quant (IsQuant.«some» o l d)) s = at_expression i (ap quantifier (mark-Opens o)) (quantification-complete false o l d s)
  expression-complete _ i r (IsExpr.quant (IsQuant.each o l d)) s = at_expression i (ap quantifier (mark-Opens o)) (quantification-complete true o l d s)
  expression-complete x i r (IsExpr.disj a) s = at_expression i (not_quantified (mark i) (IsDisj-begins room deep x i r a)) (disjunction-complete x i r a (lacks_disj r s))
