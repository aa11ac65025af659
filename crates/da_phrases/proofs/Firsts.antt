-- With which tokens the relations of the grammar of types, expressions and patterns begin, so that no element of a list is taken for its end.
use Rattle.std.proofs.Common.{◌≡◌, ℕ, zero, suc, Bool, true, false, List, [], ◌∷◌, Option, Some, None, refl, ap, subst, inl, inr}
use Rattle.da_values.specs.declared.token.Mark.{Mark}
use Rattle.da_values.specs.declared.token.Mark.TheVariants as m
use Rattle.da_values.specs.Marks.{Tok}
use Rattle.da_lang.specs.declared.tree.ArithOp.{ArithOp}
use Rattle.da_lang.specs.declared.tree.Expr.{Expr}
use Rattle.da_lang.specs.declared.ty.Ty.{Ty}
use Rattle.da_lang.specs.Spelling.{Spelling, Room, At, Opens, Named, Separated, Ended}
use Rattle.da_lang.specs.TypeGrammar.{IsType, TypeIn}
use Rattle.da_lang.specs.ExprGrammar.{Deeper, deeper, IsGen, IsAtom, IsUnary, IsChain, IsProd, IsSum, IsComp, IsNeg, IsJoined, IsConj, IsDisj, IsQuant, IsExpr, IsPattern}
use Rattle.da_phrases.specs.Reader.{mark, same, sees}
use Rattle.da_phrases.specs.Exprs.{quantifier}
use Rattle.da_phrases.proofs.Laws.{Begins, Lacks, is_next}
use Rattle.da_phrases.proofs.Steps.{same_marks, bool_cases, mark-At, mark-Opens, mark-Named, mark-Number, mark-Quoted}

-- ---- sets of tokens

-- a token that is none of those that may be next is not next
pub never_seen : (one : Mark → Bool) (k : Mark) (i : List Tok) → one k ≡ false → is_next one (mark i) ≡ true → sees k i ≡ false
unfolding sees
never_seen one k [] d h = refl
never_seen one k (t ∷ r) d h = elim (bool_cases (same t.mark k)) [
  | inl e ↦ (let k_begins : one k ≡ true = subst (λ z. one z ≡ true) (same_marks t.mark k e) h in cc)
  | inr e ↦ e
]

-- a token that is one of those that are not next is not next
pub lacked : (stop : Mark → Bool) (k : Mark) (i : List Tok) → stop k ≡ true → Lacks stop i → sees k i ≡ false
unfolding sees
lacked stop k [] d h = refl
lacked stop k (t ∷ r) d h = elim (bool_cases (same t.mark k)) [
  | inl e ↦ (let k_stops : stop k ≡ false = subst (λ z. stop z ≡ false) (same_marks t.mark k e) h in cc)
  | inr e ↦ e
]

pub next-At : (one : Mark → Bool) {k : Mark} {i r : List Tok} → At k i r → is_next one (mark i) ≡ one k
next-At one h = ap (is_next one) (mark-At h)

pub next-Opens : (one : Mark → Bool) {k : Mark} {room : Room} {i r : List Tok} → Opens k room i r → is_next one (mark i) ≡ one k
next-Opens one h = ap (is_next one) (mark-Opens h)

-- what begins with some tokens begins with more of them
pub wider : (one more : Mark → Bool) → ((k : Mark) → one k ≡ true → more k ≡ true) → (i : List Tok) → is_next one (mark i) ≡ true → is_next more (mark i) ≡ true
wider one more holds [] h = cc
wider one more holds (t ∷ r) h = holds t.mark h

-- what begins with some tokens does not begin with others
pub apart : (one stop : Mark → Bool) → ((k : Mark) → one k ≡ true → stop k ≡ false) → (i : List Tok) → is_next one (mark i) ≡ true → Lacks stop i
apart one stop holds [] h = refl
apart one stop holds (t ∷ r) h = holds t.mark h

-- what does not begin with some tokens does not begin with fewer of them
pub fewer : (stop less : Mark → Bool) → ((k : Mark) → stop k ≡ false → less k ≡ false) → (i : List Tok) → Lacks stop i → Lacks less i
fewer stop less holds [] h = refl
fewer stop less holds (t ∷ r) h = holds t.mark h

-- ---- lists

module _ {A : Type 0} (Item : Spelling A) (one : Mark → Bool) (begins : Begins one Item) where
  pub Separated-begins : (k : Mark) → Begins one (Separated k Item)
  Separated-begins k _ i r (Separated.last a) = begins _ _ _ a
  Separated-begins k _ i r (Separated.more a h l) = begins _ _ _ a

  pub Ended-begins : Begins one (Ended Item)
  Ended-begins _ i r (Ended.ends a h) = begins _ _ _ a
  Ended-begins _ i r (Ended.goes_on a l) = begins _ _ _ a

-- ---- names

abbrev pub begins_name : Mark → Bool
begins_name m.Name = true
begins_name _ = false

pub Named-begins : Begins begins_name Named
Named-begins x i r h = ap (is_next begins_name) (mark-Named h)

-- ---- types

abbrev pub begins_type : Mark → Bool
begins_type m.Int = true
begins_type m.Bool = true
begins_type m.Str = true
begins_type m.Proc = true
begins_type m.Set = true
begins_type m.OpenParen = true
begins_type _ = false

pub IsType-begins : (room : Room) (Inner : Spelling Ty) → Begins begins_type (IsType room Inner)
IsType-begins room Inner _ i r (IsType.int h) = next-At begins_type h
IsType-begins room Inner _ i r (IsType.bool h) = next-At begins_type h
IsType-begins room Inner _ i r (IsType.str h) = next-At begins_type h
IsType-begins room Inner _ i r (IsType.proc h) = next-At begins_type h
IsType-begins room Inner _ i r (IsType.set h o a c) = next-At begins_type h
IsType-begins room Inner _ i r (IsType.tuple o a h l) = next-Opens begins_type o

pub TypeIn-begins : (room : ℕ → Room) (f d : ℕ) → Begins begins_type (TypeIn room f d)
unfolding TypeIn
TypeIn-begins room zero d x i r h = absurd h
TypeIn-begins room (suc f) d x i r h = IsType-begins (room d) (TypeIn room f (suc d)) x i r h

-- ---- expressions and patterns

-- an atom, a product or a sum, a negation or a disjunction, an expression, a pattern begin with these
abbrev pub begins_atom : Mark → Bool
begins_atom m.Number = true
begins_atom m.Quoted = true
begins_atom m.True = true
begins_atom m.False = true
begins_atom m.SelfWord = true
begins_atom m.Name = true
begins_atom m.LogicalTime = true
begins_atom m.Range = true
begins_atom m.OpenParen = true
begins_atom m.OpenBrace = true
begins_atom m.Count = true
begins_atom m.Sum = true
begins_atom m.Min = true
begins_atom m.Max = true
begins_atom _ = false

abbrev pub begins_sum : Mark → Bool
begins_sum m.Minus = true
begins_sum k = begins_atom k

abbrev pub begins_disj : Mark → Bool
begins_disj m.Not = true
begins_disj k = begins_sum k

abbrev pub begins_quant : Mark → Bool
begins_quant m.Some = true
begins_quant m.Each = true
begins_quant _ = false

abbrev pub begins_expr : Mark → Bool
begins_expr m.Some = true
begins_expr m.Each = true
begins_expr k = begins_disj k

abbrev pub begins_pattern : Mark → Bool
begins_pattern m.Wild = true
begins_pattern m.Name = true
begins_pattern m.Number = true
begins_pattern m.Minus = true
begins_pattern m.Quoted = true
begins_pattern m.True = true
begins_pattern m.False = true
begins_pattern m.SelfWord = true
begins_pattern m.Assign = true
begins_pattern m.OpenParen = true
begins_pattern _ = false

atom_is_sum : (k : Mark) → begins_atom k ≡ true → begins_sum k ≡ true
atom_is_sum m.Minus h = refl
atom_is_sum _ h = h

sum_is_disj : (k : Mark) → begins_sum k ≡ true → begins_disj k ≡ true
sum_is_disj m.Not h = refl
sum_is_disj _ h = h

quant_is_expr : (k : Mark) → begins_quant k ≡ true → begins_expr k ≡ true
quant_is_expr m.Some h = refl
quant_is_expr m.Each h = refl
quant_is_expr _ h = cc

disj_is_expr : (k : Mark) → begins_disj k ≡ true → begins_expr k ≡ true
disj_is_expr m.Some h = refl
disj_is_expr m.Each h = refl
disj_is_expr _ h = h

-- where a disjunction begins there is neither `some` nor `each`
pub not_quantified : (o : Option Mark) → is_next begins_disj o ≡ true → quantifier o ≡ None
not_quantified None h = refl
not_quantified (Some m.Some) h = cc
not_quantified (Some m.Each) h = cc
not_quantified (Some _) h = refl

pub IsChain-begins : (one : Mark → Bool) (Sign : Spelling ArithOp) (Operand : Spelling Expr) → Begins one Operand → Begins one (IsChain Sign Operand)
IsChain-begins one Sign Operand begins x i r (IsChain.lone a) = begins x i r a
IsChain-begins one Sign Operand begins _ i r (IsChain.chain a l) = begins _ _ _ a

pub IsJoined-begins : (one : Mark → Bool) (k : Mark) (join : List Expr → Expr) (Operand : Spelling Expr) → Begins one Operand → Begins one (IsJoined k join Operand)
IsJoined-begins one k join Operand begins x i r (IsJoined.lone a) = begins x i r a
IsJoined-begins one k join Operand begins _ i r (IsJoined.joined l) = Separated-begins Operand one begins k _ i r l

module _ (room : Room) (deep : Deeper) where
  pub IsAtom-begins : Begins begins_atom (IsAtom room deep)
  IsAtom-begins _ i r (IsAtom.int h) = ap (is_next begins_atom) (mark-Number h)
  IsAtom-begins _ i r (IsAtom.text h) = ap (is_next begins_atom) (mark-Quoted h)
  IsAtom-begins _ i r (IsAtom.yes h) = next-At begins_atom h
  IsAtom-begins _ i r (IsAtom.no h) = next-At begins_atom h
  IsAtom-begins _ i r (IsAtom.me h) = next-At begins_atom h
  IsAtom-begins _ i r (IsAtom.name h) = ap (is_next begins_atom) (mark-Named h)
  IsAtom-begins _ i r (IsAtom.clock h o c) = next-At begins_atom h
  IsAtom-begins _ i r (IsAtom.range h o a b e c) = next-At begins_atom h
  IsAtom-begins _ i r (IsAtom.group o a c) = next-Opens begins_atom o
  IsAtom-begins _ i r (IsAtom.tuple o a b l) = next-Opens begins_atom o
  IsAtom-begins _ i r (IsAtom.set_of o l) = next-Opens begins_atom o
  IsAtom-begins _ i r (IsAtom.comprehension o a b l q c) = next-Opens begins_atom o
  IsAtom-begins _ i r (IsAtom.count h o a c) = next-At begins_atom h
  IsAtom-begins _ i r (IsAtom.sum h o a c) = next-At begins_atom h
  IsAtom-begins _ i r (IsAtom.min h o a b e c) = next-At begins_atom h
  IsAtom-begins _ i r (IsAtom.max h o a b e c) = next-At begins_atom h

  pub IsUnary-begins : Begins begins_sum (IsUnary room deep)
  IsUnary-begins x i r (IsUnary.atom a) = wider begins_atom begins_sum atom_is_sum i (IsAtom-begins x i r a)
  IsUnary-begins _ i r (IsUnary.negative o h) = next-Opens begins_sum o
  IsUnary-begins _ i r (IsUnary.minus o n a) = next-Opens begins_sum o

  pub IsProd-begins : Begins begins_sum (IsProd room deep)
  IsProd-begins = IsChain-begins begins_sum _ (IsUnary room deep) IsUnary-begins

  pub IsSum-begins : Begins begins_sum (IsSum room deep)
  IsSum-begins = IsChain-begins begins_sum _ (IsProd room deep) IsProd-begins

  pub IsComp-begins : Begins begins_sum (IsComp room deep)
  IsComp-begins x i r (IsComp.lone a) = IsSum-begins x i r a
  IsComp-begins _ i r (IsComp.compared a h b) = IsSum-begins _ _ _ a
  IsComp-begins _ i r (IsComp.member a h b) = IsSum-begins _ _ _ a

  pub IsNeg-begins : Begins begins_disj (IsNeg room deep)
  IsNeg-begins _ i r (IsNeg.negation o a) = next-Opens begins_disj o
  IsNeg-begins x i r (IsNeg.comp a) = wider begins_sum begins_disj sum_is_disj i (IsComp-begins x i r a)

  pub IsConj-begins : Begins begins_disj (IsConj room deep)
  IsConj-begins = IsJoined-begins begins_disj _ _ (IsNeg room deep) IsNeg-begins

  pub IsDisj-begins : Begins begins_disj (IsDisj room deep)
  IsDisj-begins = IsJoined-begins begins_disj _ _ (IsConj room deep) IsConj-begins

  pub IsQuant-begins : Begins begins_quant (IsQuant room deep)
  IsQuant-begins _ i r (IsQuant.«some» o l c) = next-Opens begins_quant o
  IsQuant-begins _ i r (IsQuant.each o l c) = next-Opens begins_quant o

  pub IsExpr-begins : Begins begins_expr (IsExpr room deep)
  IsExpr-begins x i r (IsExpr.quant a) = wider begins_quant begins_expr quant_is_expr i (IsQuant-begins x i r a)
  IsExpr-begins x i r (IsExpr.disj a) = wider begins_disj begins_expr disj_is_expr i (IsDisj-begins x i r a)

  -- an expression that begins with neither `some` nor `each` is a disjunction
  pub IsExpr-loose : (x : Expr) (i r : List Tok) → IsExpr room deep x i r → quantifier (mark i) ≡ None → IsDisj room deep x i r
  IsExpr-loose x i r (IsExpr.quant (IsQuant.«some» o l c)) n = let is : quantifier (mark i) ≡ Some false = ap quantifier (mark-Opens o) in cc
  IsExpr-loose x i r (IsExpr.quant (IsQuant.each o l c)) n = let is : quantifier (mark i) ≡ Some true = ap quantifier (mark-Opens o) in cc
  IsExpr-loose x i r (IsExpr.disj a) n = a

  pub IsPattern-begins : Begins begins_pattern (IsPattern room deep)
  IsPattern-begins _ i r (IsPattern.wild h) = next-At begins_pattern h
  IsPattern-begins _ i r (IsPattern.name h) = ap (is_next begins_pattern) (mark-Named h)
  IsPattern-begins _ i r (IsPattern.int h) = ap (is_next begins_pattern) (mark-Number h)
  IsPattern-begins _ i r (IsPattern.negative h n) = next-At begins_pattern h
  IsPattern-begins _ i r (IsPattern.text h) = ap (is_next begins_pattern) (mark-Quoted h)
  IsPattern-begins _ i r (IsPattern.yes h) = next-At begins_pattern h
  IsPattern-begins _ i r (IsPattern.no h) = next-At begins_pattern h
  IsPattern-begins _ i r (IsPattern.me h) = next-At begins_pattern h
  IsPattern-begins _ i r (IsPattern.equal h a) = next-At begins_pattern h
  IsPattern-begins _ i r (IsPattern.tuple o a h l) = next-Opens begins_pattern o

pub IsGen-begins : (one : Mark → Bool) (deep : Deeper) → Begins one deep.pattern → Begins one (IsGen deep.pattern)
IsGen-begins one deep begins _ i r (IsGen.gen a o h x) = begins _ _ _ a

-- how begins what stands one deeper
pub record Beginning (deep : Deeper) : Type 0 where
  pub expr : Begins begins_expr deep.expr
  pub loose : (x : Expr) (i r : List Tok) → deep.expr x i r → quantifier (mark i) ≡ None → deep.disj x i r
  pub disj : Begins begins_disj deep.disj
  pub neg : Begins begins_disj deep.neg
  pub unary : Begins begins_sum deep.unary
  pub pattern : Begins begins_pattern deep.pattern

pub deeper-begins : (room : ℕ → Room) (f d : ℕ) → Beginning (deeper room f d)
unfolding deeper
deeper-begins room zero d = record { expr = λ x i r h. absurd h; loose = λ x i r h n. absurd h; disj = λ x i r h. absurd h; neg = λ x i r h. absurd h; unary = λ x i r h. absurd h; pattern = λ x i r h. absurd h }
deeper-begins room (suc f) d = record {
  expr = IsExpr-begins (room d) (deeper room f (suc d));
  loose = IsExpr-loose (room d) (deeper room f (suc d));
  disj = IsDisj-begins (room d) (deeper room f (suc d));
  neg = IsNeg-begins (room d) (deeper room f (suc d));
  unary = IsUnary-begins (room d) (deeper room f (suc d));
  pattern = IsPattern-begins (room d) (deeper room f (suc d));
}
