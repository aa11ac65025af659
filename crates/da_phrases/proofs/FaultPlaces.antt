-- Places where so many things are open: what is shown of their readers of expressions and patterns.
use Rattle.std.proofs.Common.{◌≡◌, ℕ, zero, suc, ◌+◌, ◌≤◌, ◌<◌, List, [], ◌∷◌, length, refl, sym, subst, arith}
use Rattle.da_values.specs.declared.token.Mark.{Mark}
use Rattle.da_values.specs.declared.token.Mark.TheVariants as m
use Rattle.da_values.specs.Marks.{Tok}
use Rattle.da_lang.specs.declared.tree.Expr.{Expr}
use Rattle.da_lang.specs.declared.tree.PatternTree.{PatternTree}
use Rattle.da_lang.specs.Spelling.{Spelling, Room, named}
use Rattle.da_lang.specs.ExprGrammar as g
use Rattle.da_lang.specs.ExprGrammar.{Deeper, IsAtom, IsUnary, IsChain, IsComp, IsNeg, IsJoined, IsExpr, IsPattern, deeper}
use Rattle.da_phrases.specs.declared.place.Level.{Level}
use Rattle.da_phrases.specs.declared.place.Level.TheVariants as level
use Rattle.da_phrases.specs.Reader.{Reader}
use Rattle.da_phrases.specs.Place.{Limit, Place}
use Rattle.da_phrases.specs.Exprs.{generator, unary, product, negation, conjunction, disjunction, expression, pattern, place}
use Rattle.da_phrases.proofs.Laws.{IsSound, Sounds}
use Rattle.da_phrases.proofs.Shorter.{Shrinking, deeper-shrinks, IsGen-shrinks, IsUnary-shrinks, IsProd-shrinks, IsNeg-shrinks, IsConj-shrinks, IsPattern-shrinks}
use Rattle.da_phrases.proofs.SoundExprs.{Shaped, generator-sound}
use Rattle.da_phrases.proofs.SoundOperators.{unary-sound, product-sound, negation-sound, conjunction-sound, pattern-sound}
use Rattle.da_phrases.proofs.SoundPlaces.{places-sound, deeper-shaped}
use Rattle.da_phrases.proofs.Faults.{Rule, Makes, Cut, Good, Whole}
use Rattle.da_phrases.proofs.FaultLists.{Strict}
use Rattle.da_phrases.proofs.FaultTypes.{below}
use Rattle.da_phrases.proofs.FaultExprs.{Exact, unary-whole, negation-whole, disjunction-whole, expression-whole, pattern-whole, UnaryHere, NegHere, ExprHere, PatternHere}

-- ---- what readers pass, whatever may be opened

abbrev Any : ℕ → Room
Any d t = Unit {0}

pub by_parts : (limit : Limit) (f d : ℕ) → ◌≡◌ {A = Place} (record { may_open = limit d; expr = (place limit f d).expr; pattern = (place limit f d).pattern }) (place limit f d)
unfolding place
by_parts limit zero d = refl
by_parts limit (suc f) d = refl

module _ (limit : Limit) (f d : ℕ) where
  abbrev There : Place
  There = place limit f d

  abbrev Deep : Deeper
  Deep = deeper Any f (suc d)

  there_sound : Sounds There (Any d) Deep
  there_sound = places-sound limit Any (λ d t h. tt) f f d (omega arith)

  shrinks : Shrinking Deep
  shrinks = deeper-shrinks Any f (suc d)

  shaped : Shaped Deep
  shaped = deeper-shaped Any f (suc d)

  pub generator-strict : Strict (generator There)
  generator-strict i y e = IsGen-shrinks Deep shrinks _ _ _ (generator-sound There (Any d) Deep there_sound i y e)

  pub unary-strict : Strict (unary There)
  unary-strict i y e = IsUnary-shrinks (Any d) Deep shrinks _ _ _ (unary-sound There (Any d) Deep there_sound shaped i y e)

  pub product-strict : Strict (product There)
  product-strict i y e = IsProd-shrinks (Any d) Deep shrinks _ _ _ (product-sound There (Any d) Deep there_sound shaped i y e)

  pub negation-strict : Strict (negation There)
  negation-strict i y e = IsNeg-shrinks (Any d) Deep shrinks _ _ _ (negation-sound There (Any d) Deep there_sound shaped i y e)

  pub conjunction-strict : Strict (conjunction There)
  conjunction-strict i y e = IsConj-shrinks (Any d) Deep shrinks _ _ _ (conjunction-sound There (Any d) Deep there_sound shaped i y e)

  pub disj-strict : Strict (There.expr level.Disj)
  disj-strict i y e = shrinks.disj _ _ _ (there_sound.disj i y e)

  pub unary_inside-strict : Strict (There.expr level.Unary)
  unary_inside-strict i y e = shrinks.unary _ _ _ (there_sound.unary i y e)

  pub pattern_inside-strict : Strict There.pattern
  pattern_inside-strict i y e = shrinks.pattern _ _ _ (there_sound.pattern i y e)

-- ---- the readers of a place

-- what is shown of them
pub record Levels (c : Cut) (Q : Type 0) (d : ℕ) (p q : Place) (deep : (ℕ → Room) → Deeper) : Type 0 where
  pub expr : Whole c Q (m.Name ∷ []) (expression p) (expression q) (λ room. IsExpr (room d) (deep room))
  pub disj : Whole c Q (m.Name ∷ []) (disjunction p) (disjunction q) (λ room. g.IsDisj (room d) (deep room))
  pub neg : Whole c Q (m.Name ∷ []) (negation p) (negation q) (λ room. IsNeg (room d) (deep room))
  pub unary : Whole c Q (m.Name ∷ []) (unary p) (unary q) (λ room. IsUnary (room d) (deep room))
  pub pattern : Whole c Q (m.Name ∷ []) (pattern p) (pattern q) (λ room. IsPattern (room d) (deep room))

module _ (c : Cut) (Q : Type 0) (f h n d : ℕ) (x : Exact c d (place (below c.most) f d).expr (place c.wider h d).expr (place (below c.most) f d).pattern (place c.wider h d).pattern (λ room. deeper room n (suc d))) where
  abbrev First : Place
  First = record { may_open = below c.most d; expr = (place (below c.most) f d).expr; pattern = (place (below c.most) f d).pattern }

  abbrev Second : Place
  Second = record { may_open = c.wider d; expr = (place c.wider h d).expr; pattern = (place c.wider h d).pattern }

  first_is : First ≡ place (below c.most) f d
  first_is = by_parts (below c.most) f d

  second_is : Second ≡ place c.wider h d
  second_is = by_parts c.wider h d

  abbrev to_first : (A : Place → Type 0) → A (place (below c.most) f d) → A First
  to_first A = subst A (sym first_is)

  abbrev to_second : (A : Place → Type 0) → A (place c.wider h d) → A Second
  to_second A = subst A (sym second_is)

  gen1 : Strict (generator First)
  gen1 = to_first (λ p. Strict (generator p)) (generator-strict (below c.most) f d)

  gen2 : Strict (generator Second)
  gen2 = to_second (λ p. Strict (generator p)) (generator-strict c.wider h d)

  una1 : Strict (unary First)
  una1 = to_first (λ p. Strict (unary p)) (unary-strict (below c.most) f d)

  una2 : Strict (unary Second)
  una2 = to_second (λ p. Strict (unary p)) (unary-strict c.wider h d)

  pro1 : Strict (product First)
  pro1 = to_first (λ p. Strict (product p)) (product-strict (below c.most) f d)

  pro2 : Strict (product Second)
  pro2 = to_second (λ p. Strict (product p)) (product-strict c.wider h d)

  neg1 : Strict (negation First)
  neg1 = to_first (λ p. Strict (negation p)) (negation-strict (below c.most) f d)

  neg2 : Strict (negation Second)
  neg2 = to_second (λ p. Strict (negation p)) (negation-strict c.wider h d)

  con1 : Strict (conjunction First)
  con1 = to_first (λ p. Strict (conjunction p)) (conjunction-strict (below c.most) f d)

  con2 : Strict (conjunction Second)
  con2 = to_second (λ p. Strict (conjunction p)) (conjunction-strict c.wider h d)

  by_records : Levels c Q d First Second (λ room. deeper room n (suc d))
  by_records = record {
    expr = expression-whole c d x gen1 gen2 Q una1 una2 pro1 pro2 neg1 neg2 con1 con2;
    disj = disjunction-whole c d x gen1 gen2 Q una1 una2 pro1 pro2 neg1 neg2 con1 con2;
    neg = negation-whole c d x gen1 gen2 Q una1 una2 pro1 pro2;
    unary = unary-whole c d x gen1 gen2 Q;
    pattern = pattern-whole c d x gen1 gen2 Q;
  }

  pub levels : Levels c Q d (place (below c.most) f d) (place c.wider h d) (λ room. deeper room n (suc d))
  levels = subst (λ p. Levels c Q d p (place c.wider h d) (λ room. deeper room n (suc d))) first_is
      (subst (λ q. Levels c Q d First q (λ room. deeper room n (suc d))) second_is by_records)

-- ---- a name stands for each

name_unary : (c : Cut) (d n : ℕ) → Makes c.most (m.Name ∷ []) (λ room. IsUnary (room d) (deeper room n (suc d)))
name_unary c d n = record { of = λ wide most s few. (_, IsUnary.atom (IsAtom.name (named refl))) }

name_neg : (c : Cut) (d n : ℕ) → Makes c.most (m.Name ∷ []) (λ room. IsNeg (room d) (deeper room n (suc d)))
name_neg c d n = record { of = λ wide most s few. let (x, h) = (name_unary c d n).of wide most s few in (x, IsNeg.comp (IsComp.lone (IsChain.lone (IsChain.lone h)))) }

name_disj : (c : Cut) (d n : ℕ) → Makes c.most (m.Name ∷ []) (λ room. g.IsDisj (room d) (deeper room n (suc d)))
name_disj c d n = record { of = λ wide most s few. let (x, h) = (name_neg c d n).of wide most s few in (x, IsJoined.lone (IsJoined.lone h)) }

name_expr : (c : Cut) (d n : ℕ) → Makes c.most (m.Name ∷ []) (λ room. IsExpr (room d) (deeper room n (suc d)))
name_expr c d n = record { of = λ wide most s few. let (x, h) = (name_disj c d n).of wide most s few in (x, IsExpr.disj h) }

name_pattern : (c : Cut) (d n : ℕ) → Makes c.most (m.Name ∷ []) (λ room. IsPattern (room d) (deeper room n (suc d)))
name_pattern c d n = record { of = λ wide most s few. (_, IsPattern.name (named refl)) }

-- nothing is read where as many things are open as may be
never : (c : Cut) (d : ℕ) → 0 + d ≡ c.most → {A : Type 0} {p q : Reader A} {G : Rule A} {w : List Mark} → Makes c.most w G → Whole c (d < c.most) w p q G
never c d sum makes = record { good = record { viable = λ so. absurd (omega (arith, so, sum)); local = λ so. absurd (omega (arith, so, sum)) }; makes = makes }

-- the grammar may have more things open than the readers, of which the second may have more than the first
pub places : (c : Cut) (f h n d : ℕ) → f + d ≡ c.most → f ≤ h → f < n
    → Exact c d (place (below c.most) f d).expr (place c.wider h d).expr (place (below c.most) f d).pattern (place c.wider h d).pattern (λ room. deeper room n (suc d))
unfolding place deeper
places c zero h zero d sum le less = absurd (omega (arith, less))
places c (suc f) h zero d sum le less = absurd (omega (arith, less))
places c (suc f) zero n d sum le less = absurd (omega (arith, le))
places c zero h (suc n) d sum le less = record {
  expr = never c d sum (name_expr c (suc d) n);
  disj = never c d sum (name_disj c (suc d) n);
  neg = never c d sum (name_neg c (suc d) n);
  unary = never c d sum (name_unary c (suc d) n);
  pattern = never c d sum (name_pattern c (suc d) n);
  unary_strict = unary_inside-strict (below c.most) zero d;
  disj_strict = disj-strict (below c.most) zero d;
  disj_strict1 = disj-strict c.wider h d;
  pattern_strict = pattern_inside-strict (below c.most) zero d;
  pattern_strict1 = pattern_inside-strict c.wider h d;
  widens = λ room x i s a. IsExpr.disj a;
}
places c (suc f) (suc h) (suc n) d sum le less =
    let inside = levels c (d < c.most) f h n (suc d) (places c f h n (suc d) (omega (arith, sum)) (omega (arith, le)) (omega (arith, less))) in
    record {
      expr = inside.expr;
      disj = inside.disj;
      neg = inside.neg;
      unary = inside.unary;
      pattern = inside.pattern;
      unary_strict = unary_inside-strict (below c.most) (suc f) d;
      disj_strict = disj-strict (below c.most) (suc f) d;
      disj_strict1 = disj-strict c.wider (suc h) d;
      pattern_strict = pattern_inside-strict (below c.most) (suc f) d;
      pattern_strict1 = pattern_inside-strict c.wider (suc h) d;
      widens = λ room x i s a. IsExpr.disj a;
    }
