-- Types: what is shown of a place where the reader stops.
use Rattle.std.proofs.Common.{◌≡◌, ℕ, zero, suc, ◌+◌, ◌≤◌, ◌<◌, Bool, true, List, [], ◌∷◌, length, Option, Some, refl, sym, subst, arith}
use Rattle.std.specs.Prelude.{nat_lt}
use Rattle.da_values.specs.declared.token.Mark.{Mark}
use Rattle.da_values.specs.declared.token.Mark.TheVariants as m
use Rattle.da_values.specs.Marks.{Tok}
use Rattle.da_lang.specs.declared.ty.Ty.{Ty}
use Rattle.da_lang.specs.declared.ty.Ty.TheVariants as ty
use Rattle.da_lang.specs.Spelling.{Spelling, Room, at}
use Rattle.da_lang.specs.TypeGrammar as g
use Rattle.da_lang.specs.TypeGrammar.{IsType, TypeIn}
use Rattle.da_phrases.specs.Reader.{mark, Reader}
use Rattle.da_phrases.specs.Place.{Limit}
use Rattle.da_phrases.specs.Types.{set_type, tuple_type, type_by, type_in, types}
use Rattle.da_phrases.proofs.Shorter.{TypeIn-shrinks}
use Rattle.da_phrases.proofs.SoundTypes.{types-sound}
use Rattle.da_phrases.proofs.Faults.{Rule, Makes, Cut, Good, Whole}
use Rattle.da_phrases.proofs.FaultSteps.{bind, pure_good, pure_whole, refuse_good, by_mark_good, good_as, good_on, past_mark, opens_good, opening_whole, expect_whole, first_mark}
use Rattle.da_phrases.proofs.FaultLists.{Strict, closed_whole}

-- the rule of the first reader
abbrev pub below : ℕ → Limit
below most d left = nat_lt d most

module _ (c : Cut) (Q : Type 0) (d : ℕ) {w : List Mark} {p q : Reader Ty} {Inner : Rule Ty} (inner : Whole c (d < c.most) w p q Inner) (strict : Strict p) (strict_too : Strict q) where
  abbrev pub TypeHere : Rule Ty
  TypeHere room = IsType (room d) (Inner room)

  set_type-good : Good c Q (λ i. mark i ≡ Some m.Set) (λ i. type_by (below c.most d) p (Some m.Set) i) (λ i. type_by (c.wider d) q (Some m.Set) i) TypeHere
  unfolding set_type
  set_type-good = past_mark c Q m.Set (λ i ok. ok)
      (opening_whole c Q d m.OpenBracket (bind c (d < c.most) inner (λ x.
      bind c (d < c.most) (expect_whole c (d < c.most) m.CloseBracket) (λ _.
      pure_whole c (d < c.most) (ty.Set x) (λ room i i1 close i2 h i3 opened i4 word. g.set word opened h close))))).good

  tuple_type-good : Good c Q (λ i. mark i ≡ Some m.OpenParen) (λ i. type_by (below c.most d) p (Some m.OpenParen) i) (λ i. type_by (c.wider d) q (Some m.OpenParen) i) TypeHere
  unfolding tuple_type
  tuple_type-good = opens_good c Q d m.OpenParen
      (bind c (d < c.most) inner (λ x.
      bind c (d < c.most) (expect_whole c (d < c.most) m.Comma) (λ _.
      bind c (d < c.most) (closed_whole c (d < c.most) m.CloseParen inner strict strict_too (x ∷ [])) (λ xs.
      pure_whole c (d < c.most) (ty.Tuple xs) (λ room i i1 finds i2 comma i3 h i4 opened.
      let (l, is, spelled) = finds in subst (λ z. TypeHere room (ty.Tuple z) i4 i) (sym is) (g.tuple opened h comma spelled))))))
      (λ i ok. first_mark i ok)

  type_makes : Makes c.most (m.Int ∷ []) TypeHere
  type_makes = record { of = λ wide n s few. (ty.Int, g.int (at refl)) }

  type_by-good : (k : Option Mark) → Good c Q (λ i. mark i ≡ k) (type_by (below c.most d) p k) (type_by (c.wider d) q k) TypeHere
  type_by-good (Some m.Int) = past_mark c Q m.Int (λ i ok. ok) (pure_good c Q ty.Int (λ room i j word. g.int word))
  type_by-good (Some m.Bool) = past_mark c Q m.Bool (λ i ok. ok) (pure_good c Q ty.Bool (λ room i j word. g.bool word))
  type_by-good (Some m.Str) = past_mark c Q m.Str (λ i ok. ok) (pure_good c Q ty.Text (λ room i j word. g.str word))
  type_by-good (Some m.Proc) = past_mark c Q m.Proc (λ i ok. ok) (pure_good c Q ty.Proc (λ room i j word. g.proc word))
  type_by-good (Some m.Set) = set_type-good
  type_by-good (Some m.OpenParen) = tuple_type-good
  type_by-good _ = refuse_good c Q type_makes

  pub type_in-whole : Whole c Q (m.Int ∷ []) (type_in (below c.most d) p) (type_in (c.wider d) q) TypeHere
  unfolding type_in
  type_in-whole = record { good = by_mark_good c Q (λ k. good_on c Q (λ i ok. ok.1) (type_by-good k)); makes = type_makes }

pub types-strict : (limit : Limit) (f d : ℕ) → Strict (types limit f d)
types-strict limit f d i y e = TypeIn-shrinks (λ _ _. Unit {0}) f d _ _ _ (types-sound limit (λ _ _. Unit {0}) (λ d t h. tt) f f d (omega arith) i y e)

-- the grammar may have more things open than the readers, of which the second may have more than the first
pub types-whole : (c : Cut) (f h n d : ℕ) → f + d ≡ suc c.most → f ≤ h → f < n → Whole c (d ≤ c.most) (m.Int ∷ []) (types (below c.most) f d) (types c.wider h d) (λ room. TypeIn room n d)
unfolding types TypeIn
types-whole c zero h zero d sum le less = absurd (omega (arith, less))
types-whole c (suc f) h zero d sum le less = absurd (omega (arith, less))
types-whole c (suc f) zero n d sum le less = absurd (omega (arith, le))
types-whole c zero h (suc n) d sum le less = record {
  good = record { viable = λ so. absurd (omega (arith, so, sum)); local = λ so. absurd (omega (arith, so, sum)) };
  makes = record { of = λ wide most s few. (ty.Int, g.int (at refl)) };
}
types-whole c (suc f) (suc h) (suc n) d sum le less =
    type_in-whole c (d ≤ c.most) d (types-whole c f h n (suc d) (omega (arith, sum)) (omega (arith, le)) (omega (arith, less))) (types-strict (below c.most) f (suc d)) (types-strict c.wider h (suc d))
