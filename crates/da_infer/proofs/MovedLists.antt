-- What some tokens spell before others, as many tokens spell before any others: single tokens and lists.
use Rattle.std.specs.Prelude.{◌≡◌, refl, ℕ, ◌+◌, ◌≤◌, List, [], ◌∷◌, length, Option, Some, None}
use Rattle.std.specs.List.{All}
use Rattle.std.proofs.Common.{arith}
use Rattle.std.proofs.lemmas.List.Elements.{All-cons, All-head, All-tail}
use Rattle.da_values.specs.declared.token.Mark.{Mark}
use Rattle.da_values.specs.declared.token.Mark.TheVariants as m
use Rattle.da_values.specs.Marks.{Tok}
use Rattle.da_lang.specs.Spelling as g
use Rattle.da_lang.specs.Spelling.{Spelling, Room, IsSpelled, At, Opens, NotAt, Named, Number, Quoted, Separated, Closed, EachAfter, Many, Ended}

-- whatever is open, there is room
abbrev pub Free : Room
Free t = Unit {0}

-- The tokens from t up to r stand before s now, from u on.
pub record Along (t r u s : List Tok) : Type 0 where
  pub all : All IsSpelled t → All IsSpelled s → All IsSpelled u
  pub rest : All IsSpelled t → All IsSpelled r
  pub shorter : length r ≤ length t
  pub size : length u + length r ≡ length t + length s

pub here : {r s : List Tok} → Along r r s s
here = record { all = λ a b. b; rest = λ a. a; shorter = omega arith; size = omega arith }

pub more : {a : Tok} {t r u s : List Tok} → Along t r u s → Along (a ∷ t) r (a ∷ u) s
more {a} {t} {u = u} p = record {
  all = λ b c. All-cons IsSpelled a u (All-head IsSpelled a t b) (p.all (All-tail IsSpelled a t b) c);
  rest = λ b. p.rest (All-tail IsSpelled a t b);
  shorter = omega (arith, p.shorter);
  size = omega (arith, p.size);
}

pub join : {t r q u s z : List Tok} → Along t r u s → Along r q s z → Along t q u z
join p n = record {
  all = λ a c. p.all a (n.all (p.rest a) c);
  rest = λ a. n.rest (p.rest a);
  shorter = omega (arith, p.shorter, n.shorter);
  size = omega (arith, p.size, n.size);
}

-- tokens that spell something before s
pub record Moved (Z : List Tok → List Tok → Type 0) (t r s : List Tok) : Type 0 where
  pub now : List Tok
  pub along : Along t r now s
  pub spelled : Z now s

pub moved : {Z : List Tok → List Tok → Type 0} {t r u s : List Tok} → Along t r u s → Z u s → Moved Z t r s
moved {u = u} p h = record { now = u; along = p; spelled = h }

abbrev pub Moves : {A : Type 0} → Spelling A → Spelling A → Type 0
Moves {A} X Y = (x : A) (t r : List Tok) → X x t r → (s : List Tok) → Moved (Y x) t r s

-- ---- single tokens

pub named_moves : Moves Named Named
named_moves _ t r (g.Named.named e) s = moved (more here) (g.Named.named e)

pub number_moves : Moves Number Number
number_moves _ t r (g.Number.number e is) s = moved (more here) (g.Number.number e is)

-- the mark of the first token
abbrev pub first : List Tok → Option Mark
first [] = None
first (t ∷ ts) = Some t.mark

some_same : (a b : Mark) → ◌≡◌ {A = Option Mark} (Some a) (Some b) → a ≡ b
some_same a b e = cc

pub still_not_at : {k : Mark} {r : List Tok} (u : List Tok) → first u ≡ first r → NotAt k r → NotAt k u
still_not_at [] e (g.NotAt.not_at n) = absurd (cc)
still_not_at (b ∷ u) e (g.NotAt.not_at {t} n) = g.NotAt.not_at (λ is. n (let same = some_same b.mark t.mark e in cc))

-- the same with the first token kept
pub record Headed (Z : List Tok → List Tok → Type 0) (t r s : List Tok) : Type 0 where
  pub now : List Tok
  pub along : Along t r now s
  pub spelled : Z now s
  pub head : first now ≡ first t

pub headed : {Z : List Tok → List Tok → Type 0} {t r u s : List Tok} → Along t r u s → Z u s → first u ≡ first t → Headed Z t r s
headed {u = u} p h e = record { now = u; along = p; spelled = h; head = e }

abbrev pub HeadMoves : {A : Type 0} → Spelling A → Spelling A → Type 0
HeadMoves {A} X Y = (x : A) (t r : List Tok) → X x t r → (s : List Tok) → Headed (Y x) t r s

pub head_moves : {A : Type 0} {X Y : Spelling A} → HeadMoves X Y → Moves X Y
head_moves each x t r h s = let a = each x t r h s in moved a.along a.spelled

-- ---- lists

module _ {A : Type 0} {X Y : Spelling A} (each : Moves X Y) where
  pub separated_moves : (k : Mark) → Moves (Separated k X) (Separated k Y)
  separated_moves k _ t r (g.Separated.last {x} h) s = let a = each x _ _ h s in moved a.along (g.Separated.last a.spelled)
  separated_moves k _ t r (g.Separated.more {x} {xs} h (g.At.at {t = c} e) l) s =
      let b = separated_moves k xs _ _ l s in
      let a = each x _ _ h (c ∷ b.now) in
      moved (join a.along (more b.along)) (g.Separated.more a.spelled (g.At.at e) b.spelled)

  pub closed_moves : (close : Mark) → Moves (Closed close X) (Closed close Y)
  closed_moves close _ t r (g.Closed.empty (g.At.at e)) s = moved (more here) (g.Closed.empty (g.At.at e))
  closed_moves close xs t r (g.Closed.full l (g.At.at {t = c} e)) s =
      let a = separated_moves m.Comma xs _ _ l (c ∷ s) in
      moved (join a.along (more here)) (g.Closed.full a.spelled (g.At.at e))

  pub after_moves : (k : Mark) → Moves (EachAfter k X) (EachAfter k Y)
  after_moves k _ t r g.EachAfter.none s = moved here g.EachAfter.none
  after_moves k _ t r (g.EachAfter.one {x} {xs} (g.At.at e) h l) s =
      let b = after_moves k xs _ _ l s in
      let a = each x _ _ h b.now in
      moved (more (join a.along b.along)) (g.EachAfter.one (g.At.at e) a.spelled b.spelled)

  pub many_moves : Moves (Many X) (Many Y)
  many_moves _ t r g.Many.none s = moved here g.Many.none
  many_moves _ t r (g.Many.one {x} {xs} h l) s =
      let b = many_moves xs _ _ l s in
      let a = each x _ _ h b.now in
      moved (join a.along b.along) (g.Many.one a.spelled b.spelled)

  pub ended_moves : Moves (Ended X) (Ended Y)
  ended_moves _ t r (g.Ended.ends {x} h (g.At.at {t = c} e)) s =
      let a = each x _ _ h (c ∷ s) in
      moved (join a.along (more here)) (g.Ended.ends a.spelled (g.At.at e))
  ended_moves _ t r (g.Ended.goes_on {x} {xs} h l) s =
      let b = ended_moves xs _ _ l s in
      let a = each x _ _ h b.now in
      moved (join a.along b.along) (g.Ended.goes_on a.spelled b.spelled)
