-- The steps of readers: what is shown of each part is shown of the whole.
use Rattle.std.proofs.Common.{◌≡◌, ℕ, zero, suc, ◌≤◌, ◌<◌, Bool, true, false, List, [], ◌∷◌, ◌++◌, length, Option, Some, None, Ok, Err, refl, sym, ap, ◌∙◌, subst, arith, inl, inr, lt-ltb}
use Rattle.std.proofs.lemmas.Bool.Decides.{nat_tests}
use Rattle.std.specs.Prelude.{◌⊎◌, nat_lt, if◌then◌else◌}
use Rattle.da_values.specs.declared.token.Mark.{Mark}
use Rattle.da_values.specs.declared.token.Mark.TheVariants as m
use Rattle.da_values.specs.Marks.{Tok}
use Rattle.da_values.specs.Piece.{number_of}
use Rattle.da_lang.specs.Literals.{text_of, unquoted}
use Rattle.da_lang.specs.Spelling as sp
use Rattle.da_lang.specs.Spelling.{Spelling, Room, At, at, Opens, opens, Named, named, Number, number, Quoted, quoted}
use Rattle.da_phrases.specs.declared.cursor.Stop.{Stop}
use Rattle.da_phrases.specs.declared.cursor.Stop.TheVariants.{Memory, Syntax, Deep}
use Rattle.da_phrases.specs.Reader as reader
use Rattle.da_phrases.specs.Reader.{mark, text, line, rest, rest_if, same, sees, Reading, Reader, continued, ◌>>=◌, ◌>>◌, pure, refuse, past, taking, by_mark, at_line, if_next, after_token, expect, word, stands_for}
use Rattle.da_phrases.specs.Place as place
use Rattle.da_phrases.specs.Place.{Limit}
use Rattle.da_phrases.proofs.Steps.{same_marks, bool_cases, At-sees}
use Rattle.da_phrases.proofs.SoundSteps.{reads}
use Rattle.da_phrases.proofs.Samples.{sample, onto, onto_append, onto_longer}
use Rattle.da_phrases.proofs.Faults as f
use Rattle.da_phrases.proofs.Faults.{Shifted, onwards, not_longer, room_of, room_few, room_late, Rule, Anywhere, Placed, Makes, Completed, Viable, ahead, Cut, Told, Follows, Local, Good, Whole, Beyond, beyond_follows, viable_beyond, same_ahead}

-- a reader stopped, or what follows did
pub stopped : {A B C : Type 0} (o : Reading A) (next : A → Reader B) (stop : Stop) → continued next o ≡ Err stop → (o ≡ Err stop → C) → ((x : A) (r : List Tok) → o ≡ Ok (x, r) → next x r ≡ Err stop → C) → C
stopped (Ok (x, r)) next stop e first later = later x r refl e
stopped (Err s) next stop e first later = first (cc)

abbrev line_of : Option Tok → ℕ
line_of None = 0
line_of (Some t) = t.line

abbrev text_of_token : Option Tok → List ℕ
text_of_token None = []
text_of_token (Some t) = t.text

abbrev mark_of_token : Option Tok → Option Mark
mark_of_token None = None
mark_of_token (Some t) = Some t.mark

line_by : (i : List Tok) → line i ≡ line_of (ahead i)
line_by [] = refl
line_by (t ∷ i) = refl

text_by : (i : List Tok) → text i ≡ text_of_token (ahead i)
text_by [] = refl
text_by (t ∷ i) = refl

mark_by : (i : List Tok) → mark i ≡ mark_of_token (ahead i)
mark_by [] = refl
mark_by (t ∷ i) = refl

-- the first token of both
module _ (c : Cut) {i j : List Tok} (a : Shifted i c.from j c.to) where
  same_line : line i ≡ line j
  same_line = line_by i ∙ ap line_of (same_ahead c a) ∙ sym (line_by j)

  same_text : text i ≡ text j
  same_text = text_by i ∙ ap text_of_token (same_ahead c a) ∙ sym (text_by j)

  same_mark : mark i ≡ mark j
  same_mark = mark_by i ∙ ap mark_of_token (same_ahead c a) ∙ sym (mark_by j)

  same_sees : (k : Mark) → sees k i ≡ sees k j
  unfolding sees
  same_sees k = ap (λ z. reader.is_mark k z) same_mark

-- the first token has T
pub data First (T : Tok → Type 0) : List Tok → Type 0 where
  leads : {t : Tok} {r : List Tok} → T t → First T (t ∷ r)

-- nothing is before that place, or the first token of both
pub split : {i r j s : List Tok} → Shifted i r j s → ((i ≡ r) × (j ≡ s)) ⊎ ((t : Tok) × (i1 : List Tok) × (j1 : List Tok) × (i ≡ t ∷ i1) × (j ≡ t ∷ j1) × Shifted i1 r j1 s)
split f.here = inl (refl, refl)
split (f.behind {t} {i} {r} {j} {s} a) = inr (t, i, j, refl, refl, a)

pub first_mark : {k : Mark} (i : List Tok) → mark i ≡ Some k → First (λ t. t.mark ≡ k) i
first_mark [] e = cc
first_mark (t ∷ r) e = leads (cc)

pub first_sees : {k : Mark} (i : List Tok) → sees k i ≡ true → First (λ t. t.mark ≡ k) i
unfolding sees
first_sees [] e = cc
first_sees {k} (t ∷ r) e = leads (same_marks t.mark k e)

pub first_line : {k : Mark} {at : ℕ} (i : List Tok) → sees k i ≡ true → line i ≡ at → First (λ t. (t.mark ≡ k) × (t.line ≡ at)) i
unfolding sees
first_line [] e l = cc
first_line {k} (t ∷ r) e l = leads (same_marks t.mark k e, l)

pub mark_sees : (k : Mark) (i : List Tok) → sees k i ≡ true → mark i ≡ Some k
unfolding sees
mark_sees k [] e = cc
mark_sees k (t ∷ r) e = ap (λ z. Some z) (same_marks t.mark k e)

pub first_both : {k : Mark} {at : ℕ} (i : List Tok) → mark i ≡ Some k → line i ≡ at → First (λ t. (t.mark ≡ k) × (t.line ≡ at)) i
first_both [] e l = cc
first_both (t ∷ r) e l = leads (cc, l)

first_value : (k : Mark) {A : Type 0} (F : List ℕ → Option A) {x : A} (i : List Tok) → sees k i ≡ true → F (text i) ≡ Some x → First (λ t. (t.mark ≡ k) × (F t.text ≡ Some x)) i
unfolding sees
first_value k F [] e is = cc
first_value k F (t ∷ r) e is = leads (same_marks t.mark k e, is)

named_at : (b : List ℕ) (t : Tok) (r : List Tok) → t.mark ≡ m.Name → t.text ≡ b → Named b (t ∷ r) r
named_at b t r is same_name = subst (λ z. Named z (t ∷ r) r) same_name (named is)

-- ---- one part after the other

module _ (c : Cut) {A B : Type 0} where
  pub follows_on : (o other : Reading A) (g h : A → Reader B) → Follows c o other
      → ((x : A) (i j : List Tok) → o ≡ Ok (x, i) → ◌≡◌ {A = Reading A} other (Ok (x, j)) → Shifted i c.from j c.to → Follows c (g x i) (h x j))
      → ((x : A) (i : List Tok) → o ≡ Ok (x, i) → length i < length c.from → Beyond c (g x i)) → Follows c (continued g o) (continued h other)
  follows_on (Ok (x, i)) other g h both step far = elim both [
    | inl b ↦ (let (j, a, is) = b in subst (λ z. Follows c (g x i) (continued h z)) (sym is) (step x i j refl is a))
    | inr less ↦ beyond_follows c (g x i) (continued h other) (far x i refl less)
  ]
  follows_on (Err stop) other g h both step far = λ told y e. reads other h y e (λ x r read later. both told (x, r) read)

  module _ {P : List Tok → Type 0} {p : Reader A} {G : Rule A} {w : List Mark} {g : A → Reader B} {H : Rule B} where
    bind_viable : Viable c.most P p G → ((x : A) → Viable c.most Anywhere (g x) (λ room y r s. (i : List Tok) → G room x i r → H room y i s))
        → ((x : A) → Makes c.most w (λ room y r s. (i : List Tok) → G room x i r → H room y i s)) → Viable c.most P (p >>= g) H
    bind_viable part later makes = record {
      moves = λ i ok y e wide n s. reads (p i) g y e (λ x r read next.
          let (j1, a1, h1) = (later x).moves r tt y next wide n s in
          let (j, a, b) = part.moves i ok (x, r) read wide n j1 in
          (j, onwards a a1, h1 j b));
      stops = λ i ok stop wide k there e. stopped (p i) g stop e
          (λ at_first.
          let (r, v, is, go) = part.stops i ok stop wide k there at_first in (
            r,
            v ++ w,
            is,
            λ n s few.
                let joins = onto_append v w s in
                let fits : length (onto v (onto w s)) ≤ n = subst (λ z. length z ≤ n) joins few in
                let (x, j, a, b) = go n (onto w s) fits in
                let (y, made) = (makes x).of wide n s (omega (arith, fits, onto_longer v (onto w s))) in
                (y, j, subst (λ z. Shifted i r j z) (sym joins) a, made j b),
          ))
          (λ x i1 read next.
          let (r, v, is, go) = (later x).stops i1 tt stop wide k there next in (
            r,
            v,
            is,
            λ n s few.
                let (y, j1, a1, h1) = go n s few in
                let (j, a, b) = part.moves i ok (x, i1) read wide n j1 in
                (y, j, onwards a a1, h1 j b),
          ));
    }

  module _ {P : List Tok → Type 0} {p : Reader A} (q : Reader A) {G : Rule A} {g : A → Reader B} (h : A → Reader B) {H : Rule B} where
    bind_local : Viable c.most P p G → Local c P p q → ((x : A) → Viable c.most Anywhere (g x) (λ room y r s. (i : List Tok) → G room x i r → H room y i s)) → ((x : A) → Local c Anywhere (g x) (h x))
        → Local c P (p >>= g) (q >>= h)
    bind_local part there later behind_it i ok j a =
        follows_on (p i) (q j) g h (there i ok j a) (λ x i1 j1 read also a1. behind_it x i1 tt j1 a1) (λ x i1 read less. viable_beyond c (later x) i1 tt less)

module _ (c : Cut) (Q : Type 0) {A B : Type 0} where
  pub bind_good : {P : List Tok → Type 0} {p q : Reader A} {G : Rule A} {w : List Mark} {g h : A → Reader B} {H : Rule B}
      → Good c Q P p q G → ((x : A) → Whole c Q w (g x) (h x) (λ room y r s. (i : List Tok) → G room x i r → H room y i s)) → Good c Q P (p >>= g) (q >>= h) H
  bind_good {q = q} {h = h} part later = record {
    viable = λ so. bind_viable c (part.viable so) (λ x. (later x).good.viable so) (λ x. (later x).makes);
    local = λ so. bind_local c q h (part.viable so) (part.local so) (λ x. (later x).good.viable so) (λ x. (later x).good.local so);
  }

  pub bind_makes : {G : Rule A} {v w : List Mark} {H : Rule B} → Makes c.most v G → ((x : A) → Makes c.most w (λ room y r s. (i : List Tok) → G room x i r → H room y i s)) → Makes c.most (v ++ w) H
  bind_makes {G} {v} {w} {H} part later = record {
    of = λ wide n s few.
        let joins = onto_append v w s in
        let fits : length (onto v (onto w s)) ≤ n = subst (λ z. length z ≤ n) joins few in
        let (x, b) = part.of wide n (onto w s) fits in
        let (y, made) = (later x).of wide n s (omega (arith, fits, onto_longer v (onto w s))) in
        (y, subst (λ z. H (room_of c.most wide n) y z s) (sym joins) (made (onto v (onto w s)) b));
  }

module _ (c : Cut) (Q : Type 0) {A B : Type 0} {p q : Reader A} {G : Rule A} {v w : List Mark} {g h : A → Reader B} {H : Rule B} where
  pub bind : Whole c Q v p q G → ((x : A) → Whole c Q w (g x) (h x) (λ room y r s. (i : List Tok) → G room x i r → H room y i s)) → Whole c Q (v ++ w) (p >>= g) (q >>= h) H
  bind part later = record { good = bind_good c Q part.good later; makes = bind_makes c Q part.makes (λ x. (later x).makes) }

after_is_if : {A : Type 0} (k : Mark) (p q : Reader A) (i : List Tok) → after_token k p q i ≡ if_next k (past p) q i
after_is_if k p q i = by_test (sees k i)
  where
    by_test : (b : Bool) → (if b then p else q) (rest_if b i) ≡ (if b then past p else q) i
    by_test true = refl
    by_test false = refl

-- ---- readers of one step

module _ (c : Cut) {A : Type 0} {H : Rule A} where
  pub refuse_stops : {w : List Mark} → Makes c.most w H → (i : List Tok) (stop : Stop) (wide : Bool) (k : ℕ) → Placed wide stop k → ◌≡◌ {A = Reading A} (refuse i) (Err stop) → Completed c.most wide H i k
  refuse_stops {w} makes i (Syntax left) false k there e =
      let at_it : length i ≡ left = cc in
      (i, w, sym (at_it ∙ there), λ n s few. let (x, h) = makes.of false n s few in (x, onto w s, f.here, h))
  refuse_stops {w} makes i (Syntax left) true k there e = absurd there
  refuse_stops {w} makes i (Deep left) wide k there e = absurd (cc)
  refuse_stops {w} makes i Memory wide k there e = absurd (cc)

module _ (c : Cut) (Q : Type 0) {A : Type 0} {P : List Tok → Type 0} {H : Rule A} where
  pub pure_good : (a : A) → ((room : ℕ → Room) (i : List Tok) → H room a i i) → Good c Q P (pure a) (pure a) H
  pure_good a holds = record {
    viable = λ so. record {
      moves = λ i ok y e wide n s. subst (λ (z : A × List Tok). (j : List Tok) × Shifted i z.1 j s × H (room_of c.most wide n) z.0 j s) (cc) (s, f.here, holds (room_of c.most wide n) s);
      stops = λ i ok stop wide k there e. absurd (cc);
    };
    local = λ so i ok j a1. inl (j, a1, refl);
  }

  pub refuse_good : {w : List Mark} → Makes c.most w H → Good c Q P refuse refuse H
  refuse_good makes = record {
    viable = λ so. record {
      moves = λ i ok y e wide n s. absurd (cc);
      stops = λ i ok stop wide k there e. refuse_stops c makes i stop wide k there e;
    };
    local = λ so i ok j a told y e. absurd (cc);
  }

  -- a rule for each mark
  pub by_mark_good : {g h : Option Mark → Reader A} → ((k : Option Mark) → Good c Q (λ i. P i × (mark i ≡ k)) (g k) (h k) H) → Good c Q P (by_mark g) (by_mark h) H
  by_mark_good {g} {h} each = record {
    viable = λ so. record {
      moves = λ i ok. ((each (mark i)).viable so).moves i (ok, refl);
      stops = λ i ok. ((each (mark i)).viable so).stops i (ok, refl);
    };
    local = λ so i ok j a. subst (λ k. Follows c (g (mark i) i) (h k j)) (same_mark c a) ((each (mark i)).local so i (ok, refl) j a);
  }

  -- by what the bytes of the next token say
  pub by_text_good : {V : Type 0} (F : List ℕ → V) {g h : V → Reader A} → ((o : V) → Good c Q (λ i. P i × (F (text i) ≡ o)) (g o) (h o) H) → Good c Q P (λ i. g (F (text i)) i) (λ i. h (F (text i)) i) H
  by_text_good F {g} {h} each = record {
    viable = λ so. record {
      moves = λ i ok. ((each (F (text i))).viable so).moves i (ok, refl);
      stops = λ i ok. ((each (F (text i))).viable so).stops i (ok, refl);
    };
    local = λ so i ok j a. subst (λ k. Follows c (g (F (text i)) i) (h (F k) j)) (same_text c a) ((each (F (text i))).local so i (ok, refl) j a);
  }

  -- whatever its line is
  pub by_line_good : {p q : Reader A} → ((at : ℕ) → Good c Q (λ i. P i × (line i ≡ at)) p q H) → Good c Q P p q H
  by_line_good each = record {
    viable = λ so. record {
      moves = λ i ok. ((each (line i)).viable so).moves i (ok, refl);
      stops = λ i ok. ((each (line i)).viable so).stops i (ok, refl);
    };
    local = λ so i ok j a. (each (line i)).local so i (ok, refl) j a;
  }

  pub at_line_good : {g h : ℕ → Reader A} → ((at : ℕ) → Good c Q (λ i. P i × (line i ≡ at)) (g at) (h at) H) → Good c Q P (at_line g) (at_line h) H
  at_line_good {g} {h} each = record {
    viable = λ so. record {
      moves = λ i ok. ((each (line i)).viable so).moves i (ok, refl);
      stops = λ i ok. ((each (line i)).viable so).stops i (ok, refl);
    };
    local = λ so i ok j a. subst (λ k. Follows c (g (line i) i) (h k j)) (same_line c a) ((each (line i)).local so i (ok, refl) j a);
  }

  -- by whether the next token has a mark
  pub if_good : (k : Mark) {p1 q1 p2 q2 : Reader A} → Good c Q (λ i. P i × (sees k i ≡ true)) p1 q1 H → Good c Q (λ i. P i × (sees k i ≡ false)) p2 q2 H → Good c Q P (if_next k p1 p2) (if_next k q1 q2) H
  if_good k {p1} {q1} {p2} {q2} is_there not_there = record {
    viable = λ so. record {
      moves = λ i ok y e. moves_by so i ok (sees k i) refl y e;
      stops = λ i ok stop wide n there e. stops_by so i ok (sees k i) refl stop wide n there e;
    };
    local = λ so i ok j a. subst (λ b. Follows c ((if sees k i then p1 else p2) i) ((if b then q1 else q2) j)) (same_sees c a k) (local_by so i ok (sees k i) refl j a);
  }
    where
      moves_by : Q → (i : List Tok) → P i → (b : Bool) → sees k i ≡ b → (y : A × List Tok) → (if b then p1 else p2) i ≡ Ok y → (wide : Bool) (n : ℕ) (s : List Tok) → (j : List Tok) × Shifted i y.1 j s × H (room_of c.most wide n) y.0 j s
      moves_by so i ok true is = (is_there.viable so).moves i (ok, is)
      moves_by so i ok false is = (not_there.viable so).moves i (ok, is)

      stops_by : Q → (i : List Tok) → P i → (b : Bool) → sees k i ≡ b → (stop : Stop) (wide : Bool) (n : ℕ) → Placed wide stop n → (if b then p1 else p2) i ≡ Err stop → Completed c.most wide H i n
      stops_by so i ok true is = (is_there.viable so).stops i (ok, is)
      stops_by so i ok false is = (not_there.viable so).stops i (ok, is)

      local_by : Q → (i : List Tok) → P i → (b : Bool) → sees k i ≡ b → (j : List Tok) → Shifted i c.from j c.to → Follows c ((if b then p1 else p2) i) ((if b then q1 else q2) j)
      local_by so i ok true is = is_there.local so i (ok, is)
      local_by so i ok false is = not_there.local so i (ok, is)

  -- readers that give the same
  pub good_same : {p q p1 q1 : Reader A} → ((i : List Tok) → p1 i ≡ p i) → ((i : List Tok) → q1 i ≡ q i) → Good c Q P p q H → Good c Q P p1 q1 H
  good_same {p} {q} {p1} {q1} e1 e2 good = record {
    viable = λ so. record {
      moves = λ i ok y e. (good.viable so).moves i ok y (sym (e1 i) ∙ e);
      stops = λ i ok stop wide k there e. (good.viable so).stops i ok stop wide k there (sym (e1 i) ∙ e);
    };
    local = λ so i ok j a. subst (λ o. Follows c o (q1 j)) (sym (e1 i)) (subst (λ o. Follows c (p i) o) (sym (e2 j)) (good.local so i ok j a));
  }

  -- what is spelled is spelled by another rule
  pub good_as : {p q : Reader A} {G : Rule A} → ((room : ℕ → Room) (x : A) (i r : List Tok) → G room x i r → H room x i r) → Good c Q P p q G → Good c Q P p q H
  good_as to good = record {
    viable = λ so. record {
      moves = λ i ok y e wide n s. let (j, a, h) = (good.viable so).moves i ok y e wide n s in (j, a, to (room_of c.most wide n) y.0 j s h);
      stops = λ i ok stop wide k there e.
          let (r, w, is, go) = (good.viable so).stops i ok stop wide k there e in
          (r, w, is, λ n s few. let (x, j, a, h) = go n s few in (x, j, a, to (room_of c.most wide n) x j _ h));
    };
    local = good.local;
  }

  -- on fewer tokens
  pub good_on : {p q : Reader A} {P1 : List Tok → Type 0} → ((i : List Tok) → P i → P1 i) → Good c Q P1 p q H → Good c Q P p q H
  good_on fewer good = record {
    viable = λ so. record {
      moves = λ i ok. (good.viable so).moves i (fewer i ok);
      stops = λ i ok. (good.viable so).stops i (fewer i ok);
    };
    local = λ so i ok. good.local so i (fewer i ok);
  }

  -- the next token is known, and it is passed
  pub taking_good : {g h : List ℕ → Reader A} (T : Tok → Type 0) → ((i : List Tok) → P i → First T i)
      → ((b : List ℕ) → Good c Q Anywhere (g b) (h b) (λ room y r s. (t : Tok) → T t → t.text ≡ b → H room y (t ∷ r) s)) → Good c Q P (taking g) (taking h) H
  taking_good {g} {h} T is each = record {
    viable = λ so. record {
      moves = λ i ok. moves_by so i (is i ok);
      stops = λ i ok. stops_by so i (is i ok);
    };
    local = λ so i ok. local_by so i (is i ok);
  }
    where
      moves_by : Q → (i : List Tok) → First T i → (y : A × List Tok) → taking g i ≡ Ok y → (wide : Bool) (n : ℕ) (s : List Tok) → (j : List Tok) × Shifted i y.1 j s × H (room_of c.most wide n) y.0 j s
      moves_by so _ (leads {t} {r} is) y e wide n s = let (j, a, b) = ((each t.text).viable so).moves r tt y e wide n s in (t ∷ j, f.behind a, b t is refl)

      stops_by : Q → (i : List Tok) → First T i → (stop : Stop) (wide : Bool) (k : ℕ) → Placed wide stop k → taking g i ≡ Err stop → Completed c.most wide H i k
      stops_by so _ (leads {t} {r} is) stop wide k there e =
          let (u, w, is_at, go) = ((each t.text).viable so).stops r tt stop wide k there e in
          (u, w, is_at, λ n s few. let (x, j, a, b) = go n s few in (x, t ∷ j, f.behind a, b t is refl))

      local_by : Q → (i : List Tok) → First T i → (j : List Tok) → Shifted i c.from j c.to → Follows c (taking g i) (taking h j)
      local_by so _ (leads {t} {r} is) j a = elim (split a) [
        | inl e ↦ (let long : length (t ∷ r) ≡ length c.from = ap length e.0 in beyond_follows c (g t.text r) (taking h j) (viable_beyond c ((each t.text).viable so) r tt (omega (arith, long))))
        | inr e ↦ (
            let (u, i1, j1, is_i, is_j, b) = e in
            let same_token : t ≡ u = cc in
            let same_rest : i1 ≡ r = cc in
            subst (λ z. Follows c (g t.text r) (taking h z)) (sym is_j)
            (subst (λ v. Follows c (g t.text r) (h v.text j1)) same_token ((each t.text).local so r tt j1 (subst (λ z. Shifted z c.from j1 c.to) same_rest b))))
      ]

module _ (c : Cut) (Q : Type 0) {A : Type 0} {P : List Tok → Type 0} {H : Rule A} where
  pub past_good : {p q : Reader A} (T : Tok → Type 0) → ((i : List Tok) → P i → First T i) → Good c Q Anywhere p q (λ room y r s. (t : Tok) → T t → H room y (t ∷ r) s) → Good c Q P (past p) (past q) H
  past_good {p} {q} T is good = taking_good c Q {g = λ _. p} {h = λ _. q} T is (λ b. good_as c Q (λ room y r s each t there _. each t there) good)

  -- the same by the mark alone
  pub past_mark : (k : Mark) {p q : Reader A} → ((i : List Tok) → P i → mark i ≡ Some k) → Good c Q Anywhere p q (λ room y r s. (i : List Tok) → At k i r → H room y i s) → Good c Q P (past p) (past q) H
  past_mark k {p} {q} is good = past_good (λ t. t.mark ≡ k) (λ i ok. first_mark i (is i ok)) (good_as c Q (λ room y r s each t e. each (t ∷ r) (at e)) good)

  -- the same with its line
  pub past_line : (k : Mark) (at_it : ℕ) {p q : Reader A} → ((i : List Tok) → P i → (mark i ≡ Some k) × (line i ≡ at_it))
      → Good c Q Anywhere p q (λ room y r s. (i : List Tok) → At k i r → sp.line i ≡ at_it → H room y i s) → Good c Q P (past p) (past q) H
  past_line k at_it {p} {q} is good = past_good (λ t. (t.mark ≡ k) × (t.line ≡ at_it)) (λ i ok. let (a, b) = is i ok in first_both i a b) (good_as c Q (λ room y r s each t e. each (t ∷ r) (at e.0) e.1) good)

  pub taking_line : (at_it : ℕ) {g h : List ℕ → Reader A} → ((i : List Tok) → P i → (mark i ≡ Some m.Name) × (line i ≡ at_it))
      → ((b : List ℕ) → Good c Q Anywhere (g b) (h b) (λ room y r s. (i : List Tok) → Named b i r → sp.line i ≡ at_it → H room y i s)) → Good c Q P (taking g) (taking h) H
  taking_line at_it {g} {h} is each = taking_good c Q {g = g} {h = h} (λ t. (t.mark ≡ m.Name) × (t.line ≡ at_it)) (λ i ok. let (a, b) = is i ok in first_both i a b)
      (λ b. good_as c Q (λ room y r s all t e same_name. all (t ∷ r) (named_at b t r e.0 same_name) e.1) (each b))

  pub after_line : (k : Mark) (at_it : ℕ) {p1 q1 p2 q2 : Reader A} → ((i : List Tok) → P i → line i ≡ at_it) → Good c Q Anywhere p1 q1 (λ room y r s. (i : List Tok) → At k i r → sp.line i ≡ at_it → H room y i s)
      → Good c Q (λ i. P i × (sees k i ≡ false)) p2 q2 H → Good c Q P (after_token k p1 p2) (after_token k q1 q2) H
  after_line k at_it {p1} {q1} {p2} {q2} lined is_there not_there =
      good_same c Q (after_is_if k p1 p2) (after_is_if k q1 q2)
      (if_good c Q k
      (taking_good c Q {g = λ _. p1} {h = λ _. q1} (λ t. (t.mark ≡ k) × (t.line ≡ at_it)) (λ i ok. first_line i ok.1 (lined i ok.0)) (λ b. good_as c Q (λ room y r s each t e _. each (t ∷ r) (at e.0) e.1) is_there)) not_there)

  -- a part that may be missing, after a token of this mark
  pub after_good : (k : Mark) {p1 q1 p2 q2 : Reader A} → Good c Q Anywhere p1 q1 (λ room y r s. (i : List Tok) → At k i r → H room y i s) → Good c Q (λ i. P i × (sees k i ≡ false)) p2 q2 H
      → Good c Q P (after_token k p1 p2) (after_token k q1 q2) H
  after_good k {p1} {q1} {p2} {q2} is_there not_there =
      good_same c Q (after_is_if k p1 p2) (after_is_if k q1 q2)
      (if_good c Q k
      (taking_good c Q {g = λ _. p1} {h = λ _. q1} (λ t. t.mark ≡ k) (λ i ok. first_sees i ok.1) (λ b. good_as c Q (λ room y r s each t e _. each (t ∷ r) (at e)) is_there)) not_there)

opens_by : {A : Type 0} (p : Reader A) (i : List Tok) (limit : ℕ → Bool) → limit (length i) ≡ true → (place.opens limit >> p) i ≡ p (rest i)
unfolding place.opens
opens_by p i limit e = ap (λ b. continued (λ _. p) (if b then Ok (tt {0}, rest i) else Err (Deep (length i)))) e

opens_not : {A : Type 0} (p : Reader A) (i : List Tok) (limit : ℕ → Bool) → limit (length i) ≡ false → (place.opens limit >> p) i ≡ Err (Deep (length i))
unfolding place.opens
opens_not p i limit e = ap (λ b. continued (λ _. p) (if b then Ok (tt {0}, rest i) else Err (Deep (length i)))) e

opening_is_if : {A : Type 0} (k : Mark) (p : Reader A) (limit : ℕ → Bool) (i : List Tok) → (place.opening limit k >> p) i ≡ if_next k (place.opens limit >> p) refuse i
unfolding place.opening
opening_is_if k p limit i = by_test (sees k i)
  where
    by_test : (b : Bool) → continued (λ _. p) (if b then place.opens limit i else refuse i) ≡ (if b then place.opens limit >> p else refuse) i
    by_test true = refl
    by_test false = refl

module _ (c : Cut) (Q : Type 0) {A : Type 0} {H : Rule A} where
  pub pure_whole : (a : A) → ((room : ℕ → Room) (i : List Tok) → H room a i i) → Whole c Q [] (pure a) (pure a) H
  pure_whole a holds = record { good = pure_good c Q a holds; makes = record { of = λ wide n s few. (a, holds (room_of c.most wide n) s) } }

module _ (c : Cut) (Q : Type 0) {A : Type 0} {p q : Reader A} {w : List Mark} {G H : Rule A} where
  pub whole_as : ((room : ℕ → Room) (x : A) (i r : List Tok) → G room x i r → H room x i r) → Whole c Q w p q G → Whole c Q w p q H
  whole_as to whole = record {
    good = good_as c Q to whole.good;
    makes = record { of = λ wide n s few. let (x, h) = whole.makes.of wide n s few in (x, to (room_of c.most wide n) x _ s h) };
  }

module _ (c : Cut) (Q : Type 0) {A : Type 0} {p q p1 q1 : Reader A} {w : List Mark} {H : Rule A} where
  pub whole_same : ((i : List Tok) → p1 i ≡ p i) → ((i : List Tok) → q1 i ≡ q i) → Whole c Q w p q H → Whole c Q w p1 q1 H
  whole_same e1 e2 whole = record { good = good_same c Q e1 e2 whole.good; makes = whole.makes }

-- a token opens one thing more, and what follows stands one deeper
module _ (c : Cut) (Q : Type 0) (d : ℕ) (k : Mark) {A : Type 0} {w : List Mark} {p q : Reader A} {H : Rule A}
    (inside : Whole c (d < c.most) w p q (λ room y r s. (i : List Tok) → Opens k (room d) i r → H room y i s)) where
  abbrev opened : ℕ → Bool
  opened left = nat_lt d c.most

  few_of : nat_lt d c.most ≡ true → d < c.most
  few_of e = grind (arith, nat_tests, e)

  many_of : nat_lt d c.most ≡ false → d < c.most → ⊥
  many_of e less = let also : nat_lt d c.most ≡ true = lt-ltb d c.most less in absurd (cc)

  moves_by : {t : Tok} {r : List Tok} → t.mark ≡ k → (b : Bool) → nat_lt d c.most ≡ b → (y : A × List Tok)
      → continued (λ _. p) (if b then Ok (tt {0}, r) else Err (Deep (length (t ∷ r)))) ≡ Ok y → (wide : Bool) (n : ℕ) (s : List Tok) → (j : List Tok) × Shifted (t ∷ r) y.1 j s × H (room_of c.most wide n) y.0 j s
  moves_by {t} {r} is true few y e wide n s =
      let (j, a, h) = (inside.good.viable (few_of few)).moves r tt y e wide n s in
      (t ∷ j, f.behind a, h (t ∷ j) (opens (room_few c.most wide n d (t ∷ j) (few_of few)) (at is)))
  moves_by is false few y e wide n s = cc

  deep_stops : (t : Tok) (r : List Tok) → t.mark ≡ k → (stop : Stop) (wide : Bool) (n : ℕ) → Placed wide stop n → ◌≡◌ {A = Reading A} (Err (Deep (length (t ∷ r)))) (Err stop) → Completed c.most wide H (t ∷ r) n
  deep_stops t r is (Deep left) false n there e =
      let at_it : length (t ∷ r) ≡ left = cc in (
        t ∷ r,
        k ∷ w,
        sym (at_it ∙ there),
        λ most s few.
            let (x, h) = inside.makes.of false most s (omega (arith, few)) in
            (x, sample k ∷ onto w s, f.here, h (sample k ∷ onto w s) (opens (room_late c.most false most d (sample k ∷ onto w s) few) (at refl))),
      )
  deep_stops t r is (Deep left) true n there e =
      let at_it : length (t ∷ r) ≡ left = cc in
      let left_is : n ≡ length r = elim there [ inl some ↦ omega (arith, at_it, some) | inr none ↦ absurd (omega (arith, at_it, none)) ] in (
        r,
        w,
        left_is,
        λ most s few.
            let (x, h) = inside.makes.of true most s few in
            (x, t ∷ onto w s, f.behind f.here, h (t ∷ onto w s) (opens tt (at is))),
      )
  deep_stops t r is (Syntax left) wide n there e = absurd (cc)
  deep_stops t r is Memory wide n there e = absurd (cc)

  stops_by : {t : Tok} {r : List Tok} → t.mark ≡ k → (b : Bool) → nat_lt d c.most ≡ b → (stop : Stop) (wide : Bool) (n : ℕ) → Placed wide stop n
      → continued (λ _. p) (if b then Ok (tt {0}, r) else Err (Deep (length (t ∷ r)))) ≡ Err stop → Completed c.most wide H (t ∷ r) n
  stops_by {t} {r} is true few stop wide n there e =
      let (u, v, is_at, go) = (inside.good.viable (few_of few)).stops r tt stop wide n there e in
      (u, v, is_at, λ most s short. let (x, j, a, h) = go most s short in (x, t ∷ j, f.behind a, h (t ∷ j) (opens (room_few c.most wide most d (t ∷ j) (few_of few)) (at is))))
  stops_by {t} {r} is false few stop wide n there e = deep_stops t r is stop wide n there e

  local_by : {t : Tok} {r : List Tok} → t.mark ≡ k → (b : Bool) → nat_lt d c.most ≡ b → (j : List Tok) → Shifted (t ∷ r) c.from j c.to
      → Follows c (continued (λ _. p) (if b then Ok (tt {0}, r) else Err (Deep (length (t ∷ r))))) ((place.opens (c.wider d) >> q) j)
  local_by {t} {r} is true few j a = elim (split a) [
    | inl e ↦ (let long : length (t ∷ r) ≡ length c.from = ap length e.0 in beyond_follows c (p r) ((place.opens (c.wider d) >> q) j) (viable_beyond c (inside.good.viable (few_of few)) r tt (omega (arith, long))))
    | inr e ↦ (
        let (u, i1, j1, is_i, is_j, b) = e in
        let same_rest : i1 ≡ r = cc in
        let goes : (place.opens (c.wider d) >> q) (u ∷ j1) ≡ q j1 = opens_by q (u ∷ j1) (c.wider d) (c.more d (u ∷ j1) (few_of few)) in
        subst (λ z. Follows c (p r) ((place.opens (c.wider d) >> q) z)) (sym is_j)
        (subst (λ z. Follows c (p r) z) (sym goes) (inside.good.local (few_of few) r tt j1 (subst (λ z. Shifted z c.from j1 c.to) same_rest b))))
  ]
  local_by {t} {r} is false few j a = λ told y e. elim (split a) [
    | inl both ↦ (
        let shut : c.wider d (length j) ≡ false = subst (λ z. c.wider d (length z) ≡ false) (sym both.1) (c.no told.0 d (many_of few)) in
        let never = sym (opens_not q j (c.wider d) shut) ∙ e in
        cc)
    | inr parts ↦ (let (u, i1, j1, is_i, is_j, b) = parts in let long : length (t ∷ r) ≡ length (u ∷ i1) = ap length is_i in omega (arith, told.1, long, not_longer b))
  ]

  moves_at : (i : List Tok) → First (λ t. t.mark ≡ k) i → (y : A × List Tok) → (place.opens opened >> p) i ≡ Ok y → (wide : Bool) (n : ℕ) (s : List Tok) → (j : List Tok) × Shifted i y.1 j s × H (room_of c.most wide n) y.0 j s
  unfolding place.opens
  moves_at _ (leads is) y e = moves_by is (nat_lt d c.most) refl y e

  stops_at : (i : List Tok) → First (λ t. t.mark ≡ k) i → (stop : Stop) (wide : Bool) (n : ℕ) → Placed wide stop n → (place.opens opened >> p) i ≡ Err stop → Completed c.most wide H i n
  unfolding place.opens
  stops_at _ (leads is) stop wide n there e = stops_by is (nat_lt d c.most) refl stop wide n there e

  local_at : (i : List Tok) → First (λ t. t.mark ≡ k) i → (j : List Tok) → Shifted i c.from j c.to → Follows c ((place.opens opened >> p) i) ((place.opens (c.wider d) >> q) j)
  unfolding place.opens
  local_at _ (leads is) j a = local_by is (nat_lt d c.most) refl j a

  -- the mark of the token is known
  pub opens_good : {P : List Tok → Type 0} → ((i : List Tok) → P i → First (λ t. t.mark ≡ k) i) → Good c Q P (place.opens (opened) >> p) (place.opens (c.wider d) >> q) H
  opens_good is = record {
    viable = λ so. record {
      moves = λ i ok y e. moves_at i (is i ok) y e;
      stops = λ i ok stop wide n there e. stops_at i (is i ok) stop wide n there e;
    };
    local = λ so i ok j a. local_at i (is i ok) j a;
  }

  -- what it is made of
  pub opened_makes : Makes c.most (k ∷ w) H
  opened_makes = record {
    of = λ wide n s few.
        let (x, h) = inside.makes.of wide n s (omega (arith, few)) in
        (x, h (sample k ∷ onto w s) (opens (room_late c.most wide n d (sample k ∷ onto w s) few) (at refl)));
  }

  pub opening_whole : Whole c Q (k ∷ w) (place.opening opened k >> p) (place.opening (c.wider d) k >> q) H
  opening_whole = record {
    good = good_same c Q (λ i. opening_is_if k p opened i) (λ i. opening_is_if k q (c.wider d) i) (if_good c Q k (opens_good (λ i ok. first_sees i ok.1)) (refuse_good c Q {w = k ∷ w} opened_makes));
    makes = opened_makes;
  }

-- ---- tokens that must stand there

module _ (c : Cut) (Q : Type 0) where
  module _ (k : Mark) where
    expect_if : (i : List Tok) → expect k i ≡ if_next k (past (pure tt)) refuse i
    unfolding expect
    expect_if i = by_test (sees k i)
      where
        by_test : (b : Bool) → (if b then Ok (tt {0}, rest i) else refuse i) ≡ (if b then past (pure (tt {0})) else refuse) i
        by_test true = refl
        by_test false = refl

    expect_makes : Makes c.most (k ∷ []) {A = Unit {0}} (λ room _ i r. At k i r)
    expect_makes = record { of = λ wide n s few. (tt, at refl) }

    pub expect_whole : Whole c Q (k ∷ []) (expect k) (expect k) (λ room _ i r. At k i r)
    expect_whole = record {
      good = good_same c Q expect_if expect_if (if_good c Q k
          (past_good c Q (λ t. t.mark ≡ k) (λ i ok. first_sees i ok.1) (pure_good c Q tt (λ room i t is. at is)))
          (refuse_good c Q {w = k ∷ []} expect_makes));
      makes = expect_makes;
    }

  word_if : (i : List Tok) → word m.Name i ≡ if_next m.Name (taking (λ b. pure b)) refuse i
  unfolding word
  word_if i = by_test (sees m.Name i)
    where
      by_test : (b : Bool) → (if b then Ok (text i, rest i) else refuse i) ≡ (if b then taking (λ b. pure b) else refuse) i
      by_test true = refl
      by_test false = refl

  word_makes : Makes c.most (m.Name ∷ []) (λ room b i r. Named b i r)
  word_makes = record { of = λ wide n s few. (_, named refl) }

  pub word_whole : Whole c Q (m.Name ∷ []) (word m.Name) (word m.Name) (λ room b i r. Named b i r)
  word_whole = record {
    good = good_same c Q word_if word_if (if_good c Q m.Name
        (taking_good c Q (λ t. t.mark ≡ m.Name) (λ i ok. first_sees i ok.1) (λ b. pure_good c Q b (λ room i t is same_name. named_at b t i is same_name)))
        (refuse_good c Q {w = m.Name ∷ []} word_makes));
    makes = word_makes;
  }

  -- a name is next
  pub taking_name : {A : Type 0} {P : List Tok → Type 0} {H : Rule A} {g h : List ℕ → Reader A} → ((i : List Tok) → P i → mark i ≡ Some m.Name)
      → ((b : List ℕ) → Good c Q Anywhere (g b) (h b) (λ room y r s. (i : List Tok) → Named b i r → H room y i s)) → Good c Q P (taking g) (taking h) H
  taking_name is each = taking_good c Q (λ t. t.mark ≡ m.Name) (λ i ok. first_mark i (is i ok)) (λ b. good_as c Q (λ room y r s all t there same_name. all (t ∷ r) (named_at b t r there same_name)) (each b))

  -- the token stands for a value
  module _ (k : Mark) {A : Type 0} (F : List ℕ → Option A) (G : Spelling A) (spells : (t : Tok) (r : List Tok) (x : A) → t.mark ≡ k → F t.text ≡ Some x → G x (t ∷ r) r)
      {w : List Mark} (makes : Makes c.most w (λ room. G)) where
    stands_by : (o : Option A) → Good c Q (λ i. (sees k i ≡ true) × (F (text i) ≡ o)) (stands_for o) (stands_for o) (λ room. G)
    stands_by None = refuse_good c Q makes
    stands_by (Some x) = past_good c Q (λ t. (t.mark ≡ k) × (F t.text ≡ Some x)) (λ i ok. first_value k F i ok.0 ok.1) (pure_good c Q x (λ room i t is. spells t i x is.0 is.1))

    value_good : Good c Q Anywhere (if_next k (λ i. stands_for (F (text i)) i) refuse) (if_next k (λ i. stands_for (F (text i)) i) refuse) (λ room. G)
    value_good = if_good c Q k (by_text_good c Q F (λ o. good_on c Q (λ i ok. (ok.0.1, ok.1)) (stands_by o))) (refuse_good c Q makes)

  number_if : (i : List Tok) → reader.number i ≡ if_next m.Number (λ i. stands_for (number_of (text i)) i) refuse i
  unfolding reader.number
  number_if i = by_test (sees m.Number i)
    where
      by_test : (b : Bool) → (if b then stands_for (number_of (text i)) i else refuse i) ≡ (if b then (λ i. stands_for (number_of (text i)) i) else refuse) i
      by_test true = refl
      by_test false = refl

  number_makes : Makes c.most (m.Number ∷ []) (λ room n i r. Number n i r)
  unfolding number_of
  number_makes = record { of = λ wide n s few. (0, number {n = 0} {t = sample m.Number} {r = s} refl refl) }

  pub number_whole : Whole c Q (m.Number ∷ []) reader.number reader.number (λ room n i r. Number n i r)
  number_whole = record {
    good = good_same c Q number_if number_if (value_good m.Number number_of Number (λ t r x is reads_as. number is reads_as) {w = m.Number ∷ []} number_makes);
    makes = number_makes;
  }

  quoted_if : (i : List Tok) → reader.quoted i ≡ if_next m.Quoted (λ i. stands_for (text_of (text i)) i) refuse i
  unfolding reader.quoted
  quoted_if i = by_test (sees m.Quoted i)
    where
      by_test : (b : Bool) → (if b then stands_for (text_of (text i)) i else refuse i) ≡ (if b then (λ i. stands_for (text_of (text i)) i) else refuse) i
      by_test true = refl
      by_test false = refl

  quoted_makes : Makes c.most (m.Quoted ∷ []) (λ room b i r. Quoted b i r)
  unfolding text_of unquoted
  quoted_makes = record { of = λ wide n s few. ([], quoted {b = []} {t = sample m.Quoted} {r = s} refl refl) }

  pub quoted_whole : Whole c Q (m.Quoted ∷ []) reader.quoted reader.quoted (λ room b i r. Quoted b i r)
  quoted_whole = record {
    good = good_same c Q quoted_if quoted_if (value_good m.Quoted text_of Quoted (λ t r x is reads_as. quoted is reads_as) {w = m.Quoted ∷ []} quoted_makes);
    makes = quoted_makes;
  }
