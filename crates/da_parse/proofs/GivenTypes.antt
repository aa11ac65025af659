-- A loop over a list that puts another element in each place in turn, and notes what it finds there.
use Rattle.std.proofs.Common.{◌≡◌, ℕ, zero, suc, ◌+◌, List, [], ◌∷◌, ◌++◌, length, Some, refl, sym, ap, ◌∙◌, arith, append_assoc, append-nil, length-append}
use Rattle.std.proofs.lemmas.List.{length-map, length-set}
use Rattle.std.specs.Prelude.{map, slice_get, slice_set}
use Rattle.da_lang.specs.declared.tree.ClassTree.{ClassTree}
use Rattle.da_lang.specs.declared.tree.Member.{Member}
use Rattle.da_parse.specs.declared.loose.OpenParam.{OpenParam}
use Rattle.da_parse.specs.Loose.{open_param, open_params, params_of, open_members, open_classes}

-- what is noted in a list of things from one place on
pub record Notes {A : Type 0} (one : ℕ → A → List OpenParam) (all : ℕ → List A → List OpenParam) : Type 0 where
  pub none : (at : ℕ) → all at [] ≡ []
  pub more : (at : ℕ) (x : A) (xs : List A) → all at (x ∷ xs) ≡ one at x ++ all (at + 1) xs

-- Where the loop stands: before this place all are given, from there on they are as they were; and with what is noted so far
-- and in those, all is noted.
pub record Given {A : Type 0} (give : A → A) (all : ℕ → List A → List OpenParam) (old now : List A) (before noted : List OpenParam) (at : ℕ) : Type 0 where
  pub front : List A
  pub rest : List A
  pub whole : old ≡ front ++ rest
  pub here : now ≡ map give front ++ rest
  pub place : at ≡ length front
  pub notes : noted ++ all at rest ≡ before ++ all 0 old

module _ {A : Type 0} (give : A → A) (all : ℕ → List A → List OpenParam) where
  pub given_none : (old : List A) (before : List OpenParam) → Given give all old old before before 0
  given_none old before = record { front = []; rest = old; whole = refl; here = refl; place = refl; notes = refl }

  next_there : (front rest : List A) (x : A) → slice_get (map give front ++ rest) (length front) ≡ Some x → (others : List A) × (rest ≡ x ∷ others)
  next_there [] [] x e = cc
  next_there [] (y ∷ ys) x e = let same : y ≡ x = cc in (ys, ap (λ z. z ∷ ys) same)
  next_there (y ∷ front) rest x e = next_there front rest x e

  put_twice : (front rest : List A) (x blank : A) → slice_set (slice_set (map give front ++ x ∷ rest) (length front) blank) (length front) (give x) ≡ map give (front ++ x ∷ []) ++ rest
  put_twice [] rest x blank = refl
  put_twice (y ∷ front) rest x blank = ap (λ l. give y ∷ l) (put_twice front rest x blank)

  pub given_on : (one : ℕ → A → List OpenParam) → Notes one all → (old now : List A) (before noted : List OpenParam) (at : ℕ) → Given give all old now before noted at
      → (x y blank : A) (put after : List A) (more : List OpenParam) → slice_get now at ≡ Some x → put ≡ slice_set now at blank → y ≡ give x → after ≡ slice_set put at y → more ≡ noted ++ one at x
      → Given give all old after before more (at + 1)
  given_on one each old now before noted at g x y blank put after more there first gives second noted_more =
      let (others, is) = next_there g.front g.rest x (sym (ap (λ l. slice_get l (length g.front)) g.here) ∙ ap (slice_get now) (sym g.place) ∙ there) in
      record {
        front = g.front ++ x ∷ [];
        rest = others;
        whole = g.whole ∙ ap (λ l. g.front ++ l) is ∙ sym (append_assoc g.front (x ∷ []) others);
        here = second ∙ ap (λ l. slice_set l at y) first ∙ ap (slice_set (slice_set now at blank) at) gives
            ∙ ap (λ l. slice_set (slice_set l at blank) at (give x)) (g.here ∙ ap (λ l. map give g.front ++ l) is)
            ∙ ap (λ n. slice_set (slice_set (map give g.front ++ x ∷ others) n blank) n (give x)) g.place
            ∙ put_twice g.front others x blank;
        place = omega (arith, g.place, length-append g.front (x ∷ []));
        notes = ap (λ l. l ++ all (at + 1) others) noted_more ∙ append_assoc noted (one at x) (all (at + 1) others)
            ∙ ap (λ l. noted ++ l) (sym (each.more at x others)) ∙ ap (λ l. noted ++ all at l) (sym is) ∙ g.notes;
      }

  over : (front rest : List A) → length front ≡ length (front ++ rest) → rest ≡ []
  over front [] e = refl
  over front (x ∷ rest) e = absurd (omega (arith, e, length-append front (x ∷ rest)))

  -- after the last place
  pub all_given : (one : ℕ → A → List OpenParam) → Notes one all → (old now : List A) (before noted : List OpenParam) (at : ℕ) → Given give all old now before noted at → at ≡ length old → (now ≡ map give old) × (noted ≡ before ++ all 0 old)
  all_given one each old now before noted at g end =
      let none = over g.front g.rest (sym g.place ∙ end ∙ ap length g.whole) in
      let same : old ≡ g.front = g.whole ∙ ap (λ l. g.front ++ l) none ∙ append-nil g.front in (
        g.here ∙ ap (λ l. map give g.front ++ l) none ∙ append-nil (map give g.front) ∙ ap (map give) (sym same),
        sym (append-nil noted) ∙ ap (λ l. noted ++ l) (sym (each.none at)) ∙ ap (λ l. noted ++ all at l) (sym none) ∙ g.notes,
      )

-- there are as many as before
pub given_size : {A : Type 0} (give : A → A) (all : ℕ → List A → List OpenParam) (old now : List A) (before noted : List OpenParam) (at : ℕ) → Given give all old now before noted at → length now ≡ length old
given_size give all old now before noted at g =
    omega (arith, ap length g.here, length-append (map give g.front) g.rest, length-map g.front give, ap length g.whole, length-append g.front g.rest)

-- and when one of them is replaced
pub put_size : {A : Type 0} (now put : List A) (at : ℕ) (x : A) → put ≡ slice_set now at x → length put ≡ length now
put_size now put at x is = ap length is ∙ length-set now at x

-- ---- the three lists

pub params_noted : (class_at member_at : ℕ) → Notes (open_param class_at member_at) (open_params class_at member_at)
params_noted class_at member_at = record { none = λ at. refl; more = λ at x xs. refl }

abbrev pub in_member : ℕ → ℕ → Member → List OpenParam
in_member class_at at x = open_params class_at at 0 (params_of x)

pub members_noted : (class_at : ℕ) → Notes (in_member class_at) (open_members class_at)
members_noted class_at = record { none = λ at. refl; more = λ at x xs. refl }

abbrev pub in_class : ℕ → ClassTree → List OpenParam
in_class at c = open_members at 0 c.members

pub classes_noted : Notes in_class open_classes
classes_noted = record { none = λ at. refl; more = λ at x xs. refl }
