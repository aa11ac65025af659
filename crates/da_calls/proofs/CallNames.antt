-- Names and their numbers.
use Rattle.std.proofs.Common.{◌≡◌, ◌∙◌, ℕ, Bool, true, false, List, Some, Result, Ok, Err, OnOk, Vec, Global, rules, subst, sym, refl, ap, ⊎_elim}
use Rattle.std.specs.Bool.{if◌then◌else◌}
use Rattle.std.specs.BTreeMap.{BTreeMap, UpdatesBy, get_by, is_at}
use Rattle.std.specs.Cmp.Lexicographic.{slice_cmp}
use Rattle.std.specs.Map.{KeepsOthers}
use Rattle.std.specs.Ordering.{nat_cmp, is_eq}
use Rattle.std.specs.Str.{bytes_eq}
use Rattle.std.proofs.lemmas.Bool.{cases_Bool}
use Rattle.std.proofs.lemmas.Map.Text.{is_eq-slice_cmp}
use Rattle.std.proofs.lemmas.Slice.Eq.{bytes_eq-Decides}

pub same_name : (a b : List ℕ) → bytes_eq a b ≡ true → a ≡ b
same_name a b e = (bytes_eq-Decides a b).0 e

pub name_same : (a b : List ℕ) → a ≡ b → bytes_eq a b ≡ true
name_same a b e = (bytes_eq-Decides a b).1 e

pub false_or_true : (b : Bool) → (b ≡ true → ⊥) → b ≡ false
false_or_true true none = absurd (none refl)
false_or_true false none = refl

abbrev name_at : List ℕ → Vec ℕ Global → Bool
name_at name key = is_at (λ k. slice_cmp nat_cmp name k.items) key

at_same : (name : List ℕ) (key : Vec ℕ Global) → name_at name key ≡ true → name ≡ key.items
at_same name key e = same_name name key.items (sym (is_eq-slice_cmp name key.items) ∙ e)

-- what a name finds when a number was put under one
pub put_finds : (old new : BTreeMap (Vec ℕ Global) ℕ) (name : List ℕ) (number : ℕ) → UpdatesBy (λ x y. slice_cmp nat_cmp x.items y.items) (λ k. slice_cmp nat_cmp name k.items) old new (Some number)
    → (other : List ℕ) → get_by (λ k. slice_cmp nat_cmp other k.items) new ≡ (if bytes_eq name other then Some number else get_by (λ k. slice_cmp nat_cmp other k.items) old)
unfolding KeepsOthers
put_finds old new name number h other =
    ⊎_elim
    (λ yes_. subst (λ o. get_by (λ k. slice_cmp nat_cmp o k.items) new ≡ Some number) (same_name name other yes_) h.1 ∙ sym (ap (λ b. if b then Some number else get_by (λ k. slice_cmp nat_cmp other k.items) old) yes_))
    (λ no_. h.3 (name_at other)
    (λ x y e. let same : other ≡ x.items = at_same other x e in ap (λ o. is_eq (slice_cmp nat_cmp o y.items)) same)
    (λ k e. false_or_true (name_at other k) (λ both. differ (sym no_ ∙ name_same name other (at_same name k e ∙ sym (at_same other k both)))))
    ∙ sym (ap (λ b. if b then Some number else get_by (λ k. slice_cmp nat_cmp other k.items) old) no_))
    (cases_Bool (bytes_eq name other))
  where
    differ : false ≡ true → ⊥
    differ e = cc

-- the same, where the key was copied
pub put_finds_copy : (old new : BTreeMap (Vec ℕ Global) ℕ) (name copy : List ℕ) (number : ℕ) → copy ≡ name → UpdatesBy (λ x y. slice_cmp nat_cmp x.items y.items) (λ k. slice_cmp nat_cmp copy k.items) old new (Some number)
    → (other : List ℕ) → get_by (λ k. slice_cmp nat_cmp other k.items) new ≡ (if bytes_eq name other then Some number else get_by (λ k. slice_cmp nat_cmp other k.items) old)
put_finds_copy old new name copy number same h =
    put_finds old new name number (subst (λ n. UpdatesBy (λ x y. slice_cmp nat_cmp x.items y.items) (λ k. slice_cmp nat_cmp n k.items) old new (Some number)) same h)

pub on_ok : {A E : Type 0} (r : Result A E) (P : Type 0) → P → OnOk r P
on_ok (Ok x) P p = p
on_ok (Err e) P p = search rules

pub on_err : {A E : Type 0} (r : Result A E) (P : Type 0) (e : E) → r ≡ Err e → OnOk r P
on_err (Ok x) P e is = absurd (differ x e is)
  where
    differ : {A E : Type 0} (x : A) (e : E) → ◌≡◌ {A = Result A E} (Ok x) (Err e) → ⊥
    differ x e is = cc
on_err (Err f) P e is = search rules
