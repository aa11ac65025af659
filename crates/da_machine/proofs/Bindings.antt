-- A loop that puts values into slots one by one.
use Rattle.std.proofs.Common.{◌≡◌, ℕ, zero, suc, ◌+◌, List, [], ◌∷◌, length, drop, ◌≤◌, Some, None, refl, sym, ap, ◌∙◌, subst, arith}
use Rattle.std.specs.Prelude.{slice_get}
use Rattle.da_values.specs.declared.val.Val.{Val}
use Rattle.da_lang.specs.declared.event.Action.{Action}
use Rattle.da_lang.specs.Turns.{bind_all}
use Rattle.da_lang.specs.World.{Data, put_slot}
use Rattle.da_machine.specs.Conditions.{Standing, SomeProcess, EachProcess, Takes, TakesAll}
use Rattle.da_machine.specs.RunsTo.{AddsPrefix}
use Rattle.da_machine.proofs.Prefixes.{same_prefix}
use Rattle.da_machine.proofs.KnownLaws.{put_known}

-- nothing that was due is done yet
pub not_yet : (old due : List Action) → AddsPrefix old old due
not_yet old due = same_prefix old old due refl

-- So many values were put. Some process is stood for that takes the others, and each process comes to what it is to know.
pub record Binding (stands now : Standing) (old new : List Action) (slots : List ℕ) (values : List Val) (place : ℕ) : Type 0 where
  pub alive : SomeProcess now (λ p class d. TakesAll p class (drop place slots) (drop place values))
  pub follows : EachProcess stands (λ p class d. (d1 : Data) × now p class d1 × (bind_all (drop place slots) (drop place values) d1 ≡ bind_all slots values d))
  pub same : new ≡ old

drop_some : {A : Type 0} (xs : List A) (k : ℕ) (x : A) → slice_get xs k ≡ Some x → drop k xs ≡ x ∷ drop (k + 1) xs
drop_some [] k x e = absurd (let f : None ≡ Some x = e in cc)
drop_some (y ∷ xs) zero x e = let same : y ≡ x = cc in ap (λ z. z ∷ xs) same
drop_some (y ∷ xs) (suc k) x e = let n : suc k + 1 ≡ suc (k + 1) = omega arith in rw n (drop_some xs k x e)

drop_none : {A : Type 0} (xs : List A) (k : ℕ) → slice_get xs k ≡ None → drop k xs ≡ []
drop_none [] zero e = refl
drop_none [] (suc k) e = refl
drop_none (x ∷ xs) zero e = absurd (let f : Some x ≡ None = e in cc)
drop_none (x ∷ xs) (suc k) e = drop_none xs k e

drop_past : {A : Type 0} (xs : List A) (k : ℕ) → length xs ≤ k → drop k xs ≡ []
drop_past [] zero over = refl
drop_past [] (suc k) over = refl
drop_past (x ∷ xs) zero over = absurd (omega (arith, over))
drop_past (x ∷ xs) (suc k) over = drop_past xs k (omega (arith, over))

bind_none : (slots : List ℕ) (d : Data) → bind_all slots [] d ≡ d
bind_none [] d = refl
bind_none (s ∷ ss) d = refl

module _ (stands : Standing) (old new : List Action) (slots : List ℕ) (values : List Val) where
  pub binding_begins : SomeProcess stands (λ p class d. TakesAll p class slots values) → Binding stands stands old old slots values 0
  binding_begins may = record { alive = may; follows = λ p class d is. (d, is, refl); same = refl }

  module _ (now : Standing) (place : ℕ) (came : Binding stands now old new slots values place) where
    pub may_put : (s : ℕ) (v : Val) → slice_get slots place ≡ Some s → slice_get values place ≡ Some v → SomeProcess now (λ p class d. Takes p class s v)
    may_put s v is_slot is_value =
        let a = came.alive in
        let all = subst (λ vs. TakesAll a.0 a.1 (drop place slots) vs) (drop_some values place v is_value) a.5 in
        let all2 = subst (λ ss. TakesAll a.0 a.1 ss (v ∷ drop (place + 1) values)) (drop_some slots place s is_slot) all in
        (a.0, a.1, a.2, a.3, a.4, all2.0)

    pub binding_on : (later : Standing) (s : ℕ) (v : Val) → slice_get slots place ≡ Some s → slice_get values place ≡ Some v
        → EachProcess now (λ p class d. later p class (put_slot d s v)) → (new2 : List Action) → new2 ≡ new → Binding stands later old new2 slots values (place + 1)
    binding_on later s v is_slot is_value put new2 quiet =
        let a = came.alive in
        let all = subst (λ vs. TakesAll a.0 a.1 (drop place slots) vs) (drop_some values place v is_value) a.5 in
        let all2 = subst (λ ss. TakesAll a.0 a.1 ss (v ∷ drop (place + 1) values)) (drop_some slots place s is_slot) all in
        record {
          alive = (a.0, a.1, put_slot a.2 s v, put a.0 a.1 a.2 a.3, put_known a.0 a.1 a.2 s v a.4 all2.0, all2.1);
          follows = λ p class d is.
              let f = came.follows p class d is in (
                put_slot f.0 s v,
                put p class f.0 f.1,
                sym (ap (λ ss. bind_all ss (v ∷ drop (place + 1) values) f.0) (drop_some slots place s is_slot))
                    ∙ sym (ap (λ vs. bind_all (drop place slots) vs f.0) (drop_some values place v is_value)) ∙ f.2,
              );
          same = quiet ∙ came.same;
        }

    pub bound_slots : slice_get slots place ≡ None → EachProcess stands (λ p class d. now p class (bind_all slots values d))
    bound_slots none p class d is =
        let f = came.follows p class d is in
        subst (now p class) (sym (ap (λ ss. bind_all ss (drop place values) f.0) (drop_none slots place none)) ∙ f.2) f.1

    pub bound_end : length slots ≤ place → EachProcess stands (λ p class d. now p class (bind_all slots values d))
    bound_end over p class d is =
        let f = came.follows p class d is in
        subst (now p class) (sym (ap (λ ss. bind_all ss (drop place values) f.0) (drop_past slots place over)) ∙ f.2) f.1

    pub bound_values : slice_get values place ≡ None → EachProcess stands (λ p class d. now p class (bind_all slots values d))
    bound_values none p class d is =
        let f = came.follows p class d is in
        subst (now p class) (sym (bind_none (drop place slots) f.0) ∙ sym (ap (λ vs. bind_all (drop place slots) vs f.0) (drop_none values place none)) ∙ f.2) f.1
