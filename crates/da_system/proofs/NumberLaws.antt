-- Members by their numbers after one was put, in a list and in a list of lists.
use Rattle.std.proofs.Common.{◌≡◌, refl, sym, ◌∙◌, ap, ℕ, zero, suc, ◌<◌, List, [], ◌∷◌, length, inl, inr, arith}
use Rattle.std.specs.Prelude.{true, Option, Some, None, is_some, slice_get, slice_set}
use Rattle.std.proofs.lemmas.Bool.{cases_eq, false≢true}
use Rattle.da_lang.specs.World.{at_number}
use Rattle.da_system.specs.Channels.{Channels, MessageInFlight, channel, or_empty, put_numbered, with_channel}
use Rattle.da_system.specs.Queues.{IsAmong}

module _ {A : Type 0} where
  get_set : (xs : List A) (k : ℕ) (x : A) → is_some (slice_get xs k) ≡ true → slice_get (slice_set xs k x) k ≡ Some x
  get_set [] k x there = absurd (false≢true there)
  get_set (y ∷ ys) zero x there = refl
  get_set (y ∷ ys) (suc k) x there = get_set ys k x there

  get_set_none : (xs : List A) (k : ℕ) (x : A) → slice_get xs k ≡ None → slice_get (slice_set xs k x) k ≡ None
  get_set_none [] k x none = refl
  get_set_none (y ∷ ys) zero x none = absurd (false≢true (sym (ap is_some none)))
  get_set_none (y ∷ ys) (suc k) x none = get_set_none ys k x none

  get_set_other : (xs : List A) (j k : ℕ) (x : A) → (j ≡ k → ⊥) → slice_get (slice_set xs k x) j ≡ slice_get xs j
  get_set_other [] j k x other = refl
  get_set_other (y ∷ ys) zero zero x other = absurd (other refl)
  get_set_other (y ∷ ys) (suc j) zero x other = refl
  get_set_other (y ∷ ys) zero (suc k) x other = refl
  get_set_other (y ∷ ys) (suc j) (suc k) x other = get_set_other ys j k x (λ same. other (ap suc same))

  pub put_there : (xs : List A) (n : ℕ) (x : A) → is_some (at_number xs n) ≡ true → at_number (put_numbered xs n x) n ≡ Some x
  put_there xs zero x there = absurd (false≢true there)
  put_there xs (suc k) x there = get_set xs k x there

  pub put_none : (xs : List A) (n : ℕ) (x : A) → at_number xs n ≡ None → at_number (put_numbered xs n x) n ≡ None
  put_none xs zero x none = refl
  put_none xs (suc k) x none = get_set_none xs k x none

  pub put_other : (xs : List A) (j n : ℕ) (x : A) → (j ≡ n → ⊥) → at_number (put_numbered xs n x) j ≡ at_number xs j
  put_other xs j zero x other = refl
  put_other xs zero (suc k) x other = refl
  put_other xs (suc j) (suc k) x other = get_set_other xs j k x (λ same. other (ap suc same))

  get_among : (xs : List A) (k : ℕ) → k < length xs → is_some (slice_get xs k) ≡ true
  get_among [] k inside = absurd (omega (arith, inside))
  get_among (x ∷ xs) zero inside = refl
  get_among (x ∷ xs) (suc k) inside = get_among xs k (omega (arith, inside))

  pub among_there : (xs : List A) (n : ℕ) → IsAmong (length xs) n → is_some (at_number xs n) ≡ true
  among_there xs zero among = absurd (omega (arith, among.0))
  among_there xs (suc k) among = get_among xs k (omega (arith, among.1))

-- IN A LIST OF LISTS

abbrev pub at_both : {A : Type 0} → List (List A) → ℕ → ℕ → Option A
at_both rows p q = at_number (or_empty (at_number rows p)) q

abbrev pub put_both : {A : Type 0} → List (List A) → ℕ → ℕ → A → List (List A)
put_both rows p q x = put_numbered rows p (put_numbered (or_empty (at_number rows p)) q x)

module _ {A : Type 0} (rows : List (List A)) (p q : ℕ) (x : A) where
  both_in : (row : Option (List A)) → at_number rows p ≡ row → is_some (at_number (or_empty row) q) ≡ true → at_both (put_both rows p q x) p q ≡ Some x
  both_in None is there = absurd (of q there)
    where
      of : (n : ℕ) → is_some (at_number {A = A} [] n) ≡ true → ⊥
      of zero there = false≢true there
      of (suc n) there = false≢true there
  both_in (Some row) is there =
      ap (λ (o : Option (List A)). at_number (or_empty o) q) (put_there rows p (put_numbered (or_empty (at_number rows p)) q x) (ap is_some is))
      ∙ ap (λ (o : Option (List A)). at_number (put_numbered (or_empty o) q x) q) is
      ∙ put_there row q x there

  pub both_there : is_some (at_both rows p q) ≡ true → at_both (put_both rows p q x) p q ≡ Some x
  both_there there = both_in (at_number rows p) refl there

  same_first : (b : ℕ) → (b ≡ q → ⊥) → (row : Option (List A)) → at_number rows p ≡ row → at_both (put_both rows p q x) p b ≡ at_both rows p b
  same_first b other None is =
      ap (λ (o : Option (List A)). at_number (or_empty o) b) (put_none rows p (put_numbered (or_empty (at_number rows p)) q x) is)
      ∙ ap (λ (o : Option (List A)). at_number (or_empty o) b) (sym is)
  same_first b other (Some row) is =
      ap (λ (o : Option (List A)). at_number (or_empty o) b) (put_there rows p (put_numbered (or_empty (at_number rows p)) q x) (ap is_some is))
      ∙ ap (λ (o : Option (List A)). at_number (put_numbered (or_empty o) q x) b) is
      ∙ put_other row b q x other
      ∙ ap (λ (o : Option (List A)). at_number (or_empty o) b) (sym is)

  pub both_other : (a b : ℕ) → ((a ≡ p) × (b ≡ q) → ⊥) → at_both (put_both rows p q x) a b ≡ at_both rows a b
  both_other a b other = elim (cases_eq a p) [
    | inr stranger ↦ ap (λ (o : Option (List A)). at_number (or_empty o) b) (put_other rows a p (put_numbered (or_empty (at_number rows p)) q x) stranger)
    | inl same ↦ ap (λ n. at_both (put_both rows p q x) n b) same ∙ same_first b (λ too. other (same, too)) (at_number rows p) refl ∙ ap (λ n. at_both rows n b) (sym same)
  ]

-- each other channel is as before
pub channel_other : (channels : Channels) (p q : ℕ) (messages : List MessageInFlight) (a b : ℕ) → ((a ≡ p) × (b ≡ q) → ⊥) → channel (with_channel channels p q messages) a b ≡ channel channels a b
channel_other channels p q messages a b other = ap (λ (o : Option (List MessageInFlight)). or_empty o) (both_other channels p q messages a b other)
