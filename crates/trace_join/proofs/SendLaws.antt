-- What is sent goes into the channels, one message after the other, and one channel may change alone.
use Rattle.std.specs.Prelude.{◌≡◌, ◌⊎◌, ◌==◌, ℕ, zero, suc, ◌+◌, ◌-◌, ◌<◌, ◌≤◌, Bool, cond, List, [], ◌∷◌, ◌++◌, length, take, slice_get, slice_index_or, slice_set, Option, Some, None, is_some, refl}
use Rattle.std.proofs.Common.{sym, ap, ◌∙◌, subst, inl, inr, arith, append_assoc, append-nil}
use Rattle.std.proofs.lemmas.Bool.{cases_eq, eq-eqb, false≢true, ne_eqb}
use Rattle.std.specs.List.{AllByRecursion}
use Rattle.std.proofs.lemmas.List.{length-set}
use Rattle.da_lang.specs.declared.event.Action.{Action}
use Rattle.da_lang.specs.declared.event.Action.TheVariants.{Sent}
use Rattle.da_lang.specs.World.{at_number}
use Rattle.da_system.specs.Channels.{Channels, MessageInFlight, channel, or_empty}
use Rattle.da_system.specs.SoundState.{IsSquare}
use Rattle.trace_join.specs.Fetching.{message_in}
use Rattle.trace_join.specs.Sending.{IsOneOf, Pushes, SameElsewhere, Sends, SendsFromOne, channel_to}
use Rattle.trace_join.specs.Traces.{message_to, messages_to}

-- A MEMBER OF A LIST IS CHANGED

pub get_within : {A : Type 0} (xs : List A) (k : ℕ) (x : A) → k < length xs → x ≡ slice_index_or xs k x → slice_get xs k ≡ Some x
get_within [] k x within is = absurd (omega (arith, within))
get_within (y ∷ ys) zero x within is = ap Some (sym is)
get_within (y ∷ ys) (suc k) x within is = get_within ys k x (omega (arith, within)) is

pub set_there : {A : Type 0} (xs : List A) (k : ℕ) (x : A) → k < length xs → slice_get (slice_set xs k x) k ≡ Some x
set_there [] k x within = absurd (omega (arith, within))
set_there (y ∷ ys) zero x within = refl
set_there (y ∷ ys) (suc k) x within = set_there ys k x (omega (arith, within))

pub set_other : {A : Type 0} (xs : List A) (k j : ℕ) (x : A) → (j ≡ k → ⊥) → slice_get (slice_set xs k x) j ≡ slice_get xs j
set_other [] k j x other = refl
set_other (y ∷ ys) zero zero x other = absurd (other refl)
set_other (y ∷ ys) zero (suc j) x other = refl
set_other (y ∷ ys) (suc k) zero x other = refl
set_other (y ∷ ys) (suc k) (suc j) x other = set_other ys k j x (λ same. other (ap suc same))

module _ {A : Type 0} (xs : List A) (p : ℕ) (x : A) where
  pub numbered_within : (d : A) → IsOneOf (length xs) p → d ≡ slice_index_or xs (p - 1) d → at_number xs p ≡ Some d
  numbered_within d one is = of p one is
    where
      of : (n : ℕ) → IsOneOf (length xs) n → d ≡ slice_index_or xs (n - 1) d → at_number xs n ≡ Some d
      of zero one is = absurd (omega (arith, one.0))
      of (suc k) one is = get_within xs k d (omega (arith, one.1)) (subst (λ n. d ≡ slice_index_or xs n d) (let same : suc k - 1 ≡ k = omega arith in same) is)

  pub numbered_set : IsOneOf (length xs) p → at_number (slice_set xs (p - 1) x) p ≡ Some x
  numbered_set one = of p one
    where
      of : (n : ℕ) → IsOneOf (length xs) n → at_number (slice_set xs (n - 1) x) n ≡ Some x
      of zero one = absurd (omega (arith, one.0))
      of (suc k) one = ap (λ n. slice_get (slice_set xs n x) k) (let same : suc k - 1 ≡ k = omega arith in same) ∙ set_there xs k x (omega (arith, one.1))

  pub numbered_set_other : (q : ℕ) → IsOneOf (length xs) p → (q ≡ p → ⊥) → at_number (slice_set xs (p - 1) x) q ≡ at_number xs q
  numbered_set_other zero one other = none_both
    where
      none_both : at_number (slice_set xs (p - 1) x) 0 ≡ at_number xs 0
      none_both = refl
  numbered_set_other (suc j) one other = set_other xs (p - 1) j x (λ same. other (let number : suc j ≡ p = omega (arith, same, one.0) in number))

-- A ROW

module _ (row : List (List MessageInFlight)) (to : ℕ) (here next : List MessageInFlight) (one : IsOneOf (length row) to) (was : here ≡ slice_index_or row (to - 1) here) where
  pub row_here : channel_to row to ≡ here
  row_here = ap or_empty (numbered_within row to here here one was)

  pub row_there : channel_to (slice_set row (to - 1) next) to ≡ next
  row_there = ap or_empty (numbered_set row to next one)

  pub row_others : (q : ℕ) → (q ≡ to → ⊥) → channel_to (slice_set row (to - 1) next) q ≡ channel_to row q
  row_others q other = ap or_empty (numbered_set_other row to next q one other)

  pub row_pushed : (l : MessageInFlight) → next ≡ here ++ l ∷ [] → Pushes row (slice_set row (to - 1) next) to l
  row_pushed l pushed q among = elim (cases_eq q to) [
    | inl same ↦ ap (channel_to (slice_set row (to - 1) next)) same ∙ row_there ∙ pushed ∙ ap (λ (ls : List MessageInFlight). ls ++ l ∷ []) (sym row_here)
        ∙ ap (λ n. channel_to row n ++ l ∷ []) (sym same) ∙ ap (λ (b : Bool). channel_to row q ++ cond b (l ∷ []) []) (sym (eq-eqb q to same))
    | inr other ↦ row_others q other ∙ sym (append-nil (channel_to row q)) ∙ ap (λ (b : Bool). channel_to row q ++ cond b (l ∷ []) []) (sym (ne_eqb q to other))
  ]

pub row_out : (row : List (List MessageInFlight)) (to : ℕ) (l : MessageInFlight) → (to ≡ 0) ⊎ ((to ≡ 0 → ⊥) × (length row < to)) → Pushes row row to l
row_out row to l out q among =
    sym (append-nil (channel_to row q)) ∙ ap (λ (b : Bool). channel_to row q ++ cond b (l ∷ []) []) (sym (ne_eqb q to (apart out)))
  where
    apart : (to ≡ 0) ⊎ ((to ≡ 0 → ⊥) × (length row < to)) → q ≡ to → ⊥
    apart (inl none) same = omega (arith, among.0, none, same)
    apart (inr (some, past)) same = omega (arith, among.1, past, same)

-- WHAT ACTIONS SEND

pub messages-append : (q : ℕ) (xs ys : List Action) → messages_to q (xs ++ ys) ≡ messages_to q xs ++ messages_to q ys
messages-append q [] ys = refl
messages-append q (x ∷ xs) ys = ap (λ (ls : List MessageInFlight). message_to q x ++ ls) (messages-append q xs ys)
    ∙ sym (append_assoc (message_to q x) (messages_to q xs) (messages_to q ys))

pub sends_none : (row : List (List MessageInFlight)) → SendsFromOne [] row row
sends_none row q among = sym (append-nil (channel_to row q))

pub sends_other : (a : Action) (row : List (List MessageInFlight)) → ((q : ℕ) → message_to q a ≡ []) → SendsFromOne (a ∷ []) row row
sends_other a row none q among = sym (append-nil (channel_to row q)) ∙ ap (λ (ls : List MessageInFlight). channel_to row q ++ (ls ++ [])) (sym (none q))

pub sends_one : (a : Action) (p to t : ℕ) (row row' : List (List MessageInFlight)) (m : _) → a ≡ Sent p to t m → Pushes row row' to (message_in a)
    → SendsFromOne (a ∷ []) row row'
sends_one a p to t row row' m is pushes = subst (λ (x : Action). SendsFromOne (x ∷ []) row row') (sym is)
    (λ q among. subst (λ (x : Action). Pushes row row' to (message_in x)) is pushes q among ∙ of q)
  where
    swap : (q : ℕ) (b c : Bool) → b ≡ c → (l : MessageInFlight) → channel_to row q ++ cond b (l ∷ []) [] ≡ channel_to row q ++ (cond c (l ∷ []) [] ++ [])
    swap q b c same l = ap (λ (d : Bool). channel_to row q ++ cond d (l ∷ []) []) same
        ∙ ap (λ (ls : List MessageInFlight). channel_to row q ++ ls) (sym (append-nil (cond c (l ∷ []) [])))

    turned : (q : ℕ) → (q == to) ≡ (to == q)
    turned q = elim (cases_eq q to) [
      | inl same ↦ eq-eqb q to same ∙ sym (eq-eqb to q (sym same))
      | inr other ↦ ne_eqb q to other
          ∙ sym (ne_eqb to q (λ e. other (sym e)))
    ]

    of : (q : ℕ) → channel_to row q ++ cond (q == to) (message_in (Sent p to t m) ∷ []) [] ≡ channel_to row q ++ messages_to q (Sent p to t m ∷ [])
    of q = swap q (q == to) (to == q) (turned q) (message_in (Sent p to t m))

pub take_one_more : {A : Type 0} (xs : List A) (k : ℕ) (x : A) → slice_get xs k ≡ Some x → take (suc k) xs ≡ take k xs ++ x ∷ []
take_one_more [] k x there = absurd (false≢true (ap is_some there))
take_one_more (y ∷ ys) zero x there = let same : y ≡ x = cc in ap (λ z. z ∷ []) same
take_one_more {A} (y ∷ ys) (suc k) x there = ap (λ (zs : List A). y ∷ zs) (take_one_more ys k x there)

pub sends_on : (told : List Action) (k : ℕ) (a : Action) (first row row' : List (List MessageInFlight)) → k < length told → a ≡ slice_index_or told k a
    → length row ≡ length first
    → SendsFromOne (take k told) first row → SendsFromOne (a ∷ []) row row' → SendsFromOne (take (k + 1) told) first row'
sends_on told k a first row row' within is same before now q among =
    now q (subst (λ n. IsOneOf n q) (sym same) among) ∙ ap (λ (ls : List MessageInFlight). ls ++ messages_to q (a ∷ [])) (before q among)
    ∙ append_assoc (channel_to first q) (messages_to q (take k told)) (messages_to q (a ∷ []))
    ∙ ap (λ (ls : List MessageInFlight). channel_to first q ++ ls) (sym (messages-append q (take k told) (a ∷ [])))
    ∙ ap (λ (acts : List Action). channel_to first q ++ messages_to q acts)
    (sym (take_one_more told k a (get_within told k a within is)) ∙ ap (λ n. take n told) (let one : suc k ≡ k + 1 = omega arith in one))

pub all_taken : {A : Type 0} (xs : List A) (n : ℕ) → length xs ≤ n → take n xs ≡ xs
all_taken [] zero within = refl
all_taken [] (suc n) within = refl
all_taken (x ∷ xs) zero within = absurd (omega (arith, within))
all_taken {A} (x ∷ xs) (suc n) within = ap (λ (ys : List A). x ∷ ys) (all_taken xs n (omega (arith, within)))

pub sends_all : (told : List Action) (k : ℕ) (first row : List (List MessageInFlight)) → length told ≤ k → SendsFromOne (take k told) first row
    → SendsFromOne told first row
sends_all told k first row past sends = subst (λ (acts : List Action). SendsFromOne acts first row) (all_taken told k past) sends

-- ALL ROWS

pub row_length : (count : ℕ) (rows : Channels) (p : ℕ) (row : List (List MessageInFlight)) → IsSquare count rows → at_number rows p ≡ Some row → length row ≡ count
row_length count rows zero row square there = absurd (false≢true (ap is_some there))
row_length count rows (suc k) row square there = of rows k square.recipients there
  where
    of : (rs : Channels) (k : ℕ) → AllByRecursion (λ (r : List (List MessageInFlight)). length r ≡ count) rs → slice_get rs k ≡ Some row → length row ≡ count
    of [] k all there = absurd (false≢true (ap is_some there))
    of (r ∷ rs) zero all there = ap length (let same : row ≡ r = cc in same) ∙ all.0
    of (r ∷ rs) (suc k) all there = of rs k all.1 there

set_square : (count : ℕ) (rs : Channels) (k : ℕ) (row : List (List MessageInFlight)) → AllByRecursion (λ (r : List (List MessageInFlight)). length r ≡ count) rs
    → length row ≡ count
    → AllByRecursion (λ (r : List (List MessageInFlight)). length r ≡ count) (slice_set rs k row)
set_square count [] k row all fits = tt
set_square count (r ∷ rs) zero row all fits = (fits, all.1)
set_square count (r ∷ rs) (suc k) row all fits = (all.0, set_square count rs k row all.1 fits)

module _ (rows : Channels) (p : ℕ) (here next : List (List MessageInFlight)) (square : IsSquare (length rows) rows) (one : IsOneOf (length rows) p)
    (was : here ≡ slice_index_or rows (p - 1) here) where
  here_is : at_number rows p ≡ Some here
  here_is = numbered_within rows p here here one was

  pub here_size : length here ≡ length rows
  here_size = row_length (length rows) rows p here square here_is

  pub square_still : length next ≡ length here → IsSquare (length (slice_set rows (p - 1) next)) (slice_set rows (p - 1) next)
  square_still same = subst (λ n. IsSquare n (slice_set rows (p - 1) next)) (sym (length-set rows (p - 1) next)) (record {
    senders = length-set rows (p - 1) next;
    recipients = set_square (length rows) rows (p - 1) next square.recipients (same ∙ here_size);
  })

  pub rows_here : (q : ℕ) → channel rows p q ≡ channel_to here q
  rows_here q = ap (λ (o : Option (List (List MessageInFlight))). or_empty (at_number (or_empty o) q)) here_is

  pub rows_there : (q : ℕ) → channel (slice_set rows (p - 1) next) p q ≡ channel_to next q
  rows_there q = ap (λ (o : Option (List (List MessageInFlight))). or_empty (at_number (or_empty o) q)) (numbered_set rows p next one)

  rows_others : (a q : ℕ) → (a ≡ p → ⊥) → channel (slice_set rows (p - 1) next) a q ≡ channel rows a q
  rows_others a q other = ap (λ (o : Option (List (List MessageInFlight))). or_empty (at_number (or_empty o) q)) (numbered_set_other rows p next a one other)

  pub rows_sent : (told : List Action) → SendsFromOne told here next → Sends p told rows (slice_set rows (p - 1) next)
  rows_sent told sends a q among = elim (cases_eq a p) [
    | inl same ↦ ap (λ n. channel (slice_set rows (p - 1) next) n q) same ∙ rows_there q ∙ sends q (subst (λ n. IsOneOf n q) (sym here_size) among)
        ∙ ap (λ (ls : List MessageInFlight). ls ++ messages_to q told) (sym (rows_here q) ∙ ap (λ n. channel rows n q) (sym same))
        ∙ ap (λ (b : Bool). channel rows a q ++ cond b (messages_to q told) []) (sym (eq-eqb a p same))
    | inr other ↦ rows_others a q other ∙ sym (append-nil (channel rows a q))
        ∙ ap (λ (b : Bool). channel rows a q ++ cond b (messages_to q told) []) (sym (ne_eqb a p other))
  ]

  pub rows_elsewhere : (to : ℕ) → ((q : ℕ) → (q ≡ to → ⊥) → channel_to next q ≡ channel_to here q) → SameElsewhere p to rows (slice_set rows (p - 1) next)
  rows_elsewhere to others a q apart = elim (cases_eq a p) [
    | inl same ↦ ap (λ n. channel (slice_set rows (p - 1) next) n q) same ∙ rows_there q ∙ others q (λ e. apart (same, e)) ∙ sym (rows_here q)
        ∙ ap (λ n. channel rows n q) (sym same)
    | inr other ↦ rows_others a q other
  ]

-- from a process that is not there nothing comes
pub nothing_from : (rows : Channels) (from q : ℕ) → (from ≡ 0) ⊎ ((from ≡ 0 → ⊥) × (length rows < from)) → channel rows from q ≡ []
nothing_from rows from q (inl none) = ap (λ n. channel rows n q) none ∙ at_none q
  where
    at_none : (k : ℕ) → or_empty (at_number {A = List MessageInFlight} [] k) ≡ []
    at_none zero = refl
    at_none (suc k) = refl
nothing_from rows zero q (inr (some, past)) = absurd (some refl)
nothing_from rows (suc k) q (inr (some, past)) = ap (λ (o : Option (List (List MessageInFlight))). or_empty (at_number (or_empty o) q))
    (past_end rows k (omega (arith, past))) ∙ at_none q
  where
    at_none : (n : ℕ) → or_empty (at_number {A = List MessageInFlight} [] n) ≡ []
    at_none zero = refl
    at_none (suc n) = refl

    past_end : (rs : Channels) (n : ℕ) → length rs ≤ n → slice_get rs n ≡ None
    past_end [] n within = refl
    past_end (r ∷ rs) zero within = absurd (omega (arith, within))
    past_end (r ∷ rs) (suc n) within = past_end rs n (omega (arith, within))

pub number_above : (n : ℕ) → (n ≡ 0 → ⊥) → 0 < n
number_above zero some = absurd (some refl)
number_above (suc n) some = omega arith
