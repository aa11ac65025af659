-- What each kind of update moves. An entry is one more element of its history and moves nothing else. An element that joins
-- the set of a slot or leaves it is all that moves, and nothing moves where it was there before, or was not. Of a slot that
-- is assigned what is in exactly one of the two sets moves.
use Rattle.std.specs.Prelude.{◌≡◌, ◌⊎◌, ◌<◌, ◌≤◌, ℕ, true, List, [], ◌∷◌, ◌++◌, map, length, refl}
use Rattle.std.proofs.Common.{ap, sym, subst, ◌∙◌, inl, inr, append-nil}
use Rattle.da_values.specs.declared.val.Val.{Val}
use Rattle.da_values.specs.declared.val.Val.TheVariants as val
use Rattle.da_values.specs.Order.{val_cmp}
use Rattle.da_values.specs.Sets.{Has, Ascends, IsAlike, set_insert, set_remove, set_difference}
use Rattle.da_values.specs.Views.{elements_of}
use Rattle.da_values.proofs.Members.{Has-append_left, Has-append_right, of_append}
use Rattle.da_values.proofs.OrderLaws.{val_order, same_from_val_cmp}
use Rattle.da_values.proofs.SetLaws.{one_list, of_insert, Has-insert, Ascends-insert, insert_there, of_remove, Has-remove, Ascends-remove, remove_absent, has_or_not, of_difference, Has-difference, Ascends-difference}
use Rattle.da_values.proofs.ViewLaws.{elements_of-Set}
use Rattle.da_lang.specs.declared.query.Source.{Source}
use Rattle.da_lang.specs.declared.query.Source.TheVariants as source
use Rattle.da_lang.specs.Live.{is_history}
use Rattle.da_lang.specs.Matching.{Element}
use Rattle.da_lang.specs.Queries.{candidates}
use Rattle.da_lang.specs.World.{Data, put_slot, slot_of}
use Rattle.da_lang.proofs.NamingLaws.{candidates-received, candidates-sent}
use Rattle.da_lang.proofs.WorldLaws.{slot-put_there, slot-put_other}
use Rattle.query_plan.specs.Updates.{Update, Receives, Sends, Joins, Leaves, Assigns, after, swapped, moved}

-- A history has what moves after what it had.
pub history_grows : (u : Update) (d : Data) (s : Source) → is_history s ≡ true → candidates (after u d) s ≡ candidates d s ++ moved u d s
history_grows (Receives m p time) d source.Received over = candidates-received m p time d
history_grows (Receives m p time) d source.Sent over = sym (append-nil (candidates d source.Sent))
history_grows (Sends m p time) d source.Received over = sym (append-nil (candidates d source.Received))
history_grows (Sends m p time) d source.Sent over = candidates-sent m p time d
history_grows (Joins s x) d source.Received over = sym (append-nil (candidates d source.Received))
history_grows (Joins s x) d source.Sent over = sym (append-nil (candidates d source.Sent))
history_grows (Leaves s x) d source.Received over = sym (append-nil (candidates d source.Received))
history_grows (Leaves s x) d source.Sent over = sym (append-nil (candidates d source.Sent))
history_grows (Assigns s x) d source.Received over = sym (append-nil (candidates d source.Received))
history_grows (Assigns s x) d source.Sent over = sym (append-nil (candidates d source.Sent))
history_grows u d (source.Slot s) over = absurd (cc)

-- Two sets of elements.

abbrev minus : List Val → List Val → List Val
minus = set_difference val_cmp

abbrev Sorted : List Val → Type 0
Sorted = Ascends val_cmp

one_set : (xs ys : List Val) → Sorted xs → Sorted ys → IsAlike xs ys → xs ≡ ys
one_set xs ys = one_list val_cmp val_order same_from_val_cmp xs ys

-- of two lists where each element of the one is in the other
none_left : (xs ys : List Val) → Sorted xs → ((z : Val) → Has xs z → Has ys z) → minus xs ys ≡ []
none_left xs ys sorted within =
    one_set (minus xs ys) [] (Ascends-difference val_cmp val_order same_from_val_cmp xs ys sorted) tt
    (λ z. (λ h. let (there, not_there) = of_difference val_cmp val_order same_from_val_cmp xs ys z h in absurd (not_there (within z there)), λ h. absurd h))

-- of two lists where one element alone is in the first and not in the second
one_left : (xs ys : List Val) (x : Val) → Sorted xs → Has xs x → (Has ys x → ⊥) → ((z : Val) → Has xs z → (z ≡ x) ⊎ Has ys z) → minus xs ys ≡ x ∷ []
one_left xs ys x sorted there new others =
    one_set (minus xs ys) (x ∷ []) (Ascends-difference val_cmp val_order same_from_val_cmp xs ys sorted) (tt, tt)
    (λ z. (
      (λ h.
          let (among, not_among) = of_difference val_cmp val_order same_from_val_cmp xs ys z h in
          elim (others z among) [ inl e ↦ inl e | inr k ↦ absurd (not_among k) ]),
      (λ h. elim h [
        | inl e ↦ Has-difference val_cmp val_order same_from_val_cmp xs ys z (subst (Has xs) (sym e) there) (λ k. new (subst (Has ys) e k))
        | inr k ↦ absurd k
      ]),
    ))

-- where nothing changes
pub swapped_none : (xs : List Val) → Sorted xs → swapped xs xs ≡ []
swapped_none xs sorted = ap (λ z. z ++ minus xs xs) (none_left xs xs sorted (λ z h. h)) ∙ none_left xs xs sorted (λ z h. h)

swapped_in : (xs : List Val) (x : Val) → Sorted xs → (Has xs x → ⊥) → swapped xs (set_insert val_cmp xs x) ≡ x ∷ []
swapped_in xs x sorted new =
    let more = set_insert val_cmp xs x in
    ap (λ z. z ++ minus xs more)
    (one_left more xs x (Ascends-insert val_cmp val_order same_from_val_cmp xs x sorted) (Has-insert val_cmp val_order same_from_val_cmp xs x x (inl refl)) new (λ z h. of_insert val_cmp val_order same_from_val_cmp xs x z h))
    ∙ ap (λ z. x ∷ z) (none_left xs more sorted (λ z h. Has-insert val_cmp val_order same_from_val_cmp xs x z (inr h)))

swapped_out : (xs : List Val) (x : Val) → Sorted xs → Has xs x → swapped xs (set_remove val_cmp xs x) ≡ x ∷ []
swapped_out xs x sorted there =
    let less = set_remove val_cmp xs x in
    ap (λ z. z ++ minus xs less)
    (none_left less xs (Ascends-remove val_cmp val_order same_from_val_cmp xs x sorted) (λ z h. (of_remove val_cmp val_order same_from_val_cmp xs x z sorted h).0))
    ∙ one_left xs less x sorted there (λ h. (of_remove val_cmp val_order same_from_val_cmp xs x x sorted h).1 refl) (λ z h. kept z h (has_or_not val_cmp val_order same_from_val_cmp (x ∷ []) z))
  where
    kept : (z : Val) → Has xs z → Has (x ∷ []) z ⊎ (Has (x ∷ []) z → ⊥) → (z ≡ x) ⊎ Has (set_remove val_cmp xs x) z
    kept z h (inl (inl e)) = inl e
    kept z h (inl (inr k)) = absurd k
    kept z h (inr other) = inr (Has-remove val_cmp val_order same_from_val_cmp xs x z h (λ e. other (inl e)))

-- What is in the one set and not in the other is swapped, and nothing else is.

pub swapped_covers : (old new : List Val) (x : Val) → (Has old x → Has new x ⊎ Has (swapped old new) x) × (Has new x → Has old x ⊎ Has (swapped old new) x)
swapped_covers old new x = (
  λ h. elim (has_or_not val_cmp val_order same_from_val_cmp new x) [
    | inl there ↦ inl there
    | inr gone ↦ inr (Has-append_right (minus new old) (minus old new) x (Has-difference val_cmp val_order same_from_val_cmp old new x h gone))
  ],
  λ h. elim (has_or_not val_cmp val_order same_from_val_cmp old x) [
    | inl there ↦ inl there
    | inr fresh ↦ inr (Has-append_left (minus new old) (minus old new) x (Has-difference val_cmp val_order same_from_val_cmp new old x h fresh))
  ],
)

pub of_swapped : (old new : List Val) (x : Val) → Has (swapped old new) x → (Has new x × (Has old x → ⊥)) ⊎ (Has old x × (Has new x → ⊥))
of_swapped old new x h = elim (of_append (minus new old) (minus old new) x h) [
  | inl came ↦ inl (of_difference val_cmp val_order same_from_val_cmp new old x came)
  | inr went ↦ inr (of_difference val_cmp val_order same_from_val_cmp old new x went)
]

-- Slots.

module _ (d : Data) (s : ℕ) where
  abbrev held : List Val
  held = elements_of (slot_of d s)

  -- the slot with these elements
  set_moves : (xs : List Val) → 0 < s → s ≤ length d.slots → map Element (swapped held (elements_of (slot_of (put_slot d s (val.Set xs)) s))) ≡ map Element (swapped held xs)
  set_moves xs above within = ap (λ z. map Element (swapped held z)) (ap elements_of (slot-put_there d.slots s (val.Set xs) above within) ∙ elements_of-Set xs)

  module _ (x : Val) (above : 0 < s) (within : s ≤ length d.slots) where
    -- An element that joins and was not there is what moves.
    pub moved-joins : Sorted held → (Has held x → ⊥) → moved (Joins s x) d (source.Slot s) ≡ Element x ∷ []
    moved-joins sorted new = set_moves (set_insert val_cmp held x) above within ∙ ap (map Element) (swapped_in held x sorted new)

    pub moved-joins_again : Sorted held → Has held x → moved (Joins s x) d (source.Slot s) ≡ []
    moved-joins_again sorted there =
        set_moves (set_insert val_cmp held x) above within
        ∙ ap (λ z. map Element (swapped held z)) (insert_there val_cmp val_order same_from_val_cmp held x sorted there)
        ∙ ap (map Element) (swapped_none held sorted)

    -- One that leaves and was there is.
    pub moved-leaves : Sorted held → Has held x → moved (Leaves s x) d (source.Slot s) ≡ Element x ∷ []
    moved-leaves sorted there = set_moves (set_remove val_cmp held x) above within ∙ ap (map Element) (swapped_out held x sorted there)

    pub moved-leaves_absent : Sorted held → (Has held x → ⊥) → moved (Leaves s x) d (source.Slot s) ≡ []
    moved-leaves_absent sorted none =
        set_moves (set_remove val_cmp held x) above within
        ∙ ap (λ z. map Element (swapped held z)) (remove_absent val_cmp val_order same_from_val_cmp held x none)
        ∙ ap (map Element) (swapped_none held sorted)

    -- Of a slot that is assigned the elements of the old set and of the new one move that are in exactly one of them.
    pub moved-assigns : moved (Assigns s x) d (source.Slot s) ≡ map Element (swapped held (elements_of x))
    moved-assigns = ap (λ z. map Element (swapped held (elements_of z))) (slot-put_there d.slots s x above within)

  -- Nothing of another slot moves,
  still : (y : Val) → y ≡ slot_of d s → Sorted held → map Element (swapped held (elements_of y)) ≡ []
  still y same sorted = ap (λ z. map Element (swapped held (elements_of z))) same ∙ ap (map Element) (swapped_none held sorted)

  pub moved-other_assigned : (k : ℕ) (x : Val) → Sorted held → (s ≡ k → ⊥) → moved (Assigns k x) d (source.Slot s) ≡ []
  moved-other_assigned k x sorted other = still (slot_of (put_slot d k x) s) (slot-put_other d.slots k s x other) sorted

  pub moved-other_joined : (k : ℕ) (x : Val) → Sorted held → (s ≡ k → ⊥) → moved (Joins k x) d (source.Slot s) ≡ []
  moved-other_joined k x sorted other = still (slot_of (after (Joins k x) d) s) (slot-put_other d.slots k s (val.Set (set_insert val_cmp (elements_of (slot_of d k)) x)) other) sorted

  pub moved-other_left : (k : ℕ) (x : Val) → Sorted held → (s ≡ k → ⊥) → moved (Leaves k x) d (source.Slot s) ≡ []
  moved-other_left k x sorted other = still (slot_of (after (Leaves k x) d) s) (slot-put_other d.slots k s (val.Set (set_remove val_cmp (elements_of (slot_of d k)) x)) other) sorted

  -- and no element of a slot where an entry comes.
  pub moved-received : (m : Val) (p time : ℕ) → Sorted held → moved (Receives m p time) d (source.Slot s) ≡ []
  moved-received m p time sorted = ap (map Element) (swapped_none held sorted)

  pub moved-sent : (m : Val) (p time : ℕ) → Sorted held → moved (Sends m p time) d (source.Slot s) ≡ []
  moved-sent m p time sorted = ap (map Element) (swapped_none held sorted)
