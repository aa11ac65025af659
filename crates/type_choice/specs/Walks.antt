-- How an order is found: numbers that are not marked wait for one that they are made of.
use Rattle.std.specs.Prelude.{◌≡◌, ℕ, ◌<◌, ◌≤◌, ◌⊎◌, Bool, true, false, List, [], ◌∷◌, ◌++◌, length, Some, slice_get, slice_set}
use Rattle.type_table.specs.declared.form.Form.{Form}
use Rattle.type_table.specs.Settling.{is_marked, marked}
use Rattle.type_choice.specs.declared.order.Walk.{Walk}
use Rattle.type_choice.specs.Choice.{AreInside}
use Rattle.type_choice.specs.Order.{needs_at, IsIn, ComeAfter}

-- those before this place are marked
abbrev pub AreMarkedTo : List Bool → List ℕ → ℕ → Type 0
AreMarkedTo marks parts place = (j part : ℕ) → j < place → slice_get parts j ≡ Some part → is_marked marks part ≡ true

pub record HasSizes (size : ℕ) (walk : Walk) : Type 0 where
  pub marks : length walk.marks ≡ size
  pub waits : length walk.waits ≡ size

-- one more waits for a number
pub record Queued (old : List (List (ℕ × ℕ))) (part : ℕ) (pair : ℕ × ℕ) (new : List (List (ℕ × ℕ))) : Type 0 where
  pub size : length new ≡ length old
  pub queue : List (ℕ × ℕ)
  pub was : slice_get old part ≡ Some queue
  pub now : slice_get new part ≡ Some (queue ++ pair ∷ [])
  pub others : (k : ℕ) → (k ≡ part → ⊥) → slice_get new k ≡ slice_get old k

-- the number is marked already
pub record Stays (number : ℕ) (old new : Walk) : Type 0 where
  pub marked_is : is_marked old.marks number ≡ true
  pub marks : new.marks ≡ old.marks
  pub waits : new.waits ≡ old.waits
  pub order : new.order ≡ old.order

-- all that it is made of is marked, and it is marked
pub record Comes (forms : List Form) (number : ℕ) (old new : Walk) : Type 0 where
  pub unset : slice_get old.marks number ≡ Some false
  pub all : AreMarkedTo old.marks (needs_at forms number) (length (needs_at forms number))
  pub marks : new.marks ≡ slice_set old.marks number true
  pub waits : new.waits ≡ old.waits
  pub order : new.order ≡ old.order ++ number ∷ []

-- it waits for one that is not marked
pub record Waits (forms : List Form) (number : ℕ) (old new : Walk) : Type 0 where
  pub place : ℕ
  pub part : ℕ
  pub is : slice_get (needs_at forms number) place ≡ Some part
  pub before : AreMarkedTo old.marks (needs_at forms number) place
  pub unset : is_marked old.marks part ≡ false
  pub queued : Queued old.waits part (number, place) new.waits
  pub marks : new.marks ≡ old.marks
  pub order : new.order ≡ old.order

abbrev pub IsVisited : List Form → ℕ → Walk → Walk → Type 0
IsVisited forms number old new = Stays number old new ⊎ (Comes forms number old new ⊎ Waits forms number old new)

-- a number waits
pub record IsWaiting (forms : List Form) (waits : List (List (ℕ × ℕ))) (number : ℕ) : Type 0 where
  pub place : ℕ
  pub part : ℕ
  pub is : slice_get (needs_at forms number) place ≡ Some part
  pub queue : List (ℕ × ℕ)
  pub there : slice_get waits part ≡ Some queue
  pub at : ℕ
  pub within : slice_get queue at ≡ Some (number, place)

-- it stands in the order, and those that wait for it were not looked at
abbrev pub IsDue : ℕ → List ℕ → ℕ → Type 0
IsDue first order number = (i : ℕ) × (first ≤ i) × (slice_get order i ≡ Some number)

-- before the place with which a number waits, all is marked
abbrev pub AreQueued : List Form → List Bool → List (ℕ × ℕ) → Type 0
AreQueued forms marks queue = (i number place : ℕ) → slice_get queue i ≡ Some (number, place) → (number < length forms) × AreMarkedTo marks (needs_at forms number) place

-- the order so far: those that wait for numbers before a place of it were looked at, and what is left was not
pub record IsWalked (forms : List Form) (first : ℕ) (Left : ℕ → Type 0) (walk : Walk) : Type 0 where
  pub sizes : HasSizes (length forms) walk
  pub count : length walk.order ≡ marked walk.marks
  pub reached : first ≤ length walk.order
  pub inside : AreInside (length forms) walk.order
  pub kept : (k : ℕ) → is_marked walk.marks k ≡ true → IsIn k walk.order
  pub after : ComeAfter forms walk.order
  pub placed : (k : ℕ) → k < length forms → (is_marked walk.marks k ≡ true) ⊎ (IsWaiting forms walk.waits k ⊎ Left k)
  pub queued : (k : ℕ) (queue : List (ℕ × ℕ)) → slice_get walk.waits k ≡ Some queue → AreQueued forms walk.marks queue
  pub awaited : (k : ℕ) (queue : List (ℕ × ℕ)) → slice_get walk.waits k ≡ Some queue → (queue ≡ []) ⊎ ((is_marked walk.marks k ≡ false) ⊎ IsDue first walk.order k)

-- what is left: nothing, the numbers from one on, those of a list from a place on
abbrev pub NoneLeft : ℕ → Type 0
NoneLeft k = ⊥

abbrev pub FromOn : ℕ → ℕ → Type 0
FromOn bound k = bound ≤ k

abbrev pub PendingFrom : ℕ → List (ℕ × ℕ) → ℕ → Type 0
PendingFrom first queue k = (i : ℕ) × (place : ℕ) × (first ≤ i) × (slice_get queue i ≡ Some (k, place))
