-- How the search for an order begins, goes on and ends.
use Rattle.std.specs.Prelude.{◌≡◌, refl, ℕ, zero, suc, ◌+◌, ◌-◌, ◌<◌, ◌≤◌, ◌⊎◌, Bool, true, false, List, [], length, replicate, Some, slice_get, slice_set}
use Rattle.std.specs.List.{AllByRecursion}
use Rattle.std.proofs.Common.{inl, inr, ◌∙◌, ap, sym, subst, arith, get_or}
use Rattle.std.proofs.lemmas.Bool.{false≢true, cases_eq}
use Rattle.std.proofs.lemmas.List.{length-set}
use Rattle.type_table.specs.declared.form.Form.{Form}
use Rattle.type_table.specs.Fits.{Meaning, Fits, IsTable}
use Rattle.type_table.specs.Settling.{is_marked, marked}
use Rattle.type_table.proofs.TableLaws.{set_there, set_elsewhere, get_inside, read_at}
use Rattle.type_choice.specs.declared.order.Walk.{Walk}
use Rattle.type_choice.specs.Choice.{AreInside}
use Rattle.type_choice.specs.Order.{needs, needs_in, needs_at, ComeAfter, IsIn, IsOrder}
use Rattle.type_choice.specs.Walks.{AreMarkedTo, IsVisited, IsWaiting, IsDue, AreQueued, IsWalked, NoneLeft, FromOn, PendingFrom}
use Rattle.type_choice.proofs.ListLaws.{all_at, some_same, replicate_at, none_in}
use Rattle.type_choice.proofs.MarkLaws.{length_of, none_set, marks_most}
use Rattle.type_choice.proofs.PartLaws.{each_holds}
use Rattle.type_choice.proofs.WalkLaws.{visited, walked_less, queued_stays, marks_stay}

none_marked : (n : ℕ) → marked (replicate n false) ≡ 0
none_marked zero = refl
none_marked (suc n) = omega (arith, none_marked n)

-- nothing was looked at
pub begins : (forms : List Form) (walk : Walk) → walk.marks ≡ replicate (length forms) false → walk.waits ≡ replicate (length forms) [] → walk.order ≡ [] → IsWalked forms 0 (FromOn 0) walk
begins forms walk marks waits order =
    record {
      sizes = record { marks = ap length marks ∙ length_of (length forms) false; waits = ap length waits ∙ length_of (length forms) [] };
      count = ap length order ∙ sym (none_marked (length forms)) ∙ sym (ap marked marks);
      reached = omega arith;
      inside = subst (AreInside (length forms)) (sym order) tt;
      kept = λ k on. absurd (none_set (length forms) k (sym (ap (λ z. is_marked z k) marks) ∙ on));
      after = λ i k j part at is. absurd (none_in walk.order i k order at);
      placed = λ k inside. inr (inr (from_start k));
      queued = λ k queue at i number place is. absurd (none_in queue i (number, place) (sym (empty k queue at)) is);
      awaited = λ k queue at. inl (sym (empty k queue at));
    }
  where
    from_start : (k : ℕ) → 0 ≤ k
    from_start k = omega arith

    empty : (k : ℕ) (queue : List (ℕ × ℕ)) → slice_get walk.waits k ≡ Some queue → [] ≡ queue
    empty k queue at = replicate_at (length forms) k [] queue (sym (ap (λ z. slice_get z k) waits) ∙ at)

pub to_none : (marks : List Bool) (parts : List ℕ) → AreMarkedTo marks parts 0
to_none marks parts j part few at = absurd (omega (arith, few))

-- all numbers one by one
module _ (forms : List Form) (k : ℕ) (inside : k < length forms) (old new : Walk) (w : IsWalked forms 0 (FromOn k) old) where
  later : (j : ℕ) → FromOn k j → (j ≡ k) ⊎ FromOn (k + 1) j
  later j from = go (cases_eq j k)
    where
      after : k ≤ j → (j ≡ k → ⊥) → k + 1 ≤ j
      after le off = omega (arith, le, off)

      go : ((j ≡ k) ⊎ (j ≡ k → ⊥)) → (j ≡ k) ⊎ FromOn (k + 1) j
      go (inl e) = inl e
      go (inr off) = inr (after from off)

  pub next_number : IsVisited forms k old new → IsWalked forms 0 (FromOn (k + 1)) new
  next_number v = visited forms 0 (FromOn k) (FromOn (k + 1)) k inside later old new w v

pub all_numbers : (forms : List Form) (k : ℕ) (walk : Walk) → length forms ≤ k → IsWalked forms 0 (FromOn k) walk → IsWalked forms 0 NoneLeft walk
all_numbers forms k walk past w = walked_less forms 0 (FromOn k) NoneLeft walk (λ j inside from. none j inside from) w
  where
    none : (j : ℕ) → j < length forms → k ≤ j → ⊥
    none j inside from = omega (arith, inside, from, past)

-- those that wait for a number are taken
pub record IsTaken (first : ℕ) (old new : Walk) (waiting : List (ℕ × ℕ)) : Type 0 where
  pub number : ℕ
  pub at : slice_get old.order first ≡ Some number
  pub was : slice_get old.waits number ≡ Some waiting
  pub waits : new.waits ≡ slice_set old.waits number []
  pub marks : new.marks ≡ old.marks
  pub order : new.order ≡ old.order

-- how far those were looked at again
pub record IsReleased (forms : List Form) (first : ℕ) (waiting : List (ℕ × ℕ)) (i : ℕ) (walk : Walk) : Type 0 where
  pub walked : IsWalked forms (suc first) (PendingFrom i waiting) walk
  pub queued : AreQueued forms walk.marks waiting

module _ (forms : List Form) (first : ℕ) (old new : Walk) (waiting : List (ℕ × ℕ)) (w : IsWalked forms first NoneLeft old) (s : IsTaken first old new waiting) where
  same_order : length new.order ≡ length old.order
  same_order = ap length s.order

  before : first < length old.order
  before = get_inside old.order first s.number s.at

  inside : s.number < length old.waits
  inside = get_inside old.waits s.number waiting s.was

  empty_there : slice_get new.waits s.number ≡ Some []
  empty_there = ap (λ z. slice_get z s.number) s.waits ∙ set_there old.waits s.number [] inside

  others : (j : ℕ) → (j ≡ s.number → ⊥) → slice_get new.waits j ≡ slice_get old.waits j
  others j off = ap (λ z. slice_get z j) s.waits ∙ set_elsewhere old.waits j s.number [] off

  waiting_on : (j : ℕ) (x : IsWaiting forms old.waits j) → ((x.part ≡ s.number) ⊎ (x.part ≡ s.number → ⊥)) → IsWaiting forms new.waits j ⊎ PendingFrom 0 waiting j
  waiting_on j x (inl e) =
      let same : x.queue ≡ waiting = some_same x.queue (sym x.there ∙ ap (slice_get old.waits) e ∙ s.was) in
      inr (x.at, x.place, omega arith, ap (λ z. slice_get z x.at) (sym same) ∙ x.within)
  waiting_on j x (inr off) = inl (record { place = x.place; part = x.part; is = x.is; queue = x.queue; there = others x.part off ∙ x.there; at = x.at; within = x.within })

  placed : (j : ℕ) → (is_marked old.marks j ≡ true) ⊎ (IsWaiting forms old.waits j ⊎ NoneLeft j) → (is_marked new.marks j ≡ true) ⊎ (IsWaiting forms new.waits j ⊎ PendingFrom 0 waiting j)
  placed j (inl on) = inl (ap (λ z. is_marked z j) s.marks ∙ on)
  placed j (inr (inl x)) = inr (waiting_on j x (cases_eq x.part s.number))
  placed j (inr (inr none)) = absurd none

  queued : (j : ℕ) (queue : List (ℕ × ℕ)) → slice_get new.waits j ≡ Some queue → ((j ≡ s.number) ⊎ (j ≡ s.number → ⊥)) → AreQueued forms old.marks queue
  queued j queue at (inl e) = λ i number place is. absurd (none_in queue i (number, place) (some_same queue (sym at ∙ ap (slice_get new.waits) e ∙ empty_there)) is)
  queued j queue at (inr off) = w.queued j queue (sym (others j off) ∙ at)

  awaited : (j : ℕ) (queue : List (ℕ × ℕ)) → slice_get new.waits j ≡ Some queue → ((j ≡ s.number) ⊎ (j ≡ s.number → ⊥)) → (queue ≡ []) ⊎ ((is_marked old.marks j ≡ false) ⊎ IsDue (suc first) old.order j)
  awaited j queue at (inl e) = inl (some_same queue (sym at ∙ ap (slice_get new.waits) e ∙ empty_there))
  awaited j queue at (inr off) = go (w.awaited j queue (sym (others j off) ∙ at))
    where
      after : (i : ℕ) → first ≤ i → (i ≡ first → ⊥) → suc first ≤ i
      after i late off = omega (arith, late, off)

      go : (queue ≡ []) ⊎ ((is_marked old.marks j ≡ false) ⊎ IsDue first old.order j) → (queue ≡ []) ⊎ ((is_marked old.marks j ≡ false) ⊎ IsDue (suc first) old.order j)
      go (inl none) = inl none
      go (inr (inl unset)) = inr (inl unset)
      go (inr (inr (i, late, is))) = inr (inr (i, after i late (λ e. off (some_same j (sym is ∙ ap (slice_get old.order) e ∙ s.at))), is))

  pub taken : IsReleased forms first waiting 0 new
  taken =
      record {
        walked = record {
          sizes = record { marks = ap length s.marks ∙ w.sizes.marks; waits = ap length s.waits ∙ length-set old.waits s.number [] ∙ w.sizes.waits };
          count = same_order ∙ w.count ∙ sym (ap marked s.marks);
          reached = omega (arith, before, same_order);
          inside = subst (AreInside (length forms)) (sym s.order) w.inside;
          kept = λ j on. subst (IsIn j) (sym s.order) (w.kept j (sym (ap (λ z. is_marked z j) s.marks) ∙ on));
          after = subst (ComeAfter forms) (sym s.order) w.after;
          placed = λ j within. placed j (w.placed j within);
          queued = λ j queue at. subst (λ z. AreQueued forms z queue) (sym s.marks) (queued j queue at (cases_eq j s.number));
          awaited = λ j queue at.
              subst (λ z. (queue ≡ []) ⊎ ((is_marked z j ≡ false) ⊎ IsDue (suc first) new.order j)) (sym s.marks)
              (subst (λ z. (queue ≡ []) ⊎ ((is_marked old.marks j ≡ false) ⊎ IsDue (suc first) z j)) (sym s.order) (awaited j queue at (cases_eq j s.number)));
        };
        queued = subst (λ z. AreQueued forms z waiting) (sym s.marks) (w.queued s.number waiting s.was);
      }

-- one of those
pair_same : {p q : ℕ × ℕ} → Some p ≡ Some q → p ≡ q
pair_same {p} {q} e = some_same p e

none_pending : (queue : List (ℕ × ℕ)) (first j : ℕ) → length queue ≤ first → PendingFrom first queue j → ⊥
none_pending queue first j past (i, place, late, is) = let within : i < length queue = get_inside queue i (j, place) is in omega (arith, late, past, within)

module _ (forms : List Form) (first : ℕ) (waiting : List (ℕ × ℕ)) (i number place : ℕ) (at : slice_get waiting i ≡ Some (number, place)) (old : Walk) (r : IsReleased forms first waiting i old) where
  pub number_inside : number < length forms
  number_inside = (r.queued i number place at).0

  pub marked_so_far : AreMarkedTo old.marks (needs_at forms number) place
  marked_so_far = (r.queued i number place at).1

  fewer : (j : ℕ) → PendingFrom i waiting j → (j ≡ number) ⊎ PendingFrom (i + 1) waiting j
  fewer j (h, other, late, is) = go (cases_eq h i)
    where
      after : i ≤ h → (h ≡ i → ⊥) → i + 1 ≤ h
      after late off = omega (arith, late, off)

      go : ((h ≡ i) ⊎ (h ≡ i → ⊥)) → (j ≡ number) ⊎ PendingFrom (i + 1) waiting j
      go (inl e) = inl (ap (λ (p : ℕ × ℕ). p.0) (pair_same (sym is ∙ ap (slice_get waiting) e ∙ at)))
      go (inr off) = inr (h, other, after late off, is)

  pub released_more : (new : Walk) → IsVisited forms number old new → IsReleased forms first waiting (i + 1) new
  released_more new v =
      record {
        walked = visited forms (suc first) (PendingFrom i waiting) (PendingFrom (i + 1) waiting) number number_inside fewer old new r.walked v;
        queued = queued_stays forms old.marks new.marks waiting (marks_stay forms number old new v) r.queued;
      }

pair_is : (p : ℕ × ℕ) → Some p ≡ Some (p.0, p.1)
pair_is (k, place) = refl

-- the same, as code finds it
module _ (forms : List Form) (first : ℕ) (waiting : List (ℕ × ℕ)) (i : ℕ) (none : ℕ × ℕ) (inside : i < length waiting) (old : Walk) (r : IsReleased forms first waiting i old) where
  pair_there : slice_get waiting i ≡ Some ((get_or waiting i none).0, (get_or waiting i none).1)
  pair_there = read_at waiting i (get_or waiting i none) none inside refl ∙ pair_is (get_or waiting i none)

  pub pair_inside : (get_or waiting i none).0 < length forms
  pair_inside = number_inside forms first waiting i (get_or waiting i none).0 (get_or waiting i none).1 pair_there old r

  pub pair_marked : AreMarkedTo old.marks (needs_at forms (get_or waiting i none).0) (get_or waiting i none).1
  pair_marked = marked_so_far forms first waiting i (get_or waiting i none).0 (get_or waiting i none).1 pair_there old r

  pub pair_more : (new : Walk) → IsVisited forms (get_or waiting i none).0 old new → IsReleased forms first waiting (i + 1) new
  pair_more = released_more forms first waiting i (get_or waiting i none).0 (get_or waiting i none).1 pair_there old r

pub released_all : (forms : List Form) (first : ℕ) (waiting : List (ℕ × ℕ)) (i : ℕ) (walk : Walk) → length waiting ≤ i → IsReleased forms first waiting i walk → IsWalked forms (first + 1) NoneLeft walk
released_all forms first waiting i walk past r =
    let e : suc first ≡ first + 1 = omega arith in
    subst (λ n. IsWalked forms n NoneLeft walk) e (walked_less forms (suc first) (PendingFrom i waiting) NoneLeft walk (λ j inside pending. none_pending waiting i j past pending) r.walked)

-- at the end all are marked
module _ (forms : List Form) (first : ℕ) (walk : Walk) (w : IsWalked forms first NoneLeft walk) where
  pub steps_left : first < length walk.order → length forms - (first + 1) < length forms - first
  steps_left before =
      let most : marked walk.marks ≤ length walk.marks = marks_most walk.marks in
      omega (arith, before, w.count, most, w.sizes.marks)

  module _ (table : IsTable forms) (m : Meaning) (fits : Fits m forms) (past : length walk.order ≤ first) where
    abbrev IsOn : ℕ → Type 0
    IsOn k = is_marked walk.marks k ≡ true

    not_waiting : (k : ℕ) (form : Form) → slice_get forms k ≡ Some form → AllByRecursion IsOn (needs form) → IsWaiting forms walk.waits k → ⊥
    not_waiting k form at parts x = go (w.awaited x.part x.queue x.there)
      where
        on : IsOn x.part
        on = all_at IsOn (needs form) x.place x.part parts (ap (λ z. slice_get (needs_in z) x.place) (sym at) ∙ x.is)

        go : (x.queue ≡ []) ⊎ ((is_marked walk.marks x.part ≡ false) ⊎ IsDue first walk.order x.part) → ⊥
        go (inl none) = none_in x.queue x.at (k, x.place) none x.within
        go (inr (inl unset)) = false≢true (sym unset ∙ on)
        go (inr (inr (i, late, is))) = let within : i < length walk.order = get_inside walk.order i x.part is in omega (arith, late, past, within)

    on_if : (k : ℕ) (form : Form) → slice_get forms k ≡ Some form → AllByRecursion IsOn (needs form) → IsOn k
    on_if k form at parts = go (w.placed k (get_inside forms k form at))
      where
        go : IsOn k ⊎ (IsWaiting forms walk.waits k ⊎ NoneLeft k) → IsOn k
        go (inl on) = on
        go (inr (inl x)) = absurd (not_waiting k form at parts x)
        go (inr (inr none)) = absurd none

    pub ends : IsOrder forms walk.order
    ends = record { inside = w.inside; after = w.after; whole = λ k inside. w.kept k (each_holds forms table m fits IsOn on_if k inside) }
