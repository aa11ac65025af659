-- The steps by which an order is found.
use Rattle.std.specs.Prelude.{◌≡◌, ℕ, suc, ◌+◌, ◌<◌, ◌≤◌, ◌⊎◌, Bool, true, false, List, [], ◌∷◌, ◌++◌, length, Some, slice_get, slice_set}
use Rattle.std.proofs.Common.{inl, inr, ◌∙◌, ap, sym, subst, arith}
use Rattle.std.proofs.lemmas.Bool.{cases_eq}
use Rattle.std.proofs.lemmas.List.{length-set, length_push}
use Rattle.type_table.specs.declared.form.Form.{Form}
use Rattle.type_table.specs.Settling.{is_marked, mark_in, marked}
use Rattle.type_table.proofs.AgreeLaws.{all_push}
use Rattle.type_table.proofs.TableLaws.{set_there, set_elsewhere, get_inside}
use Rattle.type_choice.specs.declared.order.Walk.{Walk}
use Rattle.type_choice.specs.Choice.{AreInside}
use Rattle.type_choice.specs.Order.{needs_at, IsIn, ComeAfter, StandsBefore}
use Rattle.type_choice.specs.Walks.{AreMarkedTo, HasSizes, Stays, Comes, Waits, IsVisited, IsWaiting, IsDue, AreQueued, IsWalked}
use Rattle.type_choice.proofs.ListLaws.{some_same, push_front, push_last, push_cases}
use Rattle.type_choice.proofs.MarkLaws.{marks_more}

-- marks stay
mark_stays : (marks : List Bool) (k j : ℕ) → is_marked marks j ≡ true → ((j ≡ k) ⊎ (j ≡ k → ⊥)) → k < length marks → is_marked (slice_set marks k true) j ≡ true
mark_stays marks k j on (inl here) inside = ap mark_in (ap (slice_get (slice_set marks k true)) here ∙ set_there marks k true inside)
mark_stays marks k j on (inr off) inside = ap mark_in (set_elsewhere marks j k true off) ∙ on

pub marks_stay : (forms : List Form) (k : ℕ) (old new : Walk) → IsVisited forms k old new → (j : ℕ) → is_marked old.marks j ≡ true → is_marked new.marks j ≡ true
marks_stay forms k old new (inl s) j on = ap (λ z. is_marked z j) s.marks ∙ on
marks_stay forms k old new (inr (inl s)) j on = ap (λ z. is_marked z j) s.marks ∙ mark_stays old.marks k j on (cases_eq j k) (get_inside old.marks k false s.unset)
marks_stay forms k old new (inr (inr s)) j on = ap (λ z. is_marked z j) s.marks ∙ on

to_stays : (old new : List Bool) (parts : List ℕ) (place : ℕ) → ((j : ℕ) → is_marked old j ≡ true → is_marked new j ≡ true) → AreMarkedTo old parts place → AreMarkedTo new parts place
to_stays old new parts place stay all j part before at = stay part (all j part before at)

pub queued_stays : (forms : List Form) (old new : List Bool) (queue : List (ℕ × ℕ)) → ((j : ℕ) → is_marked old j ≡ true → is_marked new j ≡ true) → AreQueued forms old queue → AreQueued forms new queue
queued_stays forms old new queue stay all i number place at =
    let (inside, to) = all i number place at in
    (inside, to_stays old new (needs_at forms number) place stay to)

pub visited_sizes : (forms : List Form) (k size : ℕ) (old new : Walk) → IsVisited forms k old new → HasSizes size old → HasSizes size new
visited_sizes forms k size old new (inl s) sizes = record { marks = ap length s.marks ∙ sizes.marks; waits = ap length s.waits ∙ sizes.waits }
visited_sizes forms k size old new (inr (inl s)) sizes = record { marks = ap length s.marks ∙ length-set old.marks k true ∙ sizes.marks; waits = ap length s.waits ∙ sizes.waits }
visited_sizes forms k size old new (inr (inr s)) sizes = record { marks = ap length s.marks ∙ sizes.marks; waits = s.queued.size ∙ sizes.waits }

-- less is left
pub walked_less : (forms : List Form) (first : ℕ) (Left Later : ℕ → Type 0) (walk : Walk) → ((j : ℕ) → j < length forms → Left j → Later j) → IsWalked forms first Left walk → IsWalked forms first Later walk
walked_less forms first Left Later walk less w =
    record {
      sizes = w.sizes;
      count = w.count;
      reached = w.reached;
      inside = w.inside;
      kept = w.kept;
      after = w.after;
      placed = λ k inside. go k inside (w.placed k inside);
      queued = w.queued;
      awaited = w.awaited;
    }
  where
    go : (k : ℕ) → k < length forms → (is_marked walk.marks k ≡ true) ⊎ (IsWaiting forms walk.waits k ⊎ Left k) → (is_marked walk.marks k ≡ true) ⊎ (IsWaiting forms walk.waits k ⊎ Later k)
    go k inside (inl on) = inl on
    go k inside (inr (inl waiting)) = inr (inl waiting)
    go k inside (inr (inr left)) = inr (inr (less k inside left))

module _ (forms : List Form) (first : ℕ) (Left Later : ℕ → Type 0) (k : ℕ) (k_inside : k < length forms) (fewer : (j : ℕ) → Left j → (j ≡ k) ⊎ Later j) (old new : Walk) (w : IsWalked forms first Left old) where
  abbrev Placed : ℕ → Type 0
  Placed j = (is_marked new.marks j ≡ true) ⊎ (IsWaiting forms new.waits j ⊎ Later j)

  -- what was placed is placed, and so is the number that was visited
  placed_as : ((j : ℕ) → is_marked old.marks j ≡ true → is_marked new.marks j ≡ true) → ((j : ℕ) → IsWaiting forms old.waits j → IsWaiting forms new.waits j) → Placed k → (j : ℕ) → j < length forms → Placed j
  placed_as stay wait here j inside = go (w.placed j inside)
    where
      go : (is_marked old.marks j ≡ true) ⊎ (IsWaiting forms old.waits j ⊎ Left j) → Placed j
      go (inl on) = inl (stay j on)
      go (inr (inl waiting)) = inr (inl (wait j waiting))
      go (inr (inr left)) = elim (fewer j left) [ inl e ↦ subst Placed (sym e) here | inr later ↦ inr (inr later) ]

  stays : Stays k old new → IsWalked forms first Later new
  stays s =
      record {
        sizes = visited_sizes forms k (length forms) old new (inl s) w.sizes;
        count = ap length s.order ∙ w.count ∙ sym (ap marked s.marks);
        reached = subst (λ z. first ≤ length z) (sym s.order) w.reached;
        inside = subst (AreInside (length forms)) (sym s.order) w.inside;
        kept = λ j on. subst (IsIn j) (sym s.order) (w.kept j (sym (ap (λ z. is_marked z j) s.marks) ∙ on));
        after = subst (ComeAfter forms) (sym s.order) w.after;
        placed = placed_as (marks_stay forms k old new (inl s)) (λ j. subst (λ z. IsWaiting forms z j) (sym s.waits)) (inl (marks_stay forms k old new (inl s) k s.marked_is));
        queued = λ j queue at. subst (λ z. AreQueued forms z queue) (sym s.marks) (w.queued j queue (sym (ap (λ z. slice_get z j) s.waits) ∙ at));
        awaited = λ j queue at.
            subst (λ z. (queue ≡ []) ⊎ ((is_marked z j ≡ false) ⊎ IsDue first new.order j)) (sym s.marks)
            (subst (λ z. (queue ≡ []) ⊎ ((is_marked old.marks j ≡ false) ⊎ IsDue first z j)) (sym s.order) (w.awaited j queue (sym (ap (λ z. slice_get z j) s.waits) ∙ at)));
      }

  module _ (s : Comes forms k old new) where
    stay : (j : ℕ) → is_marked old.marks j ≡ true → is_marked new.marks j ≡ true
    stay = marks_stay forms k old new (inr (inl s))

    there_now : is_marked new.marks k ≡ true
    there_now = ap (λ z. is_marked z k) s.marks ∙ ap mark_in (set_there old.marks k true (get_inside old.marks k false s.unset))

    elsewhere : (j : ℕ) → (j ≡ k → ⊥) → is_marked new.marks j ≡ is_marked old.marks j
    elsewhere j off = ap (λ z. is_marked z j) s.marks ∙ ap mark_in (set_elsewhere old.marks j k true off)

    in_new : (i j : ℕ) → slice_get old.order i ≡ Some j → slice_get new.order i ≡ Some j
    in_new i j at = ap (λ z. slice_get z i) s.order ∙ push_front old.order k i j at

    last_new : slice_get new.order (length old.order) ≡ Some k
    last_new = ap (λ z. slice_get z (length old.order)) s.order ∙ push_last old.order k

    kept : (j : ℕ) → is_marked new.marks j ≡ true → ((j ≡ k) ⊎ (j ≡ k → ⊥)) → IsIn j new.order
    kept j on (inl e) = (length old.order, last_new ∙ ap (λ z. Some z) (sym e))
    kept j on (inr off) = let (i, at) = w.kept j (sym (elsewhere j off) ∙ on) in (i, in_new i j at)

    before_new : (place j : ℕ) → StandsBefore place old.order j → StandsBefore place new.order j
    before_new place j (i, less, at) = (i, less, in_new i j at)

    after : ComeAfter forms new.order
    after i q j part at is = go (push_cases old.order k i q (sym (ap (λ z. slice_get z i) s.order) ∙ at))
      where
        part_first : q ≡ k → StandsBefore (length old.order) old.order part
        part_first e =
            let is_here : slice_get (needs_at forms k) j ≡ Some part = ap (λ z. slice_get (needs_at forms z) j) (sym e) ∙ is in
            let (h, found) = w.kept part (s.all j part (get_inside (needs_at forms k) j part is_here) is_here) in
            (h, get_inside old.order h part found, found)

        go : (slice_get old.order i ≡ Some q) ⊎ ((i ≡ length old.order) × (k ≡ q)) → StandsBefore i new.order part
        go (inl before) = before_new i part (w.after i q j part before is)
        go (inr (last, e)) = subst (λ z. StandsBefore z new.order part) (sym last) (before_new (length old.order) part (part_first (sym e)))

    awaited : (j : ℕ) (queue : List (ℕ × ℕ)) → ((j ≡ k) ⊎ (j ≡ k → ⊥)) → (queue ≡ []) ⊎ ((is_marked old.marks j ≡ false) ⊎ IsDue first old.order j) → (queue ≡ []) ⊎ ((is_marked new.marks j ≡ false) ⊎ IsDue first new.order j)
    awaited j queue at (inl none) = inl none
    awaited j queue at (inr (inr (i, late, is))) = inr (inr (i, late, in_new i j is))
    awaited j queue (inl e) (inr (inl unset)) = inr (inr (length old.order, w.reached, last_new ∙ ap (λ z. Some z) (sym e)))
    awaited j queue (inr off) (inr (inl unset)) = inr (inl (elsewhere j off ∙ unset))

    longer : length new.order ≡ suc (length old.order)
    longer = let e : length new.order ≡ length (old.order ++ k ∷ []) = ap length s.order in omega (arith, e, length_push old.order k)

    one_more : marked new.marks ≡ suc (marked old.marks)
    one_more = ap marked s.marks ∙ marks_more old.marks k s.unset

    comes : IsWalked forms first Later new
    comes =
        record {
          sizes = visited_sizes forms k (length forms) old new (inr (inl s)) w.sizes;
          count = longer ∙ ap suc w.count ∙ sym one_more;
          reached = omega (arith, w.reached, longer);
          inside = subst (AreInside (length forms)) (sym s.order) (all_push (length forms) old.order k w.inside k_inside);
          kept = λ j on. kept j on (cases_eq j k);
          after = after;
          placed = placed_as stay (λ j. subst (λ z. IsWaiting forms z j) (sym s.waits)) (inl there_now);
          queued = λ j queue at. queued_stays forms old.marks new.marks queue stay (w.queued j queue (sym (ap (λ z. slice_get z j) s.waits) ∙ at));
          awaited = λ j queue at. awaited j queue (cases_eq j k) (w.awaited j queue (sym (ap (λ z. slice_get z j) s.waits) ∙ at));
        }

  module _ (s : Waits forms k old new) where
    abbrev pair : ℕ × ℕ
    pair = (k, s.place)

    waits_on : (j : ℕ) → IsWaiting forms old.waits j → IsWaiting forms new.waits j
    waits_on j waiting = go (cases_eq waiting.part s.part)
      where
        go : ((waiting.part ≡ s.part) ⊎ (waiting.part ≡ s.part → ⊥)) → IsWaiting forms new.waits j
        go (inl e) =
            let same : waiting.queue ≡ s.queued.queue = some_same waiting.queue (sym waiting.there ∙ ap (slice_get old.waits) e ∙ s.queued.was) in
            record {
              place = waiting.place;
              part = s.part;
              is = waiting.is ∙ ap (λ z. Some z) e;
              queue = s.queued.queue ++ pair ∷ [];
              there = s.queued.now;
              at = waiting.at;
              within = push_front s.queued.queue pair waiting.at (j, waiting.place) (ap (λ z. slice_get z waiting.at) (sym same) ∙ waiting.within);
            }
        go (inr off) = record { place = waiting.place; part = waiting.part; is = waiting.is; queue = waiting.queue; there = s.queued.others waiting.part off ∙ waiting.there; at = waiting.at; within = waiting.within }

    waits_here : IsWaiting forms new.waits k
    waits_here = record { place = s.place; part = s.part; is = s.is; queue = s.queued.queue ++ pair ∷ []; there = s.queued.now; at = length s.queued.queue; within = push_last s.queued.queue pair }

    queued_more : (queue : List (ℕ × ℕ)) → AreQueued forms old.marks queue → AreQueued forms old.marks (queue ++ pair ∷ [])
    queued_more queue all i number place at = go (push_cases queue pair i (number, place) at)
      where
        go : (slice_get queue i ≡ Some (number, place)) ⊎ ((i ≡ length queue) × ◌≡◌ {A = ℕ × ℕ} pair (number, place)) → (number < length forms) × AreMarkedTo old.marks (needs_at forms number) place
        go (inl before) = all i number place before
        go (inr (last, e)) = subst (λ (p : ℕ × ℕ). (p.0 < length forms) × AreMarkedTo old.marks (needs_at forms p.0) p.1) e (k_inside, s.before)

    queued_there : (j : ℕ) (queue : List (ℕ × ℕ)) → slice_get new.waits j ≡ Some queue → ((j ≡ s.part) ⊎ (j ≡ s.part → ⊥)) → AreQueued forms old.marks queue
    queued_there j queue at (inl e) =
        let same : s.queued.queue ++ pair ∷ [] ≡ queue = some_same queue (sym s.queued.now ∙ ap (slice_get new.waits) (sym e) ∙ at) in
        subst (AreQueued forms old.marks) same (queued_more s.queued.queue (w.queued s.part s.queued.queue s.queued.was))
    queued_there j queue at (inr off) = w.queued j queue (sym (s.queued.others j off) ∙ at)

    awaited_there : (j : ℕ) (queue : List (ℕ × ℕ)) → slice_get new.waits j ≡ Some queue → ((j ≡ s.part) ⊎ (j ≡ s.part → ⊥)) → (queue ≡ []) ⊎ ((is_marked old.marks j ≡ false) ⊎ IsDue first old.order j)
    awaited_there j queue at (inl e) = inr (inl (ap (is_marked old.marks) e ∙ s.unset))
    awaited_there j queue at (inr off) = w.awaited j queue (sym (s.queued.others j off) ∙ at)

    waits : IsWalked forms first Later new
    waits =
        record {
          sizes = visited_sizes forms k (length forms) old new (inr (inr s)) w.sizes;
          count = ap length s.order ∙ w.count ∙ sym (ap marked s.marks);
          reached = subst (λ z. first ≤ length z) (sym s.order) w.reached;
          inside = subst (AreInside (length forms)) (sym s.order) w.inside;
          kept = λ j on. subst (IsIn j) (sym s.order) (w.kept j (sym (ap (λ z. is_marked z j) s.marks) ∙ on));
          after = subst (ComeAfter forms) (sym s.order) w.after;
          placed = placed_as (marks_stay forms k old new (inr (inr s))) waits_on (inr (inl waits_here));
          queued = λ j queue at. subst (λ z. AreQueued forms z queue) (sym s.marks) (queued_there j queue at (cases_eq j s.part));
          awaited = λ j queue at.
              subst (λ z. (queue ≡ []) ⊎ ((is_marked z j ≡ false) ⊎ IsDue first new.order j)) (sym s.marks)
              (subst (λ z. (queue ≡ []) ⊎ ((is_marked old.marks j ≡ false) ⊎ IsDue first z j)) (sym s.order) (awaited_there j queue at (cases_eq j s.part)));
        }

  pub visited : IsVisited forms k old new → IsWalked forms first Later new
  visited (inl s) = stays s
  visited (inr (inl s)) = comes s
  visited (inr (inr s)) = waits s
