-- What a launch does and answers, from what its parts do.
use Rattle.std.proofs.Common.{◌≡◌, refl, sym, ◌∙◌, ap, subst, ℕ, zero, suc, ◌+◌, ◌-◌, ◌≤◌, ◌<◌, ◌==◌, inl, inr, ◌⊎◌, if◌then◌else◌, Bool, true, false, List, [], ◌∷◌, ◌++◌, drop, length, map, replicate, arith, append_assoc, append-nil, length-append, add_assoc}
use Rattle.std.specs.Prelude.{Option, Some, None, Result, Ok, Err}
use Rattle.std.specs.Option.{option_map}
use Rattle.da_outside.specs.declared.spawner.Child.{Child}
use Rattle.da_outside.specs.declared.spawner.Ended.{Ended}
use Rattle.da_outside.specs.declared.spawner.SpawnEntry.{SpawnEntry}
use Rattle.da_outside.specs.declared.spawner.SpawnEntry.TheVariants.{Start, Finish}
use Rattle.da_outside.specs.Outside.{Appends, AppendsPrefix, HasCause, Rose}
use Rattle.da_outside.specs.Spawner.{Tells}
use Rattle.da_outside.proofs.OutsideLemmas.{appends_none, appends_then, prefix_before, prefix_after, prefix_none, prefix_whole}
use Rattle.da_commands.specs.declared.starting.Started.TheVariants as children
use Rattle.da_commands.specs.declared.status.Status.{Status}
use Rattle.da_commands.specs.declared.status.Status.TheVariants.{ChildFault, ChildStatus, Done, Memory, ReadFault, WriteFault}
use Rattle.da_commands.specs.Launching.{FinishReply, HasChildCause, LaunchBegan, LaunchReply, WroteEnds, WroteLast, child_text, children_status, children_text, ends_in, finishes, passed_ends, starts}
use Rattle.da_commands.specs.Launching as reply
use Rattle.da_commands.proofs.LaunchEndLemmas.{ends_failed, ends_finished, ends_started, finishes_none, finishes_then, last_started, length_copies, length_map, map_then, none_started, passed_more, starts_then, text_more, text_then, wrote_part, wrote_started, wrote_whole}
use Rattle.da_commands.specs.LaunchSteps.{FinishBegan, HasFinished, HasFinishedRest, HasRun, HasStarted, IsFinishEnd, numbers, status_after}

-- WHAT IS TOLD, call by call

pub tells_none : (a : Option (List SpawnEntry)) → Tells a a []
tells_none None = refl
tells_none (Some told) = ap Some (sym (append-nil told))

pub tells_then : (a b c : Option (List SpawnEntry)) (xs ys : List SpawnEntry) → Tells a b xs → Tells b c ys → Tells a c (xs ++ ys)
tells_then None b c xs ys first next = rw (next, first) refl
tells_then (Some told) b c xs ys first next = rw (next, first) (ap Some (append_assoc told xs ys))

-- as it was
pub tells_same : (a b : Option (List SpawnEntry)) → b ≡ a → Tells a b []
tells_same a b same = subst (λ x. Tells a x []) (sym same) (tells_none a)

pub appends_same : (a b : Option (List ℕ)) → b ≡ a → Appends a b []
appends_same a b same = subst (λ x. Appends a x []) (sym same) (appends_none a)

-- STATUSES

pub status_more : (k : ℕ) (xs : List Ended) (x : Ended) → children_status k (xs ++ x ∷ []) ≡ status_after (children_status k xs) (k + length xs) x.status
status_more k [] x = let same : k ≡ k + 0 = omega arith in ap (λ n. status_after Done n x.status) same
status_more k (y ∷ ys) x = by_first (y.status == 0) (status_more (k + 1) ys x)
  where
    next : k + 1 + length ys ≡ k + length (y ∷ ys)
    next = omega arith

    by_first : (b : Bool) → children_status (k + 1) (ys ++ x ∷ []) ≡ status_after (children_status (k + 1) ys) (k + 1 + length ys) x.status
        → (if b then children_status (k + 1) (ys ++ x ∷ []) else ChildStatus k y.status)
        ≡ status_after (if b then children_status (k + 1) ys else ChildStatus k y.status) (k + length (y ∷ ys)) x.status
    by_first true rest = rest ∙ ap (λ n. status_after (children_status (k + 1) ys) n x.status) next
    by_first false rest = refl

-- a status that a whole reply may have
abbrev IsPlain : Status → Type 0
IsPlain Done = Unit {0}
IsPlain (ChildStatus child status) = Unit {0}
IsPlain _ = ⊥

status_plain : (k : ℕ) (ends : List Ended) → IsPlain (children_status k ends)
status_plain k [] = tt
status_plain k (end ∷ ends) = by_first (end.status == 0) (status_plain (k + 1) ends)
  where
    by_first : (b : Bool) → IsPlain (children_status (k + 1) ends) → IsPlain (if b then children_status (k + 1) ends else ChildStatus k end.status)
    by_first true rest = rest
    by_first false rest = tt

plain_end : (status : Status) → IsPlain status → IsFinishEnd status
plain_end Done plain = tt
plain_end (ChildStatus child status) plain = tt
plain_end _ plain = absurd plain

pub status_ends : (k : ℕ) (ends : List Ended) (status : Status) → status ≡ children_status k ends → IsFinishEnd status
status_ends k ends status is = plain_end status (subst IsPlain (sym is) (status_plain k ends))

-- THE CHILDREN THAT WERE FINISHED SO FAR

pub record FinishedSoFar (list left : List ℕ) (ends : List (Option Ended)) (told_before told_now : Option (List SpawnEntry)) : Type 0 where
  pub left_is : left ≡ drop (length ends) list
  pub sizes : length ends + length left ≡ length list
  pub told : Tells told_before told_now (finishes list ends)

pub none_so_far : (list : List ℕ) (told : Option (List SpawnEntry)) → FinishedSoFar list list [] told told
none_so_far list told = record { left_is = refl; sizes = omega arith; told = subst (Tells told told) (sym (finishes_none list)) (tells_none told) }

drop_then : {X : Type 0} (n : ℕ) (list rest : List X) (x : X) → x ∷ rest ≡ drop n list → rest ≡ drop (n + 1) list
drop_then zero [] rest x is = cc
drop_then zero (y ∷ ys) rest x is = cc
drop_then (suc n) [] rest x is = absurd (let clash : x ∷ rest ≡ [] = is in cc)
drop_then (suc n) (y ∷ ys) rest x is = let next : suc (n + 1) ≡ suc n + 1 = omega arith in drop_then n ys rest x is ∙ ap (λ m. drop m (y ∷ ys)) next

-- one more call
finishes_more : (list left : List ℕ) (child : ℕ) (ends : List (Option Ended)) (end : Option Ended) → child ∷ left ≡ drop (length ends) list → finishes list (ends ++ end ∷ []) ≡ finishes list ends ++ Finish child end ∷ []
finishes_more list left child ends end is =
    let here : finishes (drop (length ends) list) (end ∷ []) ≡ Finish child end ∷ [] = sym (ap (λ l. finishes l (end ∷ [])) is) ∙ ap (λ l. Finish child end ∷ l) (finishes_none left) in
    finishes_then list ends (end ∷ []) ∙ ap (λ l. finishes list ends ++ l) here

pub one_so_far : (list left : List ℕ) (child : ℕ) (ends : List (Option Ended)) (end : Option Ended) (told_before told_now told_after : Option (List SpawnEntry))
    → FinishedSoFar list (child ∷ left) ends told_before told_now → Tells told_now told_after (Finish child end ∷ []) → FinishedSoFar list left (ends ++ end ∷ []) told_before told_after
one_so_far list left child ends end told_before told_now told_after before told =
    let size : length (ends ++ end ∷ []) ≡ length ends + 1 = length-append ends (end ∷ []) in
    let calls : finishes list (ends ++ end ∷ []) ≡ finishes list ends ++ Finish child end ∷ [] = finishes_more list left child ends end before.left_is in
    record {
      left_is = drop_then (length ends) list left child before.left_is ∙ ap (λ n. drop n list) (sym size);
      sizes = omega (arith, size, before.sizes);
      told = subst (Tells told_before told_after) (sym calls) (tells_then told_before told_now told_after _ _ before.told told);
    }

-- children that end quietly, by which a reply that was cut short can go on
fill : ℕ → List Ended
fill n = replicate n (record { status = 0; output = [] })

filled : (n : ℕ) → length (fill n) ≡ n
unfolding fill
filled n = length_copies n (record { status = 0; output = [] })

-- what stops at a child
began_front : (list : List ℕ) (told_before told_after : Option (List SpawnEntry)) (before after : Option (List ℕ)) → FinishBegan list told_before told_after before after WroteLast → FinishBegan list told_before told_after before after WroteEnds
began_front list told_before told_after before after cut = record {
  calls = cut.calls;
  more = cut.more;
  status = cut.status;
  bytes = cut.bytes;
  reply = cut.reply;
  told = cut.told;
  written = cut.written;
  wrote = cut.wrote.front;
}

-- WHAT CAME SO FAR

module _ (list : List ℕ) (told_before : Option (List SpawnEntry)) (before : Option (List ℕ)) where
  -- these children have ended so, and it was written
  pub record Came (left : List ℕ) (process : ℕ) (status : Status) (told_now : Option (List SpawnEntry)) (now : Option (List ℕ)) : Type 0 where
    pub ends : List Ended
    pub so_far : FinishedSoFar list left (map Some ends) told_before told_now
    pub process_is : process ≡ length ends
    pub status_is : status ≡ children_status 1 ends
    pub written : Appends before now (children_text 1 ends)

  -- they are the first ones of a reply, of whose bytes a prefix was written
  began_ended : (Wrote : List SpawnEntry → Option (List ℕ) → Option (List ℕ) → Type 0) (left : List ℕ) (ends : List Ended) (told_now : Option (List SpawnEntry)) (now : Option (List ℕ))
      → FinishedSoFar list left (map Some ends) told_before told_now → AppendsPrefix before now (children_text 1 ends) → Wrote (finishes list (map Some ends)) before now
      → FinishBegan list told_before told_now before now Wrote
  began_ended Wrote left ends told_now now so_far written wrote =
      let all : List Ended = ends ++ fill (length left) in
      let size : length all ≡ length list = omega (arith, length-append ends (fill (length left)), filled (length left), so_far.sizes, length_map (λ (e : Ended). Some e) ends) in
      let behind : List SpawnEntry = finishes (drop (length (map (λ (e : Ended). Some e) ends)) list) (map Some (fill (length left))) in
      let calls : finishes list (map Some all) ≡ finishes list (map Some ends) ++ behind = ap (finishes list) (map_then Some ends (fill (length left))) ∙ finishes_then list (map Some ends) (map Some (fill (length left))) in
      record {
        calls = finishes list (map Some ends);
        more = behind;
        status = children_status 1 all;
        bytes = children_text 1 all;
        reply = subst (λ c. FinishReply list c (children_status 1 all) (children_text 1 all)) calls (reply.ended all size);
        told = so_far.told;
        written = subst (AppendsPrefix before now) (sym (text_then 1 ends (fill (length left)))) (prefix_before before now (children_text 1 ends) (children_text (1 + length ends) (fill (length left))) written);
        wrote = wrote;
      }

  -- there are no more of them than children
  few_ended : (left : List ℕ) (ends : List Ended) (told_now : Option (List SpawnEntry)) → FinishedSoFar list left (map Some ends) told_before told_now → length ends ≤ length list
  few_ended left ends told_now so_far = omega (arith, so_far.sizes, length_map (λ (e : Ended). Some e) ends)

  -- memory was refused where all was written
  began_whole : (left : List ℕ) (ends : List Ended) (told_now : Option (List SpawnEntry)) (now : Option (List ℕ)) → FinishedSoFar list left (map Some ends) told_before told_now
      → Appends before now (children_text 1 ends) → FinishBegan list told_before told_now before now WroteEnds
  began_whole left ends told_now now so_far written =
      began_ended WroteEnds left ends told_now now so_far (prefix_whole before now (children_text 1 ends) written)
      (wrote_whole (finishes list (map Some ends)) ends before now (ends_finished list ends (few_ended left ends told_now so_far)) written)

  pub came_first : (left : List ℕ) → left ≡ list → Came left 0 Done told_before before
  came_first left is = record {
    ends = [];
    so_far = subst (λ l. FinishedSoFar list l [] told_before told_before) (sym is) (none_so_far list told_before);
    process_is = refl;
    status_is = refl;
    written = appends_none before;
  }

  module _ (left : List ℕ) (child process : ℕ) (status : Status) (told_now : Option (List SpawnEntry)) (now : Option (List ℕ)) (came : Came (child ∷ left) process status told_now now) where
    -- with one more
    ended_more : (end : Ended) (told_after : Option (List SpawnEntry)) → Tells told_now told_after (Finish child (Some end) ∷ []) → FinishedSoFar list left (map Some (came.ends ++ end ∷ [])) told_before told_after
    ended_more end told_after told =
        subst (λ e. FinishedSoFar list left e told_before told_after) (sym (map_then Some came.ends (end ∷ [])))
        (one_so_far list left child (map Some came.ends) (Some end) told_before told_now told_after came.so_far told)

    text_is : (place : ℕ) (end : Ended) → place ≡ process + 1 → children_text 1 came.ends ++ child_text place end ≡ children_text 1 (came.ends ++ end ∷ [])
    text_is place end is =
        let same : place ≡ 1 + length came.ends = omega (arith, is, came.process_is) in
        ap (λ n. children_text 1 came.ends ++ child_text n end) same ∙ sym (text_more 1 came.ends end)

    pub came_on : (place code : ℕ) (end : Ended) (told_after : Option (List SpawnEntry)) (after : Option (List ℕ)) → place ≡ process + 1 → end.status ≡ code
        → Tells told_now told_after (Finish child (Some end) ∷ []) → Appends now after (child_text place end) → Came left place (status_after status place code) told_after after
    came_on place code end told_after after is code_is told written =
        let same : place ≡ 1 + length came.ends = omega (arith, is, came.process_is) in
        record {
          ends = came.ends ++ end ∷ [];
          so_far = ended_more end told_after told;
          process_is = omega (arith, is, came.process_is, length-append came.ends (end ∷ []));
          status_is = ap (λ s. status_after s place code) came.status_is ∙ ap (λ n. status_after (children_status 1 came.ends) n code) same
              ∙ ap (λ c. status_after (children_status 1 came.ends) (1 + length came.ends) c) (sym code_is) ∙ sym (status_more 1 came.ends end);
          written = subst (Appends before after) (text_is place end is) (appends_then before now after (children_text 1 came.ends) (child_text place end) came.written written);
        }

    -- what was written of the last one was cut short
    pub came_cut : (place : ℕ) (end : Ended) (told_after : Option (List SpawnEntry)) (after : Option (List ℕ)) → place ≡ process + 1 → Tells told_now told_after (Finish child (Some end) ∷ [])
        → AppendsPrefix now after (child_text place end) → FinishBegan list told_before told_after before after WroteLast
    came_cut place end told_after after is told written =
        let ends : List Ended = came.ends ++ end ∷ [] in
        let so_far : FinishedSoFar list left (map Some ends) told_before told_after = ended_more end told_after told in
        let calls : finishes list (map Some ends) ≡ finishes list (map Some came.ends) ++ Finish child (Some end) ∷ [] =
        ap (finishes list) (map_then Some came.ends (end ∷ [])) ∙ finishes_more list left child (map Some came.ends) (Some end) came.so_far.left_is in
        let passed : passed_ends (finishes list (map Some ends)) ≡ came.ends =
        ap passed_ends calls ∙ passed_more (finishes list (map Some came.ends)) (Finish child (Some end)) ∙ ends_finished list came.ends (few_ended (child ∷ left) came.ends told_now came.so_far) in
        let same : place ≡ 1 + length came.ends = omega (arith, is, came.process_is) in
        began_ended WroteLast left ends told_after after so_far
        (subst (AppendsPrefix before after) (text_is place end is) (prefix_after before now after (children_text 1 came.ends) (child_text place end) came.written written))
        (wrote_part (finishes list (map Some ends)) came.ends end place before now after (ends_finished list ends (few_ended left ends told_after so_far)) passed same came.written written)

    -- memory was refused
    pub came_memory : (place : ℕ) (told_after : Option (List SpawnEntry)) (after : Option (List ℕ)) → place ≡ process + 1
        → ((told_after ≡ told_now) × (after ≡ now)) ⊎ ((end : Ended) × Tells told_now told_after (Finish child (Some end) ∷ []) × AppendsPrefix now after (child_text place end))
        → FinishBegan list told_before told_after before after WroteEnds
    came_memory place told_after after is (inr (end, told, written)) = began_front list told_before told_after before after (came_cut place end told_after after is told written)
    came_memory place told_after after is (inl (told, same)) =
        subst (λ t. FinishBegan list told_before t before after WroteEnds) (sym told) (subst (λ a. FinishBegan list told_before told_now before a WroteEnds) (sym same)
        (began_whole (child ∷ left) came.ends told_now now came.so_far came.written))

    -- it could not be finished, and the others were finished with nothing written
    pub came_failed : (told_failed told_after : Option (List SpawnEntry)) (after : Option (List ℕ)) (result : Status) → Tells told_now told_failed (Finish child None ∷ []) → after ≡ now
        → HasFinishedRest left result told_failed told_after → HasFinished list result told_before told_after before after
    came_failed told_failed told_after after result failed same rest = by_status result rest
      where
        here : FinishedSoFar list left (map Some came.ends ++ None ∷ []) told_before told_failed
        here = one_so_far list left child (map Some came.ends) None told_before told_now told_failed came.so_far failed

        written : Appends before after (children_text 1 came.ends)
        written = subst (λ a. Appends before a (children_text 1 came.ends)) (sym same) came.written

        sizes : length came.ends + 1 + length left ≡ length list
        sizes = omega (arith, here.sizes, length-append (map Some came.ends) (None ∷ []), length_map (λ (e : Ended). Some e) came.ends)

        calls : (others : List (Option Ended)) → finishes list (map Some came.ends ++ None ∷ others) ≡ finishes list (map Some came.ends ++ None ∷ []) ++ finishes left others
        calls others =
            ap (finishes list) (sym (append_assoc (map Some came.ends) (None ∷ []) others)) ∙ finishes_then list (map Some came.ends ++ None ∷ []) others
            ∙ ap (λ l. finishes list (map Some came.ends ++ None ∷ []) ++ finishes l others) (sym here.left_is)

        told : (others : List (Option Ended)) → Tells told_failed told_after (finishes left others) → Tells told_before told_after (finishes list (map Some came.ends ++ None ∷ others))
        told others next = subst (Tells told_before told_after) (sym (calls others)) (tells_then told_before told_failed told_after _ _ here.told next)

        began : (others : List (Option Ended)) → length others ≤ length left → Tells told_failed told_after (finishes left others) → FinishBegan list told_before told_after before after WroteEnds
        began others few next =
            let fillers : List (Option Ended) = map Some (fill (length left - length others)) in
            let size : length fillers ≡ length left - length others = length_map Some (fill (length left - length others)) ∙ filled (length left - length others) in
            let whole : length came.ends + 1 + length (others ++ fillers) ≡ length list = omega (arith, size, sizes, few, length-append others fillers) in
            let first : List (Option Ended) = map Some came.ends ++ None ∷ others in
            let joined : finishes list (map Some came.ends ++ None ∷ (others ++ fillers)) ≡ finishes list first ++ finishes (drop (length first) list) fillers =
            ap (finishes list) (sym (append_assoc (map Some came.ends) (None ∷ others) fillers)) ∙ finishes_then list first fillers in
            record {
              calls = finishes list first;
              more = finishes (drop (length first) list) fillers;
              status = ChildFault;
              bytes = children_text 1 came.ends;
              reply = subst (λ c. FinishReply list c ChildFault (children_text 1 came.ends)) joined (reply.unfinished came.ends (others ++ fillers) whole);
              told = told others next;
              written = prefix_whole before after (children_text 1 came.ends) written;
              wrote = wrote_whole (finishes list first) came.ends before after (ends_failed list came.ends others (omega (arith, sizes))) written;
            }

        by_status : (status : Status) → HasFinishedRest left status told_failed told_after → HasFinished list status told_before told_after before after
        by_status ChildFault (others, size, next) = (_, _, reply.unfinished came.ends others (omega (arith, size, sizes)), told others next, written)
        by_status Memory (others, few, next) = began others few next
        by_status _ never = absurd never

  -- all have ended
  pub came_end : (left : List ℕ) (process : ℕ) (status : Status) (told_now : Option (List SpawnEntry)) (now : Option (List ℕ)) → Came left process status told_now now → left ≡ []
      → HasFinished list status told_before told_now before now
  came_end left process status told_now now came none = subst (λ s. HasFinished list s told_before told_now before now) (sym came.status_is) (by_status (children_status 1 came.ends) (status_plain 1 came.ends) whole)
    where
      empty : length left ≡ 0
      empty = ap length none

      size : length came.ends ≡ length list
      size = omega (arith, empty, came.so_far.sizes, length_map (λ (e : Ended). Some e) came.ends)

      whole : (calls : List SpawnEntry) × (bytes : List ℕ) × FinishReply list calls (children_status 1 came.ends) bytes × Tells told_before told_now calls × Appends before now bytes
      whole = (_, _, reply.ended came.ends size, came.so_far.told, came.written)

      by_status : (status : Status) → IsPlain status → ((calls : List SpawnEntry) × (bytes : List ℕ) × FinishReply list calls status bytes × Tells told_before told_now calls × Appends before now bytes)
          → HasFinished list status told_before told_now before now
      by_status Done plain whole = whole
      by_status (ChildStatus child code) plain whole = whole
      by_status _ plain whole = absurd plain

  pub came_ends : (left : List ℕ) (process : ℕ) (status : Status) (told_now : Option (List SpawnEntry)) (now : Option (List ℕ)) → Came left process status told_now now → IsFinishEnd status
  came_ends left process status told_now now came = status_ends 1 came.ends status came.status_is

  pub came_unlike : (left : List ℕ) (process : ℕ) (status : Status) (told_now : Option (List SpawnEntry)) (now : Option (List ℕ)) → Came left process status told_now now
      → (status ≡ WriteFault → ⊥) × (status ≡ ChildFault → ⊥)
  came_unlike left process status told_now now came =
      let plain : IsPlain status = subst IsPlain (sym came.status_is) (status_plain 1 came.ends) in
      (λ is. subst IsPlain is plain, λ is. subst IsPlain is plain)

-- that no write failed
pub memory_unwritten : Memory ≡ WriteFault → ⊥
memory_unwritten is = cc

pub unread_unwritten : ReadFault ≡ WriteFault → ⊥
unread_unwritten is = cc

-- a call that starts no child
pub no_child_cause : (n : ℕ) (status : Status) → (status ≡ ChildFault → ⊥) → HasChildCause n n status
no_child_cause n status never = record { later = omega arith; failed = λ is. absurd (never is); rises = λ rose. absurd (let rose : n < n = rose in omega (arith, rose)) }

-- CHILDREN THAT WERE STARTED SO FAR

pub started_more : (words : ℕ → List (List ℕ)) (list : List Child) (child : Child) (place : ℕ) (a b c : Option (List SpawnEntry)) → length list ≡ place → Tells a b (starts words 1 (numbers list))
    → Tells b c (Start (words (place + 1)) (Some child.number) ∷ []) → Tells a c (starts words 1 (numbers (list ++ child ∷ [])))
started_more words list child place a b c size before next =
    let count : 1 + length (numbers list) ≡ place + 1 = omega (arith, size, length_map (λ (x : Child). x.number) list) in
    let all : starts words 1 (numbers (list ++ child ∷ [])) ≡ starts words 1 (numbers list) ++ Start (words (place + 1)) (Some child.number) ∷ [] =
    ap (starts words 1) (map_then (λ (x : Child). x.number) list (child ∷ [])) ∙ starts_then words 1 (numbers list) (child.number ∷ [])
    ∙ ap (λ n. starts words 1 (numbers list) ++ Start (words n) (Some child.number) ∷ []) count in
    subst (Tells a c) (sym all) (tells_then a b c _ _ before next)

module _ (words : ℕ → List (List ℕ)) (count : ℕ) (list : List Child) (a b c : Option (List SpawnEntry)) (before : Tells a b (starts words 1 (numbers list))) where
  -- the next one failed
  pub started_failed : (place : ℕ) → length list ≡ place → place < count → Tells b c (Start (words (place + 1)) None ∷ []) → HasStarted words count (children.Broken list) a c
  started_failed place size few next =
      (omega (arith, size, few), tells_then a b c _ _ before (subst (λ n. Tells b c (Start (words (n + 1)) None ∷ [])) (sym size) next))

  -- memory was refused before the next one
  pub started_memory : length list ≤ count → c ≡ b → HasStarted words count children.Memory a c
  started_memory few same = (numbers list, omega (arith, few, length_map (λ (x : Child). x.number) list), subst (λ t. Tells a t (starts words 1 (numbers list))) (sym same) before)

  -- or after it
  pub started_lost : (child : Child) (place : ℕ) → length list ≡ place → place < count → Tells b c (Start (words (place + 1)) (Some child.number) ∷ []) → HasStarted words count children.Memory a c
  started_lost child place size few next =
      (numbers (list ++ child ∷ []), omega (arith, size, few, length_map (λ (x : Child). x.number) (list ++ child ∷ []), length-append list (child ∷ [])), started_more words list child place a b c size before next)

-- THE WHOLE LAUNCH

module _ (words : ℕ → List (List ℕ)) (count : ℕ) (told_before told_now told_after : Option (List SpawnEntry)) (before after : Option (List ℕ)) where
  -- all children were started
  pub ran_all : (list : List Child) (status : Status) → HasStarted words count (children.All list) told_before told_now → HasFinished (numbers list) status told_now told_after before after
      → HasRun words count status told_before told_after before after
  ran_all list status started finished = by_status status finished
    where
      size : length (numbers list) ≡ count
      size = length_map (λ (child : Child). child.number) list ∙ started.0

      first : List SpawnEntry
      first = starts words 1 (numbers list)

      began : (Wrote : List SpawnEntry → Option (List ℕ) → Option (List ℕ) → Type 0) (cut : FinishBegan (numbers list) told_now told_after before after Wrote) → Wrote (first ++ cut.calls) before after
          → LaunchBegan words count told_before told_after before after Wrote
      began Wrote cut wrote = record {
        calls = first ++ cut.calls;
        more = cut.more;
        status = cut.status;
        bytes = cut.bytes;
        reply = subst (λ c. LaunchReply words count c cut.status cut.bytes) (sym (append_assoc first cut.calls cut.more)) (reply.started (numbers list) (cut.calls ++ cut.more) cut.status cut.bytes size cut.reply);
        told = tells_then told_before told_now told_after first cut.calls started.1 cut.told;
        written = cut.written;
        wrote = wrote;
      }

      by_status : (status : Status) → HasFinished (numbers list) status told_now told_after before after → HasRun words count status told_before told_after before after
      by_status WriteFault cut = began WroteLast cut (last_started words 1 (numbers list) cut.calls before after cut.wrote)
      by_status Memory cut = began WroteEnds cut (wrote_started words 1 (numbers list) cut.calls before after cut.wrote)
      by_status status (calls, bytes, finished, told, written) =
          (first ++ calls, bytes, reply.started (numbers list) calls status bytes size finished, tells_then told_before told_now told_after first calls started.1 told, written)

  -- one could not be started
  pub ran_broken : (list : List Child) (status : Status) → HasStarted words count (children.Broken list) told_before told_now → HasFinishedRest (numbers list) status told_now told_after → after ≡ before
      → HasRun words count status told_before told_after before after
  ran_broken list status started finished same = by_status status finished
    where
      size : length (numbers list) ≡ length list
      size = length_map (λ (child : Child). child.number) list

      few : length (numbers list) < count
      few = omega (arith, size, started.0)

      last : SpawnEntry
      last = Start (words (length (numbers list) + 1)) None

      failed : Tells told_before told_now (starts words 1 (numbers list) ++ last ∷ [])
      failed = subst (λ n. Tells told_before told_now (starts words 1 (numbers list) ++ Start (words (n + 1)) None ∷ [])) (sym size) started.1

      first : List SpawnEntry
      first = starts words 1 (numbers list) ++ last ∷ []

      calls : (ends : List (Option Ended)) → first ++ finishes (numbers list) ends ≡ starts words 1 (numbers list) ++ last ∷ finishes (numbers list) ends
      calls ends = append_assoc (starts words 1 (numbers list)) (last ∷ []) (finishes (numbers list) ends)

      told : (ends : List (Option Ended)) → Tells told_now told_after (finishes (numbers list) ends) → Tells told_before told_after (first ++ finishes (numbers list) ends)
      told ends next = tells_then told_before told_now told_after first _ failed next

      none : Appends before after []
      none = appends_same before after same

      began : (ends : List (Option Ended)) → length ends ≤ length (numbers list) → Tells told_now told_after (finishes (numbers list) ends) → LaunchBegan words count told_before told_after before after WroteEnds
      began ends within next =
          let fillers : List (Option Ended) = map Some (fill (length (numbers list) - length ends)) in
          let added : length fillers ≡ length (numbers list) - length ends = length_map Some (fill (length (numbers list) - length ends)) ∙ filled (length (numbers list) - length ends) in
          let whole : length (ends ++ fillers) ≡ length (numbers list) = omega (arith, added, within, length-append ends fillers) in
          let behind : List SpawnEntry = finishes (drop (length ends) (numbers list)) fillers in
          let joined : starts words 1 (numbers list) ++ last ∷ finishes (numbers list) (ends ++ fillers) ≡ (first ++ finishes (numbers list) ends) ++ behind =
          sym (calls (ends ++ fillers)) ∙ ap (λ l. first ++ l) (finishes_then (numbers list) ends fillers) ∙ sym (append_assoc first (finishes (numbers list) ends) behind) in
          record {
            calls = first ++ finishes (numbers list) ends;
            more = behind;
            status = ChildFault;
            bytes = [];
            reply = subst (λ c. LaunchReply words count c ChildFault []) joined (reply.unstarted (numbers list) (ends ++ fillers) few whole);
            told = told ends next;
            written = prefix_whole before after [] none;
            wrote = wrote_whole (first ++ finishes (numbers list) ends) [] before after (ap ends_in (calls ends) ∙ ends_started words 1 (numbers list) (last ∷ finishes (numbers list) ends)) none;
          }

      by_status : (status : Status) → HasFinishedRest (numbers list) status told_now told_after → HasRun words count status told_before told_after before after
      by_status ChildFault (ends, whole, next) =
          (_, _, subst (λ c. LaunchReply words count c ChildFault []) (sym (calls ends)) (reply.unstarted (numbers list) ends few whole), told ends next, none)
      by_status Memory (ends, within, next) = began ends within next
      by_status _ never = absurd never

-- memory was refused while children were started
pub ran_memory : (words : ℕ → List (List ℕ)) (count : ℕ) (told_before told_after : Option (List SpawnEntry)) (taken : Option (List ℕ)) → HasStarted words count children.Memory told_before told_after
    → HasRun words count Memory told_before told_after taken taken
ran_memory words count told_before told_after taken (list, few, told) =
    let zeros : List ℕ = replicate (count - length list) 0 in
    let whole : length (list ++ zeros) ≡ count = omega (arith, few, length-append list zeros, length_copies {X = ℕ} (count - length list) 0) in
    let size : length (fill count) ≡ length (list ++ zeros) = filled count ∙ sym whole in
    let rest : List SpawnEntry = finishes (list ++ zeros) (map Some (fill count)) in
    let joined : starts words 1 (list ++ zeros) ++ rest ≡ starts words 1 list ++ (starts words (1 + length list) zeros ++ rest) =
    ap (λ l. l ++ rest) (starts_then words 1 list zeros) ∙ append_assoc (starts words 1 list) (starts words (1 + length list) zeros) rest in
    record {
      calls = starts words 1 list;
      more = starts words (1 + length list) zeros ++ rest;
      status = children_status 1 (fill count);
      bytes = children_text 1 (fill count);
      reply = subst (λ c. LaunchReply words count c (children_status 1 (fill count)) (children_text 1 (fill count))) joined
          (reply.started (list ++ zeros) rest (children_status 1 (fill count)) (children_text 1 (fill count)) whole (reply.ended (fill count) size));
      told = told;
      written = prefix_none taken (children_text 1 (fill count));
      wrote = wrote_whole (starts words 1 list) [] taken taken (none_started words 1 list) (appends_none taken);
    }

-- WHERE A CHILD FAILED

-- what is finished with nothing written ends so
pub rest_ends : (list : List ℕ) (status : Status) (a b : Option (List SpawnEntry)) → HasFinishedRest list status a b → (status ≡ ChildFault) ⊎ (status ≡ Memory)
rest_ends list ChildFault a b has = inl refl
rest_ends list Memory a b has = inr refl
rest_ends list _ a b has = absurd has

pub rest_finish : (status : Status) → (status ≡ ChildFault) ⊎ (status ≡ Memory) → IsFinishEnd status
rest_finish status (inl is) = subst IsFinishEnd (sym is) tt
rest_finish status (inr is) = subst IsFinishEnd (sym is) tt

pub rest_written : (status : Status) → (status ≡ ChildFault) ⊎ (status ≡ Memory) → status ≡ WriteFault → ⊥
rest_written status (inl is) write = let clash : ChildFault ≡ WriteFault = sym is ∙ write in cc
rest_written status (inr is) write = let clash : Memory ≡ WriteFault = sym is ∙ write in cc

-- nothing failed before
pub cause_later : {P : Type 0} (before mid now : ℕ) (status : Status) → (P → ⊥) → HasCause before mid P → HasChildCause mid now status → HasChildCause before now status
cause_later before mid now status never first next =
    let same : before ≡ mid = by_order (first.later) (λ rose. never (first.rises rose)) in
    subst (λ n. HasChildCause n now status) (sym same) next
  where
    by_order : before ≤ mid → (before < mid → ⊥) → before ≡ mid
    by_order later unmoved = grind (arith, later, unmoved)

-- a start failed
pub cause_broken : {P : Type 0} (before mid now : ℕ) (status : Status) → P → HasCause before mid P → mid ≤ now → (status ≡ ChildFault) ⊎ (status ≡ Memory) → HasChildCause before now status
cause_broken before mid now status failed first later ends =
    let rose : Rose before mid = first.failed failed in
    let since : before ≤ mid = first.later in
    record { later = omega (arith, since, later); failed = λ is. grind (arith, rose, later); rises = λ _. ends }

-- memory was refused while children were started
pub cause_memory : {P : Type 0} (before now : ℕ) → HasCause before now P → HasChildCause before now Memory
cause_memory before now first = record { later = first.later; failed = λ is. absurd (let clash : Memory ≡ ChildFault = is in cc); rises = λ _. inr refl }
