-- Counts that are renewed one after the other.
use Rattle.std.proofs.Common.{◌≡◌, refl, sym, ◌∙◌, ap, subst, ℕ, zero, suc, ◌+◌, ◌≤◌, List, [], ◌∷◌, ◌++◌, length, take, inl, inr, arith}
use Rattle.std.specs.Prelude.{true, Option, Some, None, IfSome, is_some, slice_get}
use Rattle.std.specs.List.{AllByRecursion}
use Rattle.std.proofs.lemmas.Bool.{cases_eq, false≢true}
use Rattle.da_lang.specs.declared.event.Action.{Action}
use Rattle.da_lang.specs.declared.event.Action.TheVariants.{Sent}
use Rattle.da_lang.specs.declared.event.Event.{Event}
use Rattle.da_lang.specs.declared.event.Event.TheVariants.{Move, Take, Timeout, Deliver, Lose, Repeat}
use Rattle.da_lang.specs.declared.program.Program.{Program}
use Rattle.da_lang.specs.World.{at_number}
use Rattle.da_system.specs.Channels.{or_empty, put_numbered}
use Rattle.da_system.specs.Choices.{deliveries_to, moves_of}
use Rattle.da_system.specs.Counted.{Counted, no_counts, with_deliveries, with_moves}
use Rattle.da_system.specs.Counts.{AreCounts, CountsChannel, CountsDeliveries, CountsEvent, CountsMoves, CountsProcess, CountsSent, HasSizes, KeepsCounts, allowed_in}
use Rattle.da_system.specs.Queues.{IsAmong}
use Rattle.da_system.specs.SystemStep.{SystemState}
use Rattle.da_system.proofs.NumberLaws.{among_there, at_both, both_other, both_there, put_other, put_there}
use Rattle.da_system.proofs.QueueLaws.{take_next}
use Rattle.da_system.proofs.SystemLaws.{all_put, all_replicate, length-put}
use Rattle.da_system.proofs.WorldLemmas.{all_numbered}
use Rattle.std.proofs.lemmas.List.{length-replicate}

abbrev pub IsWide : ℕ → List ℕ → Type 0
IsWide count row = length row ≡ count

-- SIZES

pub sizes_open : (count : ℕ) → HasSizes count (no_counts count)
sizes_open count = record {
  moves = length-replicate {A = ℕ} count 0;
  senders = length-replicate count ((no_counts count).moves);
  recipients = all_replicate (IsWide count) count ((no_counts count).moves) (length-replicate {A = ℕ} count 0);
}

module _ (counts : Counted) (count : ℕ) (sizes : HasSizes count counts) where
  sizes_moves : (p n : ℕ) → HasSizes count (with_moves counts p n)
  sizes_moves p n = record { moves = length-put counts.moves p n ∙ sizes.moves; senders = sizes.senders; recipients = sizes.recipients }

  sizes_deliveries : (p q n : ℕ) → HasSizes count (with_deliveries counts p q n)
  sizes_deliveries p q n =
      let row : List ℕ = put_numbered (or_empty (at_number counts.deliveries p)) q n in
      record {
        moves = sizes.moves;
        senders = length-put counts.deliveries p row ∙ sizes.senders;
        recipients = all_put (IsWide count) counts.deliveries p row sizes.recipients
            (λ was there wide. length-put (or_empty (at_number counts.deliveries p)) q n ∙ ap (λ (o : Option (List ℕ)). length (or_empty o)) there ∙ wide);
      }

  -- there is a count for each two processes
  in_row : (p q : ℕ) → IsAmong count q → (row : Option (List ℕ)) → at_number counts.deliveries p ≡ row → is_some row ≡ true → is_some (at_number (or_empty row) q) ≡ true
  in_row p q to None is there = absurd (false≢true there)
  in_row p q to (Some row) is there =
      let wide : length row ≡ count = subst (λ (o : Option (List ℕ)). IfSome o (IsWide count)) is (all_numbered (IsWide count) counts.deliveries p sizes.recipients) in
      among_there row q (subst (λ k. IsAmong k q) (sym wide) to)

  count_there : (p q : ℕ) → IsAmong count p → IsAmong count q → is_some (at_both counts.deliveries p q) ≡ true
  count_there p q from to = in_row p q to (at_number counts.deliveries p) refl (among_there counts.deliveries p (subst (λ k. IsAmong k p) (sym sizes.senders) from))

-- ONE COUNT

module _ (program : Program) (s : SystemState) (counts : Counted) where
  module _ (p n : ℕ) (is : n ≡ allowed_in program s (moves_of s p)) where
    moves_kept : (a : ℕ) → CountsMoves program s counts a → CountsMoves program s (with_moves counts p n) a
    moves_kept a here = elim (cases_eq a p) [
      | inr other ↦ put_other counts.moves a p n other ∙ here
      | inl same ↦ ap (at_number (put_numbered counts.moves p n)) same ∙ put_there counts.moves p n (ap is_some (ap (at_number counts.moves) (sym same) ∙ here))
          ∙ ap Some (is ∙ ap (λ k. allowed_in program s (moves_of s k)) (sym same))
    ]

    pub keeps_moves : KeepsCounts program s counts (with_moves counts p n)
    keeps_moves = record {
      sizes = λ count sizes. sizes_moves counts count sizes p n;
      moves = moves_kept;
      deliveries = λ a b here. here;
    }

    pub puts_moves : (count : ℕ) → HasSizes count counts → IsAmong count p → CountsMoves program s (with_moves counts p n) p
    puts_moves count sizes among = put_there counts.moves p n (among_there counts.moves p (subst (λ k. IsAmong k p) (sym sizes.moves) among)) ∙ ap Some is

  module _ (p q n : ℕ) (is : n ≡ allowed_in program s (deliveries_to p q)) where
    -- the same count again
    again : (a b : ℕ) → a ≡ p → b ≡ q → CountsDeliveries program s counts a b → CountsDeliveries program s (with_deliveries counts p q n) a b
    again a b from to here =
        let there : is_some (at_both counts.deliveries p q) ≡ true = ap (λ k. is_some (at_both counts.deliveries k q)) (sym from) ∙ ap (λ k. is_some (at_both counts.deliveries a k)) (sym to) ∙ ap is_some here in
        ap (λ k. at_both (with_deliveries counts p q n).deliveries k b) from ∙ ap (at_both (with_deliveries counts p q n).deliveries p) to
        ∙ both_there counts.deliveries p q n there
        ∙ ap Some (is ∙ ap (λ k. allowed_in program s (deliveries_to k q)) (sym from) ∙ ap (λ k. allowed_in program s (deliveries_to a k)) (sym to))

    deliveries_kept : (a b : ℕ) → CountsDeliveries program s counts a b → CountsDeliveries program s (with_deliveries counts p q n) a b
    deliveries_kept a b here = elim (cases_eq a p) [
      | inr other ↦ both_other counts.deliveries p q n a b (λ both. other both.0) ∙ here
      | inl from ↦ elim (cases_eq b q) [
        | inr other ↦ both_other counts.deliveries p q n a b (λ both. other both.1) ∙ here
        | inl to ↦ again a b from to here
      ]
    ]

    pub keeps_deliveries : KeepsCounts program s counts (with_deliveries counts p q n)
    keeps_deliveries = record {
      sizes = λ count sizes. sizes_deliveries counts count sizes p q n;
      moves = λ a here. here;
      deliveries = deliveries_kept;
    }

    pub puts_deliveries : HasSizes (length s.worlds) counts → CountsChannel program s (with_deliveries counts p q n) p q
    puts_deliveries sizes from to = both_there counts.deliveries p q n (count_there counts (length s.worlds) sizes p q from to) ∙ ap Some is

-- SEVERAL COUNTS

module _ (program : Program) (s : SystemState) where
  pub keeps_same : (counts : Counted) → KeepsCounts program s counts counts
  keeps_same counts = record { sizes = λ count sizes. sizes; moves = λ p here. here; deliveries = λ p q here. here }

  module _ (now new : Counted) (keeps : KeepsCounts program s now new) where
    pub keeps_then : (first : Counted) → KeepsCounts program s first now → KeepsCounts program s first new
    keeps_then first so_far = record {
      sizes = λ count sizes. keeps.sizes count (so_far.sizes count sizes);
      moves = λ p here. keeps.moves p (so_far.moves p here);
      deliveries = λ p q here. keeps.deliveries p q (so_far.deliveries p q here);
    }

    channel_kept : (p q : ℕ) → CountsChannel program s now p q → CountsChannel program s new p q
    channel_kept p q here = λ from to. keeps.deliveries p q (here from to)

    process_kept : (p : ℕ) → CountsProcess program s now p → CountsProcess program s new p
    process_kept p here = record { moves = λ among. keeps.moves p (here.moves among); arriving = λ sender. channel_kept sender p (here.arriving sender) }

    pub event_kept : (e : Event) → CountsEvent program s now e → CountsEvent program s new e
    event_kept (Move p) here = process_kept p here
    event_kept (Take p k) here = process_kept p here
    event_kept (Timeout p) here = process_kept p here
    event_kept (Deliver p q i) here = process_kept q here
    event_kept (Lose p q i) here = channel_kept p q here
    event_kept (Repeat p q i) here = channel_kept p q here
    event_kept _ here = tt

    sent_kept : (a : Action) → CountsSent program s now a → CountsSent program s new a
    sent_kept (Sent p q time m) here = channel_kept p q here
    sent_kept _ here = tt

    all_kept : (actions : List Action) → AllByRecursion (CountsSent program s now) actions → AllByRecursion (CountsSent program s new) actions
    all_kept [] all = tt
    all_kept (a ∷ others) all = (sent_kept a all.0, all_kept others all.1)

-- WHAT MAY ARRIVE AT A PROCESS, sender after sender

-- the moves of process p are counted anew, and what may arrive from the senders up to this one
pub record Renewing (program : Program) (s : SystemState) (first now : Counted) (p place : ℕ) : Type 0 where
  pub keeps : KeepsCounts program s first now
  pub moves : HasSizes (length s.worlds) first → IsAmong (length s.worlds) p → CountsMoves program s now p
  pub arriving : HasSizes (length s.worlds) first → (sender : ℕ) → sender ≤ place → CountsChannel program s now sender p

module _ (program : Program) (s : SystemState) (first : Counted) (p : ℕ) where
  pub renewing_first : (n : ℕ) → n ≡ allowed_in program s (moves_of s p) → Renewing program s first (with_moves first p n) p 0
  renewing_first n is = record {
    keeps = keeps_moves program s first p n is;
    moves = λ sizes among. puts_moves program s first p n is (length s.worlds) sizes among;
    arriving = λ sizes sender few from to. absurd (omega (arith, few, from.0));
  }

  module _ (now : Counted) (place : ℕ) (so_far : Renewing program s first now p place) where
    pub renewing_next : (new : Counted) → KeepsCounts program s now new → (HasSizes (length s.worlds) now → CountsChannel program s new (place + 1) p) → Renewing program s first new p (place + 1)
    renewing_next new keeps made = record {
      keeps = keeps_then program s now new keeps first so_far.keeps;
      moves = λ sizes among. keeps.moves p (so_far.moves sizes among);
      arriving = λ sizes sender few. elim (cases_eq sender (place + 1)) [
        | inl same ↦ subst (λ k. CountsChannel program s new k p) (sym same) (made (so_far.keeps.sizes (length s.worlds) sizes))
        | inr other ↦ channel_kept program s now new keeps sender p (so_far.arriving sizes sender (omega (arith, few, other)))
      ];
    }

    pub renewing_all : length s.worlds ≤ place → HasSizes (length s.worlds) first → CountsProcess program s now p
    renewing_all past sizes = record {
      moves = so_far.moves sizes;
      arriving = λ sender from to. so_far.arriving sizes sender (omega (arith, from.1, past)) from to;
    }

-- WHAT ACTIONS SEND, one after the other

-- the channels into which the actions up to this place send are counted anew
pub record Sending (program : Program) (s : SystemState) (first now : Counted) (actions : List Action) : Type 0 where
  pub keeps : KeepsCounts program s first now
  pub made : HasSizes (length s.worlds) first → AllByRecursion (CountsSent program s now) actions

all_one_more : {A : Type 0} (P : A → Type 0) (xs : List A) (x : A) → AllByRecursion P xs → P x → AllByRecursion P (xs ++ x ∷ [])
all_one_more P [] x all holds = (holds, tt)
all_one_more P (y ∷ ys) x all holds = (all.0, all_one_more P ys x all.1 holds)

pub all_taken : {A : Type 0} (xs : List A) (n : ℕ) → length xs ≤ n → take n xs ≡ xs
all_taken [] zero past = refl
all_taken [] (suc n) past = refl
all_taken (x ∷ xs) zero past = absurd (omega (arith, past))
all_taken {A} (x ∷ xs) (suc n) past = ap (λ (ys : List A). x ∷ ys) (all_taken xs n (omega (arith, past)))

module _ (program : Program) (s : SystemState) (first : Counted) (actions : List Action) where
  pub sending_first : Sending program s first first []
  sending_first = record { keeps = keeps_same program s first; made = λ sizes. tt }

  pub sending_next : (now new : Counted) (i : ℕ) (a : Action) → slice_get actions i ≡ Some a → Sending program s first now (take i actions)
      → KeepsCounts program s now new → (HasSizes (length s.worlds) now → CountsSent program s new a) → Sending program s first new (take (i + 1) actions)
  sending_next now new i a there so_far keeps made = record {
    keeps = keeps_then program s now new keeps first so_far.keeps;
    made = λ sizes. subst (AllByRecursion (CountsSent program s new)) (sym (take_next actions i a there))
        (all_one_more (CountsSent program s new) (take i actions) a (all_kept program s now new keeps (take i actions) (so_far.made sizes)) (made (so_far.keeps.sizes (length s.worlds) sizes)));
  }

-- ALL COUNTS, process after process

-- the counts of the processes up to this one are made
pub record Counting (program : Program) (s : SystemState) (counts : Counted) (place : ℕ) : Type 0 where
  pub sizes : HasSizes (length s.worlds) counts
  pub processes : (p : ℕ) → p ≤ place → CountsProcess program s counts p

module _ (program : Program) (s : SystemState) (counts : Counted) where
  pub counting_first : HasSizes (length s.worlds) counts → Counting program s counts 0
  counting_first sizes = record {
    sizes = sizes;
    processes = λ p few. record { moves = λ among. absurd (omega (arith, few, among.0)); arriving = λ sender from to. absurd (omega (arith, few, to.0)) };
  }

  module _ (place : ℕ) (so_far : Counting program s counts place) where
    pub counting_next : (new : Counted) → KeepsCounts program s counts new → (HasSizes (length s.worlds) counts → CountsProcess program s new (place + 1)) → Counting program s new (place + 1)
    counting_next new keeps made = record {
      sizes = keeps.sizes (length s.worlds) so_far.sizes;
      processes = λ p few. elim (cases_eq p (place + 1)) [
        | inl same ↦ subst (CountsProcess program s new) (sym same) (made so_far.sizes)
        | inr other ↦ process_kept program s counts new keeps p (so_far.processes p (omega (arith, few, other)))
      ];
    }

    pub counting_all : length s.worlds ≤ place → AreCounts program s counts
    counting_all past = record {
      sizes = so_far.sizes;
      moves = λ p among. (so_far.processes p (omega (arith, among.1, past))).moves among;
      deliveries = λ p q from to. (so_far.processes q (omega (arith, to.1, past))).arriving p from to;
    }
