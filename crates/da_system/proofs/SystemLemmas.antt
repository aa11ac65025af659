-- A system by its network and its counts: before any event, after one, and how many events it may pick.
use Rattle.std.proofs.Common.{◌≡◌, refl, sym, ◌∙◌, ap, subst, ℕ, zero, suc, ◌+◌, ◌-◌, ◌≤◌, Bool, List, [], ◌∷◌, ◌++◌, length, drop, arith, length-append}
use Rattle.std.specs.Prelude.{Option, Some, None, Err, IfSome, SomeIff, is_some, option_map, slice_get, sum}
use Rattle.std.specs.List.{filter, flat_map, range_with_len}
use Rattle.std.proofs.lemmas.Bool.{false≢true}
use Rattle.std.proofs.lemmas.List.Elements.{filter-append}
use Rattle.std.proofs.lemmas.List.Sums.{sum_by-cons}
use Rattle.da_lang.specs.declared.event.Action.{Action}
use Rattle.da_lang.specs.declared.event.Event.{Event}
use Rattle.da_lang.specs.declared.program.Program.{Program}
use Rattle.da_lang.specs.World.{at_number}
use Rattle.da_core.specs.declared.place.StepFault.{StepFault}
use Rattle.da_core.specs.declared.place.StepFault.TheVariants.{Forbidden, Memory, Spent}
use Rattle.da_system.specs.declared.network.Network.{Network}
use Rattle.da_system.specs.declared.system.System.{System}
use Rattle.da_system.specs.Channels.{or_empty}
use Rattle.da_system.specs.Choices.{deliveries_from, deliveries_to, is_allowed, moves_of}
use Rattle.da_system.specs.Counted.{Counted, no_counts}
use Rattle.da_system.specs.Counts.{AreCounts, CountsStep, HasSizes, KeepsCounts, allowed_in}
use Rattle.da_system.specs.Network as network
use Rattle.da_system.specs.Picking.{Finds, IsPast}
use Rattle.da_system.specs.Queues.{IsAmong}
use Rattle.da_system.specs.State.{Answers, HasStepped, Stands, program_of}
use Rattle.da_system.specs.SystemStep.{AfterEvent, SystemState, start, sys_step}
use Rattle.da_system.proofs.FollowLaws.{counts_follow}
use Rattle.da_system.proofs.NumberLaws.{at_both}
use Rattle.da_system.proofs.PlaceLemmas.{numbered_within}
use Rattle.da_system.proofs.RenewLaws.{IsWide, sizes_open}
use Rattle.da_system.proofs.SystemLaws.{length-opened}
use Rattle.da_system.proofs.WorldLemmas.{all_numbered}

-- BEFORE ANY EVENT

pub opened_counts : (opened : Network) (program : Program) (count : ℕ) (zeros counts : Counted) → count ≡ length program.procs → network.Stands opened (start program) → zeros ≡ no_counts count
    → network.Whichever opened (λ s. HasSizes (length s.worlds) zeros → AreCounts (network.program_of opened) s counts) → AreCounts (network.program_of opened) (start program) counts
opened_counts opened program count zeros counts many stands none made =
    let same : count ≡ length (start program).worlds = many ∙ sym (length-opened program 1 (length program.procs)) in
    made (start program) stands (subst (HasSizes (length (start program).worlds)) (sym none) (subst (λ n. HasSizes n (no_counts count)) same (sizes_open count)))

-- AFTER AN EVENT

pub longer : (old new actions : List Action) → new ≡ old ++ actions → length old ≤ length new
longer old new actions added = omega (arith, ap (λ (xs : List Action). length xs) added, length-append old actions)

drop_first : (xs ys : List Action) → drop (length xs) (xs ++ ys) ≡ ys
drop_first [] ys = refl
drop_first (x ∷ xs) ys = drop_first xs ys

module _ (system left : System) (same : network.program_of left.network ≡ network.program_of system.network) where
  -- the network has stepped, and the counts have followed
  pub stepped_on : (s : SystemState) (e : Event) (old new : List Action) (told : ℕ) → Stands system s → told ≡ length old → network.HasStepped (sys_step (program_of system) s e) left.network old new
      → network.Whichever left.network (λ next. KeepsCounts (network.program_of left.network) next system.counts left.counts)
      → network.Whichever left.network (λ next. HasSizes (length next.worlds) system.counts → CountsStep (network.program_of left.network) next e (drop told new) left.counts)
      → HasStepped (sys_step (program_of system) s e) left old new
  stepped_on s e old new told stands is has keeps made =
      let next : SystemState = has.after.state in
      let kind : s.kind ≡ next.kind = stands.runs.sound.kind ∙ sym (has.stands.sound.kind ∙ ap (λ (p : Program). p.kind) same) in
      let many : length next.worlds ≡ length s.worlds = has.stands.sound.each ∙ ap (λ (p : Program). length p.procs) same ∙ sym stands.runs.sound.each in
      let did : drop told new ≡ has.after.actions = ap (λ k. drop k new) is ∙ ap (drop (length old)) has.added ∙ drop_first old has.after.actions in
      let sizes : HasSizes (length next.worlds) system.counts = subst (λ n. HasSizes n system.counts) (sym many) stands.counts.sizes in
      let kept : KeepsCounts (program_of system) next system.counts left.counts = subst (λ (p : Program). KeepsCounts p next system.counts left.counts) same (keeps next has.stands) in
      let renewed : CountsStep (program_of system) next e has.after.actions left.counts =
      subst (λ (actions : List Action). CountsStep (program_of system) next e actions left.counts) did
      (subst (λ (p : Program). CountsStep p next e (drop told new) left.counts) same (made next has.stands sizes)) in
      record {
        after = has.after;
        is = has.is;
        stands = record {
          runs = has.stands;
          counts = subst (λ (p : Program). AreCounts p next left.counts) (sym same)
              (counts_follow (program_of system) s system.counts left.counts stands.counts has.after kind many kept e has.is renewed);
        };
        added = has.added;
      }

  -- the counts stay where nothing has changed
  counts_as : (s : SystemState) → left.counts ≡ system.counts → AreCounts (program_of system) s system.counts → AreCounts (program_of left) s left.counts
  counts_as s stay counts = subst (λ (p : Program). AreCounts p s left.counts) (sym same) (subst (AreCounts (program_of system) s) (sym stay) counts)

  counts_back : (s : SystemState) → left.counts ≡ system.counts → AreCounts (program_of left) s left.counts → AreCounts (program_of system) s system.counts
  counts_back s stay counts = subst (λ (p : Program). AreCounts p s system.counts) same (subst (AreCounts (program_of left) s) stay counts)

  -- the network has not stepped, and the counts stay
  pub failed_on : (step : SystemState → Option AfterEvent) (old new : List Action) (fault : StepFault) → left.counts ≡ system.counts → network.Answers step system.network (Err fault) left.network old new
      → Answers step system (Err fault) left old new
  failed_on step old new Forbidden stay answers = (
    λ s stands. answers.0 s stands.runs,
    λ s. (
      λ stands. record { runs = (answers.1 s).0 stands.runs; counts = counts_as s stay stands.counts },
      λ stands. record { runs = (answers.1 s).1 stands.runs; counts = counts_back s stay stands.counts },
    ),
    answers.2,
  )
  failed_on step old new Memory stay answers = (answers.0, λ s stands. answers.1 s stands.runs)
  failed_on step old new Spent stay answers = answers

-- HOW MANY EVENTS MAY BE PICKED

pub past_few : (j past most : ℕ) (count : Option ℕ) → IfSome count (λ n. n ≤ most) → IsPast j count past → j ≤ past + most
past_few j past most None few is = absurd is
past_few j past most (Some n) few is = omega (arith, few, is)

pub past_sub : (j n : ℕ) (count r : Option ℕ) → count ≡ Some n → SomeIff r (n ≤ j) (j - n) → IfSome r (λ past. IsPast j count past)
past_sub j n count None is told = tt
past_sub j n count (Some past) is told = subst (λ (o : Option ℕ). IsPast j o past) (sym is) (let there : j ≡ n + past = omega (arith, told.0, told.1) in there)

-- so many are all
past_all : (j past all : ℕ) (count : Option ℕ) → ((n : ℕ) → count ≡ Some n → n ≡ all) → IsPast j count past → j ≡ all + past
past_all j past all None known is = absurd is
past_all j past all (Some n) known is = let same : n ≡ all = known n refl in omega (arith, same, is)

-- a list of counts and what is counted, piece after piece
sum_pieces : (allowed : Event → Bool) (pieces : ℕ → List Event) (first n : ℕ) (row : List ℕ) → length row ≡ n → ((k m : ℕ) → slice_get row k ≡ Some m → m ≡ length (filter allowed (pieces (first + k))))
    → sum row ≡ length (filter allowed (flat_map pieces (range_with_len first n)))
sum_pieces allowed pieces first zero [] size each = refl
sum_pieces allowed pieces first zero (m ∷ row) size each = absurd (omega (arith, size))
sum_pieces allowed pieces first (suc n) [] size each = absurd (omega (arith, size))
sum_pieces allowed pieces first (suc n) (m ∷ row) size each =
    let here : m ≡ length (filter allowed (pieces first)) = each 0 m refl ∙ ap (λ k. length (filter allowed (pieces k))) (let start : first + 0 ≡ first = omega arith in start) in
    let rest : sum row ≡ length (filter allowed (flat_map pieces (range_with_len (first + 1) n))) =
    sum_pieces allowed pieces (first + 1) n row (let less : length row ≡ n = omega (arith, size) in less)
    (λ k l there. each (suc k) l there ∙ ap (λ i. length (filter allowed (pieces i))) (let next : first + suc k ≡ first + 1 + k = omega arith in next)) in
    let parts : length (filter allowed (pieces first ++ flat_map pieces (range_with_len (first + 1) n))) ≡ length (filter allowed (pieces first)) + length (filter allowed (flat_map pieces (range_with_len (first + 1) n))) =
    ap (λ (es : List Event). length es) (filter-append allowed (pieces first) (flat_map pieces (range_with_len (first + 1) n))) ∙ length-append (filter allowed (pieces first)) (filter allowed (flat_map pieces (range_with_len (first + 1) n))) in
    sum_by-cons (λ i. i) m row ∙ ap (λ i. i + sum row) here ∙ ap (λ i. length (filter allowed (pieces first)) + i) rest ∙ sym parts

same_some : (m n : ℕ) → ◌≡◌ {A = Option ℕ} (Some m) (Some n) → m ≡ n
same_some m n is = cc

none_in : (n k : ℕ) → at_number {A = ℕ} [] k ≡ Some n → ⊥
none_in n zero at = false≢true (ap is_some at)
none_in n (suc k) at = false≢true (ap is_some at)

module _ (program : Program) (s : SystemState) (counts : Counted) (are : AreCounts program s counts) where
  pub moves_past : (p j past : ℕ) (count : Option ℕ) → count ≡ at_number counts.moves p → IsPast j count past → Finds (filter (is_allowed program s) (moves_of s p)) j (Err past)
  moves_past p j past count is over = past_all j past (allowed_in program s (moves_of s p)) count known over
    where
      known : (n : ℕ) → count ≡ Some n → n ≡ allowed_in program s (moves_of s p)
      known n some =
          let there : at_number counts.moves p ≡ Some n = sym is ∙ some in
          let within = numbered_within counts.moves p n there in
          same_some n _ (sym there ∙ are.moves p (within.0, subst (λ k. p ≤ k) are.sizes.moves within.1))

  -- the counts of a sender, recipient after recipient
  row_past : (p : ℕ) (row : List ℕ) → at_number counts.deliveries p ≡ Some row → sum row ≡ allowed_in program s (deliveries_from s p)
  row_past p row there =
      let within = numbered_within counts.deliveries p row there in
      let from : IsAmong (length s.worlds) p = (within.0, subst (λ k. p ≤ k) are.sizes.senders within.1) in
      let wide : length row ≡ length s.worlds = subst (λ (o : Option (List ℕ)). IfSome o (IsWide (length s.worlds))) there (all_numbered (IsWide (length s.worlds)) counts.deliveries p are.sizes.recipients) in
      sum_pieces (is_allowed program s) (deliveries_to p) 1 (length s.worlds) row wide (λ k m at. known from wide k m at)
    where
      known : IsAmong (length s.worlds) p → length row ≡ length s.worlds → (k m : ℕ) → slice_get row k ≡ Some m → m ≡ allowed_in program s (deliveries_to p (1 + k))
      known from wide k m at =
          let inside : at_number row (suc k) ≡ Some m = at in
          let within = numbered_within row (suc k) m inside in
          let to : IsAmong (length s.worlds) (suc k) = (within.0, subst (λ n. suc k ≤ n) wide within.1) in
          let counted : at_number row (suc k) ≡ Some (allowed_in program s (deliveries_to p (suc k))) =
          ap (λ (o : Option (List ℕ)). at_number (or_empty o) (suc k)) (sym there) ∙ are.deliveries p (suc k) from to in
          same_some m _ (sym inside ∙ counted) ∙ ap (λ n. allowed_in program s (deliveries_to p n)) (let next : suc k ≡ 1 + k = omega arith in next)

  pub sender_past : (p j past : ℕ) (count : Option ℕ) → count ≡ option_map sum (at_number counts.deliveries p) → IsPast j count past → Finds (filter (is_allowed program s) (deliveries_from s p)) j (Err past)
  sender_past p j past count is over = past_all j past (allowed_in program s (deliveries_from s p)) count (known (at_number counts.deliveries p) refl) over
    where
      known : (row : Option (List ℕ)) → at_number counts.deliveries p ≡ row → (n : ℕ) → count ≡ Some n → n ≡ allowed_in program s (deliveries_from s p)
      known None there n some = absurd (false≢true (ap is_some (sym (ap (option_map sum) there) ∙ sym is ∙ some)))
      known (Some row) there n some = same_some n (sum row) (sym some ∙ is ∙ ap (option_map sum) there) ∙ row_past p row there

  pub channel_past : (p q j past : ℕ) (count : Option ℕ) → count ≡ at_both counts.deliveries p q → IsPast j count past → Finds (filter (is_allowed program s) (deliveries_to p q)) j (Err past)
  channel_past p q j past count is over = past_all j past (allowed_in program s (deliveries_to p q)) count (known (at_number counts.deliveries p) refl) over
    where
      known : (row : Option (List ℕ)) → at_number counts.deliveries p ≡ row → (n : ℕ) → count ≡ Some n → n ≡ allowed_in program s (deliveries_to p q)
      known None there n some = absurd (none_in n q (ap (λ (o : Option (List ℕ)). at_number (or_empty o) q) (sym there) ∙ sym is ∙ some))
      known (Some row) there n some =
          let at : at_number row q ≡ Some n = ap (λ (o : Option (List ℕ)). at_number (or_empty o) q) (sym there) ∙ sym is ∙ some in
          let rows = numbered_within counts.deliveries p row there in
          let wide : length row ≡ length s.worlds = subst (λ (o : Option (List ℕ)). IfSome o (IsWide (length s.worlds))) there (all_numbered (IsWide (length s.worlds)) counts.deliveries p are.sizes.recipients) in
          let within = numbered_within row q n at in
          same_some n _ (sym some ∙ is ∙ are.deliveries p q (rows.0, subst (λ k. p ≤ k) are.sizes.senders rows.1) (within.0, subst (λ k. q ≤ k) wide within.1))
