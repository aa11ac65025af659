-- The replies of the commands.
use Rattle.std.proofs.Common.{◌≡◌, refl, sym, ◌∙◌, ap, subst, ℕ, ◌+◌, ◌^◌, ◌≤◌, inl, inr, ◌⊎◌, List, take, length, codes, decimal, arith}
use Rattle.std.specs.Prelude.{Option, Some, None}
use Rattle.da_lang.specs.declared.event.Event.{Event}
use Rattle.da_lang.specs.declared.program.Program.{Program}
use Rattle.da_outside.specs.Outside.{Appends, AppendsPrefix, HasCause, IsWhole, Rose}
use Rattle.da_outside.proofs.OutsideLemmas.{cause_as}
use Rattle.da_system.specs.declared.system.System.{System}
use Rattle.da_system.specs.SourceRun.{src_run}
use Rattle.da_system.specs.State.{Stands, Whichever}
use Rattle.da_system.specs.StressRun.{stress_text, stress_text_from}
use Rattle.da_system.specs.SystemStep.{start}
use Rattle.replay_run.specs.declared.outcome.Outcome.{Outcome}
use Rattle.replay_run.specs.declared.outcome.Outcome.TheVariants as outcome
use Rattle.replay_run.specs.Replay.{HasEnded, HasRun, outcome_of}
use Rattle.replay_run.specs.Replay.{run_text as text_on}
use Rattle.replay_run.specs.Stress.{HasPicked}
use Rattle.da_front.specs.declared.refusal.ProgramFault.{ProgramFault}
use Rattle.da_front.specs.declared.refusal.ProgramFault.TheVariants as fault
use Rattle.da_front.specs.declared.refusal.RefusedKind.{RefusedKind}
use Rattle.da_commands.specs.declared.status.Status.{Status}
use Rattle.da_commands.specs.declared.status.Status.TheVariants.{Done, Forbidden, Memory, ReadFault, WriteFault}
use Rattle.da_commands.specs.declared.words.Task.{Task}
use Rattle.da_commands.specs.declared.words.Task.TheVariants.{Check, Plan, Stress}
use Rattle.da_values.proofs.Numerals.{decimal_injective_wide}
use Rattle.da_commands.specs.Replies.{TaskReply, executed, declined, IsAnswer, IsAsking, IsExecuted, IsEnd, IsReplay, MayRead, ReadCause, ReplayReply, refused, answered, RunReply, bad_schedule, ran, RunsWhole, ended_by, run_status, run_text, task_text, words_of}
use Rattle.da_commands.specs.Endings.{status_of_run}
use Rattle.da_commands.specs.Told.{Gains, HasReplied, HasSaid, OfTold, said, unsaid}
use Rattle.da_front.specs.Verdict.{Accepts, IsRefused, IsRefusedAs, Refuses, misnamed, mistyped, no_program, not_cut, overplanned, program_limit, too_deep, too_large, too_long}
use Rattle.da_commands.proofs.ToldLemmas.{of_known, quiet_replied, take_beyond, take_within}
use Rattle.da_front.proofs.VerdictLemmas.{accepted_or_not, accepts_one, not_refused}
use Rattle.sched_text.specs.ScheduleText.{IsBadSchedule, SpellsSchedule, schedule_limit}
use Rattle.sched_text.proofs.ScheduleLaws.{not_bad, one_schedule}

-- WHAT WAS READ

-- a text that gives a program, or is refused, where it was read up to one byte past the limit
pub read_within : (text t : List ℕ) (program : Program) → text ≡ take (program_limit + 1) t → Accepts text program → Accepts t program
read_within text t program is accepts = subst (λ x. Accepts x program) (take_within program_limit text t is accepts.has.size) accepts

module _ (text t : List ℕ) (is : text ≡ take (program_limit + 1) t) where
  within : (kind : RefusedKind) (line : ℕ) → length text ≤ program_limit → Refuses text kind line → Refuses t kind line
  within kind line few = subst (λ x. Refuses x kind line) (take_within program_limit text t is few)

  refuses_whole : (kind : RefusedKind) (line : ℕ) → Refuses text kind line → Refuses t kind line
  refuses_whole _ _ (too_long long) = too_long (take_beyond program_limit text t is long)
  refuses_whole _ _ (not_cut which at why) = within _ _ why.0 (not_cut which at why)
  refuses_whole _ _ (no_program at why) = within _ _ why.size (no_program at why)
  refuses_whole _ _ (too_deep at why) = within _ _ why.size (too_deep at why)
  refuses_whole _ _ (misnamed which at why) = within _ _ why.has.size (misnamed which at why)
  refuses_whole _ _ (too_large which at why) = within _ _ why.has.size (too_large which at why)
  refuses_whole _ _ (mistyped at why) = within _ _ why.has.size (mistyped at why)
  refuses_whole _ _ (overplanned at why) = within _ _ why.has.size (overplanned at why)

pub refuses_within : (text t : List ℕ) (e : ProgramFault) (kind : RefusedKind) (line : ℕ) → text ≡ take (program_limit + 1) t → e ≡ fault.Refused kind line → IsRefusedAs text e → Refuses t kind line
refuses_within text t e kind line is e_is why =
    let here : IsRefusedAs text (fault.Refused kind line) = subst (IsRefusedAs text) e_is why in
    refuses_whole text t is kind line here

-- a schedule that was read whole, and one that is refused
pub schedule_within : (text whole : List ℕ) (events : List Event) → text ≡ take (schedule_limit + 1) whole → SpellsSchedule text events → SpellsSchedule whole events
schedule_within text whole events is spelled = subst (λ x. SpellsSchedule x events) (take_within schedule_limit text whole is spelled.size) spelled

pub bad_within : (text whole : List ℕ) (line : ℕ) → text ≡ take (schedule_limit + 1) whole → IsBadSchedule text line → IsBadSchedule whole line
bad_within text whole line is (inl long) = inl (take_beyond schedule_limit text whole is long.0, long.1)
bad_within text whole line is (inr wrong) = subst (λ x. IsBadSchedule x line) (take_within schedule_limit text whole is wrong.0) (inr wrong)

-- where the schedule was read, the program's text was not refused
pub may_read : (told : Option (List ℕ)) (text : List ℕ) → IsWhole told program_limit text → ((t : List ℕ) → text ≡ take (program_limit + 1) t → IsRefused t → ⊥) → MayRead told
may_read None text whole never = tt
may_read (Some t) text whole never = never t whole

pub rose_later : (before mid now : ℕ) → before ≤ mid → Rose mid now → Rose before now
rose_later before mid now later rose = grind (arith, later, rose)

-- THE REPLIES OF `replay`

-- the reply to an accepted program and a schedule is its run
run_reply : (s : List ℕ) (program : Program) (events : List Event) (status : Status) (bytes : List ℕ) → SpellsSchedule s events → RunReply program s status bytes
    → (status ≡ run_status program events) × (bytes ≡ run_text program events)
run_reply s program events _ _ good (bad_schedule line is) = absurd (not_bad s events line good is)
run_reply s program events _ _ good (ran others is) =
    let same = one_schedule s others events is good in
    (ap (run_status program) same, ap (run_text program) same)

whole_reply : (t s : List ℕ) (program : Program) (events : List Event) (status : Status) (bytes : List ℕ) → Accepts t program → SpellsSchedule s events → ReplayReply t s status bytes
    → (status ≡ run_status program events) × (bytes ≡ run_text program events)
whole_reply t s program events _ _ runs good (refused kind line refuses) = absurd (not_refused t program runs (record { kind = kind; line = line; refuses = refuses }))
whole_reply t s program events _ _ runs good (answered other also status bytes reply) =
    run_reply s program events status bytes good (subst (λ p. RunReply p s status bytes) (accepts_one t program other runs also) reply)

-- where neither a read nor a write failed, the run was carried out whole, or memory was refused
pub runs_whole : (told_program told_schedule : Option (List ℕ)) (t s : List ℕ) (program : Program) (events : List Event) (status : Status) (before after : Option (List ℕ))
    → told_program ≡ Some t → told_schedule ≡ Some s → Accepts t program → SpellsSchedule s events → IsEnd status → (status ≡ ReadFault → ⊥) → (status ≡ WriteFault → ⊥)
    → OfTold told_program (λ t. OfTold told_schedule (λ s. HasReplied (ReplayReply t s) status before after)) → RunsWhole program events status before after
runs_whole p q t s program events status before after told_p told_q runs good ends read write replies =
    either (quiet_replied (ReplayReply t s) before after status ends read write replied)
  where
    replied : HasReplied (ReplayReply t s) status before after
    replied =
        of_known q (λ s. HasReplied (ReplayReply t s) status before after) s told_q
        (of_known p (λ t. OfTold q (λ s. HasReplied (ReplayReply t s) status before after)) t told_p replies)

    either : (status ≡ Memory) ⊎ Gains (ReplayReply t s) status before after → RunsWhole program events status before after
    either (inl memory) = inl memory
    either (inr gains) =
        let (status_is, bytes_are) = whole_reply t s program events status gains.bytes runs good gains.reply in
        inr (status_is, subst (Appends before after) bytes_are gains.written)

-- A RUN OF A SYSTEM IN ITS OPENING

-- its status
stopped_so : (how : Outcome) (stop : Option ℕ) → how ≡ outcome_of stop → status_of_run how ≡ ended_by stop
stopped_so how None is = ap status_of_run is
stopped_so how (Some i) is = ap status_of_run is

ended_answers : (stop : Option ℕ) → IsAnswer (ended_by stop)
ended_answers None = tt
ended_answers (Some i) = tt

pub run_answers : (program : Program) (events : List Event) → IsAnswer (run_status program events)
run_answers program events = ended_answers (src_run program events).stop

pub run_ends : (how : Outcome) → IsEnd (status_of_run how)
run_ends outcome.Done = tt
run_ends (outcome.Forbidden i) = tt
run_ends outcome.WriteFault = tt
run_ends outcome.Memory = tt

pub run_unread : (how : Outcome) → status_of_run how ≡ ReadFault → ⊥
run_unread outcome.Done is = let clash : Done ≡ ReadFault = is in cc
run_unread (outcome.Forbidden i) is = let clash : Forbidden i ≡ ReadFault = is in cc
run_unread outcome.WriteFault is = let clash : WriteFault ≡ ReadFault = is in cc
run_unread outcome.Memory is = let clash : Memory ≡ ReadFault = is in cc

unwritten_run : (how : Outcome) → status_of_run how ≡ WriteFault → how ≡ outcome.WriteFault
unwritten_run outcome.Done is = absurd (let clash : Done ≡ WriteFault = is in cc)
unwritten_run (outcome.Forbidden i) is = absurd (let clash : Forbidden i ≡ WriteFault = is in cc)
unwritten_run outcome.WriteFault is = refl
unwritten_run outcome.Memory is = absurd (let clash : Memory ≡ WriteFault = is in cc)

pub run_cause : (how : Outcome) (before now : ℕ) → HasCause before now (how ≡ outcome.WriteFault) → HasCause before now (status_of_run how ≡ WriteFault)
run_cause how before now cause = cause_as before now (λ is. ap status_of_run is) (unwritten_run how) cause

-- what a run says: its status and bytes, or a prefix of these
module _ (status : Status) (bytes : List ℕ) (before after : Option (List ℕ)) (front : AppendsPrefix before after bytes) where
  run_said : (how : Outcome) → (HasEnded how → (status_of_run how ≡ status) × Appends before after bytes) → HasSaid status bytes (status_of_run how) before after
  run_said outcome.Done ended = said (ended tt).0 (ended tt).1
  run_said (outcome.Forbidden i) ended = said (ended tt).0 (ended tt).1
  run_said outcome.WriteFault ended = unsaid tt front
  run_said outcome.Memory ended = unsaid tt front

module _ (program p : Program) (opened : System) (same : p ≡ program) (stands : Stands opened (start program)) where
  -- the replay of a system in its opening is the run of the program
  pub replayed : (events : List Event) (how : Outcome) (left : System) (before after : Option (List ℕ)) → (HasEnded how → Whichever opened (λ s. HasRun p s events how left before after))
      → Whichever opened (λ s. AppendsPrefix before after (text_on p s events)) → HasSaid (run_status program events) (run_text program events) (status_of_run how) before after
  replayed events how left before after runs front =
      run_said (run_status program events) (run_text program events) before after (subst (λ q. AppendsPrefix before after (text_on q (start program) events)) same (front (start program) stands)) how
      (λ ended.
      let has : HasRun program (start program) events how left before after = subst (λ q. HasRun q (start program) events how left before after) same (runs ended (start program) stands) in
      (stopped_so how (src_run program events).stop has.outcome_is, has.written))

  -- and what is told of a generated schedule is told of the program
  pub stressed : (first most : ℕ) (how : Outcome) (left : System) (before after : Option (List ℕ)) → (HasEnded how → Whichever opened (λ s. HasPicked p s first most left before after)) → (HasEnded how → how ≡ outcome.Done)
      → Whichever opened (λ s. AppendsPrefix before after (stress_text_from p s first most)) → HasSaid Done (stress_text program first most) (status_of_run how) before after
  stressed first most how left before after runs done front =
      run_said Done (stress_text program first most) before after (subst (λ q. AppendsPrefix before after (stress_text_from q (start program) first most)) same (front (start program) stands)) how
      (λ ended.
      let has : HasPicked program (start program) first most left before after = subst (λ q. HasPicked q (start program) first most left before after) same (runs ended (start program) stands) in
      (ap status_of_run (done ended), has.written))

-- THE REPLIES TO TASKS

carried_reply : (task : Task) (t : List ℕ) (program : Program) (status : Status) (bytes : List ℕ) → Accepts t program → TaskReply task t status bytes → (status ≡ Done) × (bytes ≡ task_text task program)
carried_reply task t program _ _ accepts (declined kind line refuses) = absurd (accepted_or_not t program kind line accepts refuses)
carried_reply task t program _ _ accepts (executed other also) = (refl, ap (task_text task) (accepts_one t program other accepts also))

pub is_executed : (task : Task) (told : Option (List ℕ)) (t : List ℕ) (program : Program) (status : Status) (before after : Option (List ℕ)) → told ≡ Some t → Accepts t program → IsEnd status
    → (status ≡ ReadFault → ⊥) → (status ≡ WriteFault → ⊥) → OfTold told (λ t. HasReplied (TaskReply task t) status before after) → IsExecuted task program status before after
is_executed task told t program status before after told_t accepts ends read write replies =
    either (quiet_replied (TaskReply task t) before after status ends read write (of_known told (λ t. HasReplied (TaskReply task t) status before after) t told_t replies))
  where
    either : (status ≡ Memory) ⊎ Gains (TaskReply task t) status before after → IsExecuted task program status before after
    either (inl memory) = inl memory
    either (inr gains) =
        let (status_is, bytes_are) = carried_reply task t program status gains.bytes accepts gains.reply in
        inr (status_is, subst (Appends before after) bytes_are gains.written)

-- THE NAMES ARE THOSE OF THE WORDS

pub at_names : (P : List ℕ → List ℕ → Type 0) (p q a b : List ℕ) → (p ≡ a) × (q ≡ b) → P a b → P p q
at_names P p q a b same holds = subst (P p) (sym same.1) (subst (λ x. P x b) (sym same.0) holds)

pub not_read : (told : Option (List ℕ)) (before now : List ℕ → ℕ) (p q : List ℕ) → ReadCause told before now p q → (Rose (before p) (now p) → ⊥) → (Rose (before q) (now q) → ⊥) → ⊥
not_read told before now p q (inl rose) program schedule = program rose
not_read told before now p q (inr rose) program schedule = schedule rose.0

-- the names are those of the words
pub same_names : (words : List (List ℕ)) (a b p q : List ℕ) → IsReplay words a b → IsReplay words p q → (p ≡ a) × (q ≡ b)
same_names words a b p q one other = (cc, cc)

-- two words that are numbers in decimal
same_numbers : (m n : ℕ) → m ≤ 2 ^ 127 → n ≤ 2 ^ 127 → decimal m ≡ decimal n → m ≡ n
same_numbers = decimal_injective_wide

check_or_plan : (p q : List ℕ) → words_of Check p ≡ words_of Plan q → ⊥
check_or_plan p q same =
    let first : codes "check" ≡ codes "plan" = cc in
    let sizes : 5 ≡ 4 = ap length first in
    omega (arith, sizes)

pub same_task : (words : List (List ℕ)) (a b : Task) (p q : List ℕ) → IsAsking words a p → IsAsking words b q → (b ≡ a) × (q ≡ p)
same_task words Check Check p q one other = (refl, (let both = sym one.0 ∙ other.0 in cc))
same_task words Plan Plan p q one other = (refl, (let both = sym one.0 ∙ other.0 in cc))
same_task words (Stress x n) (Stress y m) p q one other =
    let both : words_of (Stress x n) p ≡ words_of (Stress y m) q = sym one.0 ∙ other.0 in
    let starts : decimal y ≡ decimal x = cc in
    let ends : decimal m ≡ decimal n = cc in
    let start : y ≡ x = same_numbers y x (omega (arith, other.1.0)) (omega (arith, one.1.0)) starts in
    let most : m ≡ n = same_numbers m n (omega (arith, other.1.2)) (omega (arith, one.1.2)) ends in
    (ap (λ k. Stress k m) start ∙ ap (Stress x) most, cc)
same_task words Check Plan p q one other = absurd (check_or_plan p q (sym one.0 ∙ other.0))
same_task words Plan Check p q one other = absurd (check_or_plan q p (sym other.0 ∙ one.0))
same_task words Check (Stress y m) p q one other = absurd (let sizes : 2 ≡ 4 = ap length (sym one.0 ∙ other.0) in omega (arith, sizes))
same_task words Plan (Stress y m) p q one other = absurd (let sizes : 2 ≡ 4 = ap length (sym one.0 ∙ other.0) in omega (arith, sizes))
same_task words (Stress x n) Check p q one other = absurd (let sizes : 4 ≡ 2 = ap length (sym one.0 ∙ other.0) in omega (arith, sizes))
same_task words (Stress x n) Plan p q one other = absurd (let sizes : 4 ≡ 2 = ap length (sym one.0 ∙ other.0) in omega (arith, sizes))

pub not_both : (words : List (List ℕ)) (task : Task) (a p q : List ℕ) → IsAsking words task a → IsReplay words p q → ⊥
not_both words Check a p q one other = let sizes : 2 ≡ 3 = ap length (sym one.0 ∙ other) in omega (arith, sizes)
not_both words Plan a p q one other = let sizes : 2 ≡ 3 = ap length (sym one.0 ∙ other) in omega (arith, sizes)
not_both words (Stress x n) a p q one other = let sizes : 4 ≡ 3 = ap length (sym one.0 ∙ other) in omega (arith, sizes)
