-- The replies of the commands, from what their parts leave.
use Rattle.std.proofs.Common.{◌≡◌, refl, sym, ◌∙◌, ap, subst, ℕ, ◌+◌, ◌≤◌, inl, inr, ◌⊎◌, List, [], take, length, append-nil, arith}
use Rattle.std.proofs.lemmas.List.{take_all}
use Rattle.std.specs.Prelude.{Option, Some, None}
use Rattle.std.specs.Borrow.{Bor}
use Rattle.da_commands.specs.Told.{OfTold}
use Rattle.da_commands.proofs.ReplyLemmas.{refuses_within, rose_later}
use Rattle.da_commands.proofs.ToldLemmas.{of_any, of_map, take_within}
use Rattle.da_core.specs.Compiled.{program_of}
use Rattle.da_core.specs.declared.compiled.Compiled.{Compiled}
use Rattle.da_front.specs.declared.refusal.ProgramFault.{ProgramFault}
use Rattle.da_front.specs.declared.refusal.ProgramFault.TheVariants as fault
use Rattle.da_front.specs.declared.refusal.RefusedKind.{RefusedKind}
use Rattle.da_front.specs.declared.refusal.RefusedKind.TheVariants as kind_is
use Rattle.da_front.specs.Verdict.{Accepts, HasTree, program_limit}
use Rattle.da_lang.specs.declared.event.Event.{Event}
use Rattle.da_lang.specs.declared.program.Program.{Program}
use Rattle.da_lang.specs.declared.tree.Tree.{Tree}
use Rattle.da_outside.specs.Outside.{Appends, AppendsPrefix, Rose}
use Rattle.da_system.specs.declared.system.System.{System}
use Rattle.da_system.specs.State.{Stands, Whichever}
use Rattle.da_system.specs.SystemStep.{start}
use Rattle.replay_run.specs.declared.outcome.Outcome.{Outcome}
use Rattle.replay_run.specs.declared.outcome.Outcome.TheVariants as run
use Rattle.replay_run.specs.Replay.{HasEnded, outcome_of, run_on}
use Rattle.run_page.specs.Outcome.{Asked, HasBegun as HasBegunPage, HasShown, IsPage}
use Rattle.da_front.specs.WatchText.{AcceptsBeside, IsNoWatchAs, RefusesBeside, beside, by_itself, other_main}
use Rattle.da_system.specs.SourceRun.{src_run}
use Rattle.run_watch.specs.Beside.{IsWatchOf}
use Rattle.run_watch.specs.Telling as telling
use Rattle.sched_text.specs.ActionText.{action_text}
use Rattle.sched_text.specs.ScheduleText.{SpellsSchedule, schedule_limit}
use Rattle.scout_commands.specs.declared.options.Options.{Options}
use Rattle.scout_commands.specs.declared.watching.NoWatch.TheVariants as NoWatch
use Rattle.scout_commands.specs.declared.words.Aim.{Aim}
use Rattle.scout_commands.specs.declared.words.Aim.TheVariants as aim_is
use Rattle.schedule_hunt.specs.declared.hunting.HuntOutcome.{HuntOutcome}
use Rattle.schedule_hunt.specs.declared.hunting.HuntOutcome.TheVariants as hunt
use Rattle.schedule_hunt.specs.declared.what.Goal.{Goal}
use Rattle.schedule_hunt.specs.declared.what.Goal.TheVariants as goal_is
use Rattle.schedule_hunt.specs.declared.what.Trials.{Trials}
use Rattle.schedule_hunt.specs.declared.what.What.{What}
use Rattle.schedule_hunt.specs.Hunt.{HasBegun, IsFound, IsFoundUnspelled, IsReply, ShowsNone, none_line}
use Rattle.schedule_walk.specs.declared.outcome.NextOutcome.{NextOutcome}
use Rattle.schedule_walk.specs.declared.outcome.NextOutcome.TheVariants as next
use Rattle.schedule_walk.specs.Next as after
use Rattle.schedule_walk.specs.Walk.{HasWalked, walk_text}
use Rattle.scout_commands.specs.declared.status.Status.{Status}
use Rattle.scout_commands.specs.declared.status.Status.TheVariants.{Done, Found, Memory, WriteFault}
use Rattle.scout_commands.specs.declared.words.Question.TheVariants.{Next, Show}
use Rattle.scout_commands.specs.declared.words.Search.{Search}
use Rattle.scout_commands.specs.declared.words.Search.TheVariants.{Walk, Hunt}
use Rattle.scout_commands.specs.Endings.{status_of_hunt, status_of_next, status_of_run}
use Rattle.scout_commands.specs.Replies.{DrawReply, HuntReply, IsGoal, OfWatchTold, RunReply, SearchReply, WatchReply, watch_of, watch_of_aim, answered, drawn, hunted, shown, walked}
use Rattle.scout_commands.specs.Told.{Answers, HasReplied, HasSaid, IsAnswer, IsCut, begun, nothing, unread, whole}
use Rattle.trace_page.specs.declared.outcome.DrawOutcome.{DrawOutcome}
use Rattle.trace_page.specs.declared.outcome.DrawOutcome.TheVariants as draw
use Rattle.trace_page.specs.Outcome.{HasBegun as Begun, HasDrawn, HasWritten, SaysOf}
use Rattle.trace_page.specs.PageText.{page_of}
use Rattle.trace_page.specs.TraceText.{IsBadTrace, SpellsTrace}

-- WHAT WAS SAID is the reply
pub said_as : (Reply : Status → List ℕ → Type 0) (Due : List ℕ → Type 0) (status : Status) (bytes : List ℕ) (result : Status) (before after : Option (List ℕ))
    → Reply status bytes → Due bytes → HasSaid status bytes result before after → HasReplied Reply Due result before after
said_as Reply Due status bytes result before after reply due (whole answer written is gained) =
    whole answer bytes (subst (λ s. Reply s bytes) (sym is.status_is) reply) (subst (Appends before after) is.bytes_are gained)
said_as Reply Due status bytes result before after reply due (begun cut written (said, is) front) = begun cut bytes due (subst (AppendsPrefix before after) is.bytes_are front)
said_as Reply Due status bytes result before after reply due (nothing cut same) = nothing cut same
said_as Reply Due status bytes result before after reply due (unread is same) = unread is same

pub said_answers : (Reply : Status → List ℕ → Type 0) (status : Status) (bytes : List ℕ) (result : Status) (before after : Option (List ℕ)) → Reply status bytes → HasSaid status bytes result before after → Answers Reply result before after
said_answers Reply status bytes result before after reply said = said_as Reply _ status bytes result before after reply (status, reply) said

pub memory_replied : (Reply : Status → List ℕ → Type 0) (Due : List ℕ → Type 0) (x : Option (List ℕ)) → HasReplied Reply Due Memory x x
memory_replied Reply Due x = nothing tt refl

-- TEXTS OF WATCHES

-- files that tell the same
pub watch_told_as : (old new : List ℕ → Option (List ℕ)) → ((x : List ℕ) → new x ≡ old x) → (watch : Option (List ℕ)) (holds : List ℕ → Type 0) → OfWatchTold new watch holds → OfWatchTold old watch holds
watch_told_as old new same None holds is = is
watch_told_as old new same (Some w) holds is = subst (λ o. OfTold o holds) (same w) is

pub of_any_watch : (told : List ℕ → Option (List ℕ)) (watch : Option (List ℕ)) (holds : List ℕ → Type 0) → ((w : List ℕ) → holds w) → OfWatchTold told watch holds
of_any_watch told None holds each = each []
of_any_watch told (Some w) holds each = of_any (told w) holds each

pub of_watch_map : (told : List ℕ → Option (List ℕ)) (watch : Option (List ℕ)) (P Q : List ℕ → Type 0) → ((w : List ℕ) → P w → Q w) → OfWatchTold told watch P → OfWatchTold told watch Q
of_watch_map told None P Q each is = each [] is
of_watch_map told (Some w) P Q each is = of_map (told w) P Q each is

-- what holds of every text of a program and of a watch, or of a watch and of a schedule
pub of_any_search : (told : List ℕ → Option (List ℕ)) (p : List ℕ) (watch : Option (List ℕ)) (P : List ℕ → List ℕ → Type 0) → ((t w : List ℕ) → P t w) → OfTold (told p) (λ t. OfWatchTold told watch (λ w. P t w))
of_any_search told p watch P each = of_any (told p) (λ t. OfWatchTold told watch (λ w. P t w)) (λ t. of_any_watch told watch (λ w. P t w) (λ w. each t w))

pub of_any_two : (one other : Option (List ℕ)) (P : List ℕ → List ℕ → Type 0) → ((v s : List ℕ) → P v s) → OfTold one (λ v. OfTold other (λ s. P v s))
of_any_two one other P each = of_any one (λ v. OfTold other (λ s. P v s)) (λ v. of_any other (λ s. P v s) (λ s. each v s))

-- a text that is a watch, or is none, where it was read up to one byte past the limit
pub beside_within : (text t slice : List ℕ) (count n : ℕ) (program : Program) → text ≡ take (program_limit + 1) t → slice ≡ text → count ≡ n → AcceptsBeside slice count program → AcceptsBeside t n program
beside_within text t slice count n program is same counted accepts =
    subst (λ x. AcceptsBeside x n program) (take_within program_limit slice t (same ∙ is) accepts.beside.has.size) (subst (λ k. AcceptsBeside slice k program) counted accepts)

module _ (text t : List ℕ) (is : text ≡ take (program_limit + 1) t) (count : ℕ) where
  refused_whole : (kind : RefusedKind) (line : ℕ) → RefusesBeside text count kind line → RefusesBeside t count kind line
  refused_whole _ _ (by_itself kind line refuses) = by_itself kind line (refuses_within text t (fault.Refused kind line) kind line is refl refuses)
  refused_whole _ _ (other_main line why) = subst (λ x. RefusesBeside x count kind_is.Watch line) (take_within program_limit text t is why.has.size) (other_main line why)
  refused_whole _ _ (beside other kind line why refuses) = subst (λ x. RefusesBeside x count kind line) (take_within program_limit text t is why.has.size) (beside other kind line why refuses)

pub no_watch_within : (text t slice : List ℕ) (e : ProgramFault) (kind : RefusedKind) (line count n : ℕ) → text ≡ take (program_limit + 1) t → slice ≡ text → count ≡ n → e ≡ fault.Refused kind line → IsNoWatchAs slice count e
    → RefusesBeside t n kind line
no_watch_within text t slice e kind line count n is same counted e_is why =
    let here : IsNoWatchAs slice count (fault.Refused kind line) = subst (IsNoWatchAs slice count) e_is why in
    subst (λ k. RefusesBeside t k kind line) counted (refused_whole slice t (same ∙ is) count kind line here)

pub same_refusal : (kind other : RefusedKind) (line number : ℕ) → NoWatch.Refused kind line ≡ NoWatch.Refused other number → (kind ≡ other) × (line ≡ number)
same_refusal kind other line number is = (cc, cc)

-- files that tell the same of a watch and of a schedule
pub told_twice : (one other also too : Option (List ℕ)) (P : List ℕ → List ℕ → Type 0) → one ≡ also → other ≡ too → OfTold one (λ v. OfTold other (λ s. P v s)) → OfTold also (λ v. OfTold too (λ s. P v s))
told_twice one other also too P same again is = subst (λ o. OfTold o (λ v. OfTold too (λ s. P v s))) same (subst (λ o. OfTold one (λ v. OfTold o (λ s. P v s))) again is)

-- one of two counts rose later
pub rose_either : (a b c x y z : ℕ) (M : Type 0) → a ≤ b → x ≤ y → M → Rose b c ⊎ Rose y z → (Rose a c × M) ⊎ (Rose x z × M)
rose_either a b c x y z M first second may (inl rose) = inl (rose_later a b c first rose, may)
rose_either a b c x y z M first second may (inr rose) = inr (rose_later x y z second rose, may)

-- AN ANSWER

ended_answer : (how : NextOutcome) → after.HasEnded how → IsAnswer (status_of_next how)
ended_answer next.Done ended = tt
ended_answer (next.Forbidden i) ended = tt
ended_answer next.Unspelled ended = tt
ended_answer next.WriteFault ended = ended
ended_answer next.Memory ended = ended

cut_short : (how : NextOutcome) → (after.HasEnded how → ⊥) → IsCut (status_of_next how)
cut_short next.Done never = never tt
cut_short (next.Forbidden i) never = never tt
cut_short next.Unspelled never = never tt
cut_short next.WriteFault never = tt
cut_short next.Memory never = tt

none_more : (before after : Option (List ℕ)) → Appends before after [] → after ≡ before
none_more None after gained = gained
none_more (Some told) after gained = gained ∙ ap Some (append-nil told)

gains_none : (before after : Option (List ℕ)) → after ≡ before → Appends before after []
gains_none None after same = same
gains_none (Some told) after same = same ∙ ap Some (sym (append-nil told))

-- A WALK
module _ (t w : List ℕ) (program p : Program) (opened : System) (same : p ≡ program) (stands : Stands opened (start program)) (accepts : Accepts t program) (first most : ℕ) (left : System) (before after : Option (List ℕ)) where
  pub walk_replied : (how : Outcome) → (HasEnded how → Whichever opened (λ s. HasWalked p s first most left before after)) → (HasEnded how → how ≡ run.Done)
      → Whichever opened (λ s. AppendsPrefix before after (walk_text p s first most)) → Answers (SearchReply t w (Walk first most)) (status_of_run how) before after
  walk_replied how ran done front = of how ran done
    where
      reply : SearchReply t w (Walk first most) Done (walk_text program (start program) first most)
      reply = walked first most program accepts

      begins : AppendsPrefix before after (walk_text program (start program) first most)
      begins = subst (λ q. AppendsPrefix before after (walk_text q (start program) first most)) same (front (start program) stands)

      of : (how : Outcome) → (HasEnded how → Whichever opened (λ s. HasWalked p s first most left before after)) → (HasEnded how → how ≡ run.Done) → Answers (SearchReply t w (Walk first most)) (status_of_run how) before after
      of run.Done ran done =
          let has : HasWalked program (start program) first most left before after = subst (λ q. HasWalked q (start program) first most left before after) same (ran tt (start program) stands) in
          whole tt _ reply has.written
      of (run.Forbidden i) ran done = absurd (let clash : run.Forbidden i ≡ run.Done = done tt in cc)
      of run.WriteFault ran done = begun tt _ (Done, reply) begins
      of run.Memory ran done = begun tt _ (Done, reply) begins

-- THE EVENTS AFTER A SCHEDULE
pub next_replied : (t s : List ℕ) (program : Program) (events : List Event) (how : NextOutcome) (before now : Option (List ℕ)) → Accepts t program → SpellsSchedule s events
    → after.HasAnswered (after.NextReply program events) how before now → Answers (RunReply t s Next) (status_of_next how) before now
next_replied t s program events how before now accepts spells (after.whole ended bytes reply gained) = whole (ended_answer how ended) bytes (answered program events how bytes accepts spells reply) gained
next_replied t s program events how before now accepts spells (after.begun cut said bytes reply front) =
    begun (cut_short how cut) bytes (status_of_next said, answered program events said bytes accepts spells reply) front
next_replied t s program events how before now accepts spells (after.nothing cut gained) = nothing (cut_short how cut) (none_more before now gained)

-- A RUN BESIDE A WATCH
pub watch_replied : (t v s : List ℕ) (program watch : Program) (events : List Event) (how : Outcome) (before after : Option (List ℕ)) → Accepts t program
    → AcceptsBeside v (length program.procs) watch → SpellsSchedule s events → (HasEnded how → Appends before after (action_text (telling.told program watch events)))
    → (HasEnded how → how ≡ outcome_of (src_run program events).stop) → AppendsPrefix before after (action_text (telling.told program watch events))
    → Answers (WatchReply t v s) (status_of_run how) before after
watch_replied t v s program watch events how before after accepts takes spells gains stops front = of how gains stops
  where
    reply : WatchReply t v s (status_of_run (outcome_of (src_run program events).stop)) (action_text (telling.told program watch events))
    reply = WatchReply.ran program watch events accepts takes spells

    of : (how : Outcome) → (HasEnded how → Appends before after (action_text (telling.told program watch events))) → (HasEnded how → how ≡ outcome_of (src_run program events).stop)
        → Answers (WatchReply t v s) (status_of_run how) before after
    of run.Done gains stops = whole tt _ (subst (λ o. WatchReply t v s (status_of_run o) (action_text (telling.told program watch events))) (sym (stops tt)) reply) (gains tt)
    of (run.Forbidden i) gains stops = whole tt _ (subst (λ o. WatchReply t v s (status_of_run o) (action_text (telling.told program watch events))) (sym (stops tt)) reply) (gains tt)
    of run.WriteFault gains stops = begun tt _ (_, reply) front
    of run.Memory gains stops = begun tt _ (_, reply) front

-- THE PAGE OF A RUN
module _ (t s : List ℕ) (program : Program) (tree : Tree) (events : List Event) (accepts : Accepts t program) (has : HasTree t tree) (spells : SpellsSchedule s events) where
  abbrev asked : Asked
  asked = record { program = program; tree = tree; text = t; schedule = s; events = events }

  reply : (page : List ℕ) → IsPage asked page → RunReply t s Show (status_of_run (outcome_of (run_on program (start program) events).stop)) page
  reply page is = shown program tree events page accepts has spells is

  ended_run : (stop : Option ℕ) → IsAnswer (status_of_run (outcome_of stop))
  ended_run None = tt
  ended_run (Some i) = tt

  whole_page : (how : Outcome) (before after : Option (List ℕ)) → HasShown asked how before after → Answers (RunReply t s Show) (status_of_run how) before after
  whole_page how before after (is, page, paged, gained) =
      subst (λ o. Answers (RunReply t s Show) (status_of_run o) before after) (sym is)
      (whole (ended_run (run_on program (start program) events).stop) page (reply page paged) gained)

  cut_page : (status : Status) → IsCut status → (before after : Option (List ℕ)) → HasBegunPage asked before after → Answers (RunReply t s Show) status before after
  cut_page status cut before after (inl same) = nothing cut same
  cut_page status cut before after (inr (page, paged, front)) = begun cut page (status_of_run (outcome_of (run_on program (start program) events).stop), reply page paged) front

  pub show_replied : (how : Outcome) (before after : Option (List ℕ)) → (HasEnded how → HasShown asked how before after) → HasBegunPage asked before after → Answers (RunReply t s Show) (status_of_run how) before after
  show_replied run.Done before after ended begins = whole_page run.Done before after (ended tt)
  show_replied (run.Forbidden i) before after ended begins = whole_page (run.Forbidden i) before after (ended tt)
  show_replied run.WriteFault before after ended begins = cut_page WriteFault tt before after begins
  show_replied run.Memory before after ended begins = cut_page Memory tt before after begins

-- what was answered to the texts that were read is answered to the whole texts
pub shown_of : (t s text schedule : List ℕ) → text ≡ take (program_limit + 1) t → schedule ≡ take (schedule_limit + 1) s → (program : Program) → Accepts t program
    → (events : List Event) → SpellsSchedule schedule events → (status : Status) (before after : Option (List ℕ))
    → (Accepts text program → SpellsSchedule schedule events → Answers (RunReply text schedule Show) status before after) → Answers (RunReply t s Show) status before after
shown_of t s text schedule is also program accepts events spells status before after replies =
    let first : text ≡ t = is ∙ take_all (program_limit + 1) t (omega (arith, accepts.has.size)) in
    let second : schedule ≡ s = take_within schedule_limit schedule s also spells.size in
    subst (λ x. Answers (RunReply x s Show) status before after) first (subst (λ x. Answers (RunReply text x Show) status before after) second
    (replies (subst (λ x. Accepts x program) (sym first) accepts) spells))

-- A HUNT
module _ (program : Program) (trials : Trials) (goal : Goal) (before after : Option (List ℕ)) where
  abbrev Hunted : HuntOutcome → Type 0
  Hunted how = Answers (HuntReply program trials goal) (status_of_hunt how) before after

  due : (bytes : List ℕ) → IsReply program goal trials bytes → (status : Status) × HuntReply program trials goal status bytes
  due bytes (inl is) = (Found, HuntReply.found bytes is)
  due bytes (inr (shows, is)) = (Done, subst (HuntReply program trials goal Done) (sym is) (HuntReply.none shows))

  cut_hunt : (status : Status) → IsCut status → HasBegun program goal trials before after → Answers (HuntReply program trials goal) status before after
  cut_hunt status cut (inl same) = nothing cut same
  cut_hunt status cut (inr (bytes, reply, front)) = begun cut bytes (due bytes reply) front

  pub hunt_replied : (how : HuntOutcome) → (how ≡ hunt.Found → (bytes : List ℕ) × IsFound program goal trials bytes × Appends before after bytes)
      → (how ≡ hunt.None → ShowsNone program goal trials × Appends before after (none_line trials.count)) → (how ≡ hunt.Unspelled → IsFoundUnspelled program goal trials × (after ≡ before)) → HasBegun program goal trials before after → Hunted how
  hunt_replied hunt.Found finds lacks fails begins = let (bytes, is, gained) = finds refl in whole tt bytes (HuntReply.found bytes is) gained
  hunt_replied hunt.None finds lacks fails begins = let (shows, gained) = lacks refl in whole tt (none_line trials.count) (HuntReply.none shows) gained
  hunt_replied hunt.Unspelled finds lacks fails begins = let (is, same) = fails refl in whole tt [] (HuntReply.unspelled is) (gains_none before after same)
  hunt_replied hunt.WriteFault finds lacks fails begins = cut_hunt WriteFault tt begins
  hunt_replied hunt.Memory finds lacks fails begins = cut_hunt Memory tt begins

-- a reply to a hunt is one to the search
pub hunt_of_text : (t w : List ℕ) (program : Program) (trials : Trials) (aim : Aim) (options : Options) (goal : Goal) (result : Status) (before after : Option (List ℕ)) → Accepts t program
    → Answers (HuntReply program trials goal) result before after → IsGoal program w aim goal → Answers (SearchReply t w (Hunt trials aim options)) result before after
hunt_of_text t w program trials aim options goal result before after accepts (whole answer bytes reply gained) is = whole answer bytes (hunted trials aim options goal program result bytes accepts is reply) gained
hunt_of_text t w program trials aim options goal result before after accepts (begun cut bytes (status, reply) front) is = begun cut bytes (status, hunted trials aim options goal program status bytes accepts is reply) front
hunt_of_text t w program trials aim options goal result before after accepts (nothing cut same) is = nothing cut same
hunt_of_text t w program trials aim options goal result before after accepts (unread failed same) is = unread failed same

-- what is looked for with a watch
watched_goal : (program : Program) (w : List ℕ) (aim : Aim) (watch : Bor Compiled) (name : List ℕ) → watch_of_aim aim ≡ Some name → AcceptsBeside w (length program.procs) (program_of watch.now) → IsWatchOf program watch.now
    → IsGoal program w aim (goal_is.Watched watch)
watched_goal program w (aim_is.Shown what) watch name is takes fits = let clash : ◌≡◌ {A = Option (List ℕ)} None (Some name) = is in absurd (cc)
watched_goal program w (aim_is.Watched other) watch name is takes fits = (takes, fits)

pub watched_of_text : (t w : List ℕ) (program : Program) (trials : Trials) (aim : Aim) (options : Options) (watch : Bor Compiled) (name : List ℕ) (result : Status) (before after : Option (List ℕ)) → Accepts t program
    → Answers (HuntReply program trials (goal_is.Watched watch)) result before after → watch_of_aim aim ≡ Some name → AcceptsBeside w (length program.procs) (program_of watch.now) → IsWatchOf program watch.now
    → Answers (SearchReply t w (Hunt trials aim options)) result before after
watched_of_text t w program trials aim options watch name result before after accepts replies is takes fits =
    hunt_of_text t w program trials aim options (goal_is.Watched watch) result before after accepts replies (watched_goal program w aim watch name is takes fits)

-- and one to a hunt for this is one to the search that asks for it
module _ (files_tell : List ℕ → Option (List ℕ)) (t : List ℕ) (program : Program) (trials : Trials) (accepts : Accepts t program) (result : Status) (before after : Option (List ℕ)) where
  abbrev Searched : Aim → List ℕ → Type 0
  Searched aim w = (options : Options) → Answers (SearchReply t w (Hunt trials aim options)) result before after

  -- one to a hunt for any aim with this watch
  abbrev Watches : Bor (List ℕ) → List ℕ → Type 0
  Watches name w = (text : List ℕ) (aim : Aim) (options : Options) → Accepts text program → watch_of_aim aim ≡ Some name.now → Answers (SearchReply text w (Hunt trials aim options)) result before after

  pub shown_replied : (aim : Aim) (what : What) (seen : Bor What) → aim ≡ aim_is.Shown what → Answers (HuntReply program trials (goal_is.Shown seen)) result before after → seen.now ≡ what
      → OfWatchTold files_tell (watch_of_aim aim) (λ w. Searched aim w)
  shown_replied aim what seen is replies same =
      subst (λ a. OfWatchTold files_tell (watch_of_aim a) (λ w. Searched a w)) (sym is)
      (λ options. hunt_of_text t [] program trials (aim_is.Shown what) options (goal_is.Shown seen) result before after accepts replies same)

  pub watched_replied : (aim : Aim) (name : Bor (List ℕ)) → aim ≡ aim_is.Watched name → OfTold (files_tell name.now) (λ w. Watches name w) → OfWatchTold files_tell (watch_of_aim aim) (λ w. Searched aim w)
  watched_replied aim name is replies =
      subst (λ a. OfWatchTold files_tell (watch_of_aim a) (λ w. Searched a w)) (sym is)
      (of_map (files_tell name.now) (λ w. Watches name w) (λ w. Searched (aim_is.Watched name) w) (λ w each options. each t (aim_is.Watched name) options accepts refl) replies)

  pub search_replied : (search : Search) (aim : Aim) (options : Options) → search ≡ Hunt trials aim options → OfWatchTold files_tell (watch_of_aim aim) (λ w. Searched aim w)
      → OfWatchTold files_tell (watch_of search) (λ w. Answers (SearchReply t w search) result before after)
  search_replied search aim options is replies =
      subst (λ x. OfWatchTold files_tell (watch_of x) (λ w. Answers (SearchReply t w x) result before after)) (sym is)
      (of_watch_map files_tell (watch_of_aim aim) (λ w. Searched aim w) (λ w. Answers (SearchReply t w (Hunt trials aim options)) result before after) (λ w each. each options) replies)

-- which watch a search asks for
pub watch_asked : (search : Search) (trials : Trials) (aim : Aim) (options : Options) (w : List ℕ) → search ≡ Hunt trials aim options → watch_of_aim aim ≡ Some w → watch_of search ≡ Some w
watch_asked search trials aim options w is asks = ap watch_of is ∙ asks

-- A DRAWING
module _ (text t : List ℕ) (same : text ≡ t) (how : DrawOutcome) (before after : Option (List ℕ)) (says : SaysOf text how) (has : HasDrawn text how before after) where
  abbrev Drew : Status → Type 0
  Drew status = Answers (DrawReply t) status before after

  pub draw_done : how ≡ draw.Done → Drew Done
  draw_done is =
      let (actions, spells, gained) : HasWritten text before after = subst (λ o. HasDrawn text o before after) is has in
      whole tt (page_of actions) (drawn actions (subst (λ x. SpellsTrace x actions) same spells)) gained

  begun_page : (status : Status) → IsCut status → Begun text before after → Drew status
  begun_page status cut (actions, spells, front) = begun cut (page_of actions) (Done, drawn actions (subst (λ x. SpellsTrace x actions) same spells)) front

  pub draw_unwritten : how ≡ draw.WriteFault → Drew WriteFault
  draw_unwritten is = begun_page WriteFault tt (subst (λ o. HasDrawn text o before after) is has)

  refused : (after ≡ before) ⊎ Begun text before after → Drew Memory
  refused (inl unwritten) = nothing tt unwritten
  refused (inr page) = begun_page Memory tt page

  pub draw_without : how ≡ draw.Memory → Drew Memory
  draw_without is = refused (subst (λ o. HasDrawn text o before after) is has)

  -- a bad trace; nothing was written before it is refused
  pub draw_bad : (line : ℕ) → how ≡ draw.BadLine line → (after ≡ before) × IsBadTrace t line
  draw_bad line is =
      let bad : IsBadTrace text line = subst (SaysOf text) is says in
      let unwritten : after ≡ before = subst (λ o. HasDrawn text o before after) is has in
      (unwritten, subst (λ x. IsBadTrace x line) same bad)
