-- What the program answers to the texts of its files.
use Rattle.std.specs.Prelude.{◌≡◌, ℕ, ◌⊎◌, List, [], codes, length, Option, None, Some, IsSome}
use Rattle.da_front.specs.declared.refusal.RefusedKind.{RefusedKind}
use Rattle.da_front.specs.WatchText.{AcceptsBeside, RefusesBeside}
use Rattle.da_commands.specs.Lines.{badline_text, refused_text}
use Rattle.da_commands.specs.Replies.{MayRead}
use Rattle.da_commands.specs.Told.{OfTold}
use Rattle.da_core.specs.Compiled.{program_of}
use Rattle.da_front.specs.Verdict.{Accepts, HasTree, Refuses}
use Rattle.da_lang.specs.declared.event.Action.{Action}
use Rattle.da_lang.specs.declared.event.Event.{Event}
use Rattle.da_lang.specs.declared.program.Program.{Program}
use Rattle.da_lang.specs.declared.tree.Tree.{Tree}
use Rattle.da_outside.specs.Outside.{Rose}
use Rattle.da_system.specs.SourceRun.{src_run}
use Rattle.da_system.specs.SystemStep as system
use Rattle.replay_run.specs.Replay.{outcome_of, run_on}
use Rattle.run_page.specs.RunRows.{IsRunPage}
use Rattle.run_watch.specs.Beside.{IsWatchOf}
use Rattle.run_watch.specs.Telling as telling
use Rattle.sched_text.specs.ActionText.{action_text}
use Rattle.sched_text.specs.ScheduleText.{IsBadSchedule, SpellsSchedule}
use Rattle.schedule_hunt.specs.declared.what.Goal.{Goal}
use Rattle.schedule_hunt.specs.declared.what.Goal.TheVariants as goal_is
use Rattle.schedule_hunt.specs.declared.what.Trials.{Trials}
use Rattle.schedule_hunt.specs.Hunt.{IsFound, IsFoundUnspelled, ShowsNone, none_line}
use Rattle.schedule_walk.specs.declared.outcome.NextOutcome.{NextOutcome}
use Rattle.schedule_walk.specs.Next as after
use Rattle.schedule_walk.specs.Walk.{walk_text}
use Rattle.scout_commands.specs.declared.options.Options.{Options}
use Rattle.scout_commands.specs.declared.status.Status.{Status}
use Rattle.scout_commands.specs.declared.status.Status.TheVariants.{BadLine, Done, Found, Memory, Refused, Unspelled, WatchRefused, Words}
use Rattle.scout_commands.specs.declared.words.Aim.{Aim}
use Rattle.scout_commands.specs.declared.words.Aim.TheVariants as aim_is
use Rattle.scout_commands.specs.declared.words.Question.{Question}
use Rattle.scout_commands.specs.declared.words.Question.TheVariants.{Next, Show}
use Rattle.scout_commands.specs.declared.words.Search.{Search}
use Rattle.scout_commands.specs.declared.words.Search.TheVariants.{Walk, Hunt}
use Rattle.scout_commands.specs.Endings.{status_of_next, status_of_run}
use Rattle.scout_commands.specs.Told.{Answers, IsSaid}
use Rattle.scout_commands.specs.Words.{IsDraw, IsFollow, IsOther, IsSearch, IsWatch}
use Rattle.trace_page.specs.PageText.{page_of}
use Rattle.trace_page.specs.TraceText.{IsBadTrace, SpellsTrace}

-- HUNTS

-- the name of the watch that a hunt asks for, if it does
abbrev pub watch_of_aim : Aim → Option (List ℕ)
watch_of_aim (aim_is.Shown what) = None
watch_of_aim (aim_is.Watched watch) = Some watch.now

abbrev pub watch_of : Search → Option (List ℕ)
watch_of (Walk start most) = None
watch_of (Hunt trials aim options) = watch_of_aim aim

-- what is looked for over a program: what the words say; or that a watch says something, which this text gives beside the program
abbrev pub IsGoal : Program → List ℕ → Aim → Goal → Type 0
IsGoal program watch_text (aim_is.Shown what) (goal_is.Shown sought) = sought.now ≡ what
IsGoal program watch_text (aim_is.Watched name) (goal_is.Watched watch) =
    AcceptsBeside watch_text (length program.procs) (program_of watch.now) × IsWatchOf program watch.now
IsGoal program watch_text _ _ = ⊥

-- those with which a hunt for this is answered
pub data HuntReply (program : Program) (trials : Trials) (goal : Goal) : Status → List ℕ → Type 0 where
  found : (bytes : List ℕ) → IsFound program goal trials bytes → HuntReply program trials goal Found bytes
  unspelled : IsFoundUnspelled program goal trials → HuntReply program trials goal Unspelled []
  none : ShowsNone program goal trials → HuntReply program trials goal Done (none_line trials.count)

-- the status and the bytes with which a search over the text of a program is answered, and over that of a watch where it asks for one
pub data SearchReply (text watch_text : List ℕ) : Search → Status → List ℕ → Type 0 where
  declined : (search : Search) (kind : RefusedKind) (line : ℕ) → Refuses text kind line → SearchReply text watch_text search (Refused kind line) (refused_text kind line)
  unwatched : (search : Search) (program : Program) (kind : RefusedKind) (line : ℕ) → Accepts text program → IsSome (watch_of search)
      → RefusesBeside watch_text (length program.procs) kind line → SearchReply text watch_text search (WatchRefused kind line) (refused_text kind line)
  walked : (start most : ℕ) (program : Program) → Accepts text program
      → SearchReply text watch_text (Walk start most) Done (walk_text program (system.start program) start most)
  hunted : (trials : Trials) (aim : Aim) (options : Options) (goal : Goal) (program : Program) (status : Status) (bytes : List ℕ) → Accepts text program
      → IsGoal program watch_text aim goal → HuntReply program trials goal status bytes → SearchReply text watch_text (Hunt trials aim options) status bytes

-- SCHEDULES

-- those with which a schedule over a program is answered; a run that is stopped has a page too, and its status says so
pub data RunReply (program_text schedule_text : List ℕ) : Question → Status → List ℕ → Type 0 where
  declined : (question : Question) (kind : RefusedKind) (line : ℕ) → Refuses program_text kind line → RunReply program_text schedule_text question (Refused kind line) (refused_text kind line)
  bad_schedule : (question : Question) (program : Program) (line : ℕ) → Accepts program_text program → IsBadSchedule schedule_text line
      → RunReply program_text schedule_text question (BadLine line) (badline_text line)
  answered : (program : Program) (events : List Event) (how : NextOutcome) (bytes : List ℕ) → Accepts program_text program → SpellsSchedule schedule_text events → after.NextReply program events how bytes
      → RunReply program_text schedule_text Next (status_of_next how) bytes
  shown : (program : Program) (tree : Tree) (events : List Event) (page : List ℕ) → Accepts program_text program → HasTree program_text tree → SpellsSchedule schedule_text events
      → IsRunPage program tree program_text schedule_text events page
      → RunReply program_text schedule_text Show (status_of_run (outcome_of (run_on program (system.start program) events).stop)) page

-- those with which a schedule beside a watch is answered
pub data WatchReply (program_text watch_text schedule_text : List ℕ) : Status → List ℕ → Type 0 where
  declined : (kind : RefusedKind) (line : ℕ) → Refuses program_text kind line → WatchReply program_text watch_text schedule_text (Refused kind line) (refused_text kind line)
  unwatched : (program : Program) (kind : RefusedKind) (line : ℕ) → Accepts program_text program → RefusesBeside watch_text (length program.procs) kind line
      → WatchReply program_text watch_text schedule_text (WatchRefused kind line) (refused_text kind line)
  bad_schedule : (program watch : Program) (line : ℕ) → Accepts program_text program → AcceptsBeside watch_text (length program.procs) watch → IsBadSchedule schedule_text line
      → WatchReply program_text watch_text schedule_text (BadLine line) (badline_text line)
  ran : (program watch : Program) (events : List Event) → Accepts program_text program → AcceptsBeside watch_text (length program.procs) watch → SpellsSchedule schedule_text events
      → WatchReply program_text watch_text schedule_text (status_of_run (outcome_of (src_run program events).stop)) (action_text (telling.told program watch events))

-- those with which a trace is answered
pub data DrawReply (text : List ℕ) : Status → List ℕ → Type 0 where
  bad_trace : (line : ℕ) → IsBadTrace text line → DrawReply text (BadLine line) (badline_text line)
  drawn : (actions : List Action) → SpellsTrace text actions → DrawReply text Done (page_of actions)

-- ALL WORDS

-- it holds of the text that is told of a watch, if there is one; else no text is asked for
abbrev pub OfWatchTold : (List ℕ → Option (List ℕ)) → Option (List ℕ) → (List ℕ → Type 0) → Type 0
OfWatchTold told None holds = holds []
OfWatchTold told (Some watch) holds = OfTold (told watch) holds

-- What the program answers to its words, over the files that are told. The last is want of memory at reading the words.
pub data HasAnswered (words : List (List ℕ)) (told : List ℕ → Option (List ℕ)) (status : Status) (before after : Option (List ℕ)) : Type 0 where
  searched : (search : Search) (p : List ℕ) → IsSearch words search p
      → OfTold (told p) (λ t. OfWatchTold told (watch_of search) (λ w. Answers (SearchReply t w search) status before after)) → HasAnswered words told status before after
  followed : (question : Question) (p q : List ℕ) → IsFollow words question p q → OfTold (told p) (λ t. OfTold (told q) (λ s. Answers (RunReply t s question) status before after)) → HasAnswered words told status before after
  watched : (w p q : List ℕ) → IsWatch words w p q
      → OfTold (told p) (λ t. OfTold (told w) (λ v. OfTold (told q) (λ s. Answers (WatchReply t v s) status before after))) → HasAnswered words told status before after
  drew : (p : List ℕ) → IsDraw words p → OfTold (told p) (λ t. Answers (DrawReply t) status before after) → HasAnswered words told status before after
  other : IsOther words → Answers (IsSaid Words (codes "words\n")) status before after → HasAnswered words told status before after
  stopped : status ≡ Memory → after ≡ before → HasAnswered words told status before after

-- a read failed, and the count rose for a name in the words that may be read: a watch and a schedule are not, where the told program is
-- refused
abbrev pub HasReadCause : List (List ℕ) → (List ℕ → Option (List ℕ)) → (List ℕ → ℕ) → (List ℕ → ℕ) → Type 0
HasReadCause words told before now =
    ((search : Search) × (p : List ℕ) × IsSearch words search p
    × (Rose (before p) (now p) ⊎ ((w : List ℕ) × (watch_of search ≡ Some w) × Rose (before w) (now w) × MayRead (told p))))
    ⊎ ((question : Question) × (p : List ℕ) × (q : List ℕ) × IsFollow words question p q × (Rose (before p) (now p) ⊎ (Rose (before q) (now q) × MayRead (told p))))
    ⊎ ((w : List ℕ) × (p : List ℕ) × (q : List ℕ) × IsWatch words w p q
    × (Rose (before p) (now p) ⊎ (Rose (before w) (now w) × MayRead (told p)) ⊎ (Rose (before q) (now q) × MayRead (told p))))
    ⊎ ((p : List ℕ) × IsDraw words p × Rose (before p) (now p))
