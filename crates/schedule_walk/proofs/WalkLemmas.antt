-- The events that numbers pick, one after the other.
use Rattle.std.proofs.Common.{◌≡◌, refl, sym, ◌∙◌, ap, subst, ℕ, ◌+◌, ◌-◌, ◌<◌, ◌≤◌, List, [], ◌∷◌, ◌++◌, length, arith, append-nil, append_assoc}
use Rattle.std.specs.Prelude.{Option, Some, None}
use Rattle.da_lang.specs.declared.event.Action.{Action}
use Rattle.da_lang.specs.declared.event.Event.{Event}
use Rattle.da_lang.specs.declared.program.Program.{Program}
use Rattle.da_outside.specs.Outside.{Appends, AppendsPrefix}
use Rattle.da_system.specs.declared.system.System.{System}
use Rattle.da_system.specs.Choices.{choices}
use Rattle.da_system.specs.SourceRun.{SrcRun}
use Rattle.da_system.specs.State.{Stands}
use Rattle.da_system.specs.StressRun.{StressRun, next_number, pick, stress_from}
use Rattle.da_system.specs.SystemStep.{SystemState, sys_step}
use Rattle.da_system.proofs.StressLaws.{picks_none, picks_one, run_more}
use Rattle.replay_run.specs.Replay.{run_on}
use Rattle.replay_run.specs.Stress.{picked_on}
use Rattle.sched_text.specs.ScheduleText.{SpellsSchedule}
use Rattle.schedule_walk.specs.declared.generated.Pick.{Pick}
use Rattle.schedule_walk.specs.Walk.{ArePicked, IsNext, WasPicked, schedule_text, walk_text}

-- these events before those of a run
abbrev after_events : List Event → StressRun → StressRun
after_events events run = record run { events = events ++ run.events }

abbrev ran_to : List Action → SystemState → SrcRun
ran_to told s = record { actions = told; stop = None; state = s }

-- From the first state so many events were picked and carried out, which are these: the last number is this one, and the system
-- stands for the state that they lead to.
pub record CameBy (program : Program) (s : SystemState) (x n place : ℕ) (system : System) (last : ℕ) (events : List Event) : Type 0 where
  pub told : List Action
  pub now : SystemState
  pub picks : stress_from program n x s ≡ after_events events (stress_from program (n - place) last now)
  pub does : run_on program s events ≡ ran_to told now
  pub stands : Stands system now

pub came_first : (program : Program) (s : SystemState) (x n : ℕ) (system : System) → Stands system s → CameBy program s x n 0 system x []
came_first program s x n system stands = record {
  told = [];
  now = s;
  picks = ap (λ k. stress_from program k x s) (let all : n ≡ n - 0 = omega arith in all);
  does = refl;
  stands = stands;
}

module _ (program : Program) (s : SystemState) (x n place : ℕ) (system : System) (last : ℕ) (events : List Event) (came : CameBy program s x n place system last events) where
  -- the next event was carried out
  picked_from : (found : Pick) (next : System) → place < n → WasPicked program came.now last found next → CameBy program s x n (place + 1) next found.number (events ++ found.event ∷ [])
  picked_from found next inside was = record {
    told = came.told ++ was.after.actions;
    now = was.after.state;
    picks = came.picks ∙ ap (after_events events) one
        ∙ ap (λ (events : List Event). let run : StressRun = record rest { events = events } in run) (sym (append_assoc events (found.event ∷ []) rest.events));
    does = run_more program events 1 s found.event was.after (ap (λ (run : SrcRun). run.stop) came.does) (ap (λ (run : SrcRun). sys_step program run.state found.event) came.does ∙ was.is)
        ∙ ap (λ (run : SrcRun). ran_to (run.actions ++ was.after.actions) was.after.state) came.does;
    stands = was.stands;
  }
    where
      rest : StressRun
      rest = stress_from program (n - (place + 1)) found.number was.after.state

      one : stress_from program (n - place) last came.now ≡ record rest { events = found.event ∷ rest.events }
      one =
          picks_one program (n - place) (n - (place + 1)) last came.now found.event was.after (omega (arith, inside)) was.picks was.is
          ∙ ap (λ y. let run = stress_from program (n - (place + 1)) y was.after.state in let all : StressRun = record run { events = found.event ∷ run.events } in all) (sym was.number_is)

  pub came_on : (p : Program) → p ≡ program → (found : Pick) (next : System) → place < n → IsNext p came.now last (Some found) next → CameBy program s x n (place + 1) next found.number (events ++ found.event ∷ [])
  came_on p same found next inside was = picked_from found next inside (subst (λ q. WasPicked q came.now last found next) same was)

  -- THE END

  came_to : (left : System) → stress_from program (n - place) last came.now ≡ record { events = []; last = last } → Stands left came.now → ArePicked program s x n events left
  came_to left none stands = record {
    events_are = ap (λ (run : StressRun). run.events) (sym whole);
    stands = subst (λ (run : SrcRun). Stands left run.state) (sym does) stands;
  }
    where
      whole : stress_from program n x s ≡ record { events = events; last = last }
      whole = came.picks ∙ ap (after_events events) none ∙ ap (λ (es : List Event). let run : StressRun = record { events = es; last = last } in run) (append-nil events)

      does : run_on program s (picked_on program s x n) ≡ ran_to came.told came.now
      does = ap (λ (run : StressRun). run_on program s run.events) whole ∙ came.does

  -- there is no event to pick
  pub comes_early : (p : Program) → p ≡ program → (next : System) → IsNext p came.now last None next → ArePicked program s x n events next
  comes_early p same next over =
      let none = subst (λ q. pick (choices q came.now) (next_number last) ≡ None) same over.none in
      came_to next (picks_none program (n - place) last came.now none) over.stands

  -- so many events as were asked for were carried out
  pub comes_last : n ≤ place → ArePicked program s x n events system
  comes_last from = came_to system (ap (λ k. stress_from program k last came.now) (let none : n - place ≡ 0 = omega (arith, from) in none)) came.stands

-- THE LINES

module _ (program : Program) (s : SystemState) (x n : ℕ) (events : List Event) (system : System) (are : ArePicked program s x n events system) (text : List ℕ) (before after : Option (List ℕ)) where
  pub walked : text ≡ schedule_text events → Appends before after text → Appends before after (walk_text program s x n)
  walked text_is written = subst (Appends before after) (text_is ∙ ap schedule_text are.events_are) written

  pub walked_front : text ≡ schedule_text events → AppendsPrefix before after text → AppendsPrefix before after (walk_text program s x n)
  walked_front text_is front = subst (AppendsPrefix before after) (text_is ∙ ap schedule_text are.events_are) front

  pub walk_spells : text ≡ schedule_text events → SpellsSchedule text events → SpellsSchedule (walk_text program s x n) (picked_on program s x n)
  walk_spells text_is spells = subst (SpellsSchedule (walk_text program s x n)) are.events_are (subst (λ t. SpellsSchedule t events) (text_is ∙ ap schedule_text are.events_are) spells)
