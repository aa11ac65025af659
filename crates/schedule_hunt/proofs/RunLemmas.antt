-- Runs in code, event by event.
use Rattle.std.proofs.Common.{◌≡◌, refl, sym, ◌∙◌, ap, subst, ℕ, zero, suc, ◌+◌, ◌-◌, ◌<◌, ◌≤◌, List, [], ◌∷◌, ◌++◌, drop, length, add-one, append-nil, append_assoc, arith, get_or, Bool, true, false}
use Rattle.std.specs.Prelude.{Option, Some, None, Result, Ok, Err, ◌↔◌, IfOk, IsSome, IsTrue, is_some}
use Rattle.std.proofs.Math.Seq.{drop-cons}
use Rattle.std.proofs.lemmas.Bool.{false≢true}
use Rattle.std.proofs.lemmas.List.{drop_all}
use Rattle.da_lang.specs.declared.event.Action.{Action}
use Rattle.da_lang.specs.declared.event.Event.{Event}
use Rattle.da_lang.specs.declared.program.Program.{Program}
use Rattle.da_system.specs.SourceRun.{SrcRun, and_then, at_event, src_run, src_run_from}
use Rattle.da_system.specs.State.{Stands, program_of}
use Rattle.da_system.specs.StressRun.{state_after}
use Rattle.da_system.specs.SystemStep.{AfterEvent, SystemState, start, sys_step}
use Rattle.da_system.proofs.StressLaws.{run_more}
use Rattle.schedule_pick.specs.declared.budget.Budget.{Budget}
use Rattle.schedule_pick.specs.declared.picker.Picker.{Picker}
use Rattle.schedule_pick.specs.Budgets.{pickable}
use Rattle.schedule_pick.specs.Picked.{at_event as at_pick, falls_of, first_picker, picked, picked_from, picker_after, picker_by}
use Rattle.schedule_walk.specs.Rest.{IsAtRest}
use Rattle.schedule_hunt.specs.declared.runs.Run.{Run}
use Rattle.schedule_hunt.specs.declared.runs.Trial.{Trial}
use Rattle.schedule_hunt.specs.declared.what.Goal.{Goal}
use Rattle.schedule_hunt.specs.declared.what.Trials.{Trials}
use Rattle.schedule_hunt.specs.declared.what.What.{What}
use Rattle.schedule_hunt.specs.Hunt.{IsShownBy, generated}
use Rattle.schedule_hunt.specs.Runs.{HasRun, IsExecuted, IsPicked, IsTrial, StandsAfter, WasPicked}
use Rattle.schedule_hunt.specs.declared.what.What.TheVariants.{Stuck}
use Rattle.schedule_hunt.specs.Shown.{HasEnded, IsStuck, Reaches, Shows}
use Rattle.schedule_hunt.specs.ShownSteps.{HasUnended}

-- GIVEN EVENTS

-- The events before this place were carried out: the run has told their actions, and has come to the state after them.
pub record Came (program : Program) (events : List Event) (place : ℕ) (run : Run) : Type 0 where
  pub now : SystemState
  pub run_is : src_run program events ≡ and_then run.actions (src_run_from program (place + 1) now (drop place events))
  pub stands : Stands run.system now
  pub same : program_of run.system ≡ program

pub came_first : (program : Program) (events : List Event) (run : Run) → program_of run.system ≡ program → Stands run.system (start program) → run.actions ≡ [] → Came program events 0 run
came_first program events run same stands none = record {
  now = start program;
  run_is = ap (λ told. and_then told (src_run program events)) (sym none);
  stands = stands;
  same = same;
}

then_then : (xs ys : List Action) (rest : SrcRun) → and_then xs (and_then ys rest) ≡ and_then (xs ++ ys) rest
then_then xs ys rest = ap (λ (actions : List Action). let run : SrcRun = record rest { actions = actions } in run) (sym (append_assoc xs ys rest.actions))

module _ (program : Program) (events : List Event) (place : ℕ) (old : Run) (came : Came program events place old) where
  abbrev rest : List Event
  rest = drop (place + 1) events

  -- no event is left
  pub ran_all : length events ≤ place → HasRun program events old
  ran_all end = record {
    goes = ap (λ (run : SrcRun). run.stop) none;
    behind = record {
      program_is = came.same;
      actions = sym (append-nil old.actions) ∙ sym (ap (λ (run : SrcRun). run.actions) none);
      stands = subst (λ (run : SrcRun). Stands old.system run.state) (sym none) came.stands;
    };
  }
    where
      none : src_run program events ≡ and_then old.actions (record { actions = []; stop = None; state = came.now })
      none = came.run_is ∙ ap (λ es. and_then old.actions (src_run_from program (place + 1) came.now es)) (drop_all place events end)

  -- the event that comes next
  module _ (next other : Event) (next_is : next ≡ get_or events place other) (inside : place < length events) where
    left_is : (step : Option AfterEvent) → sys_step (program_of old.system) came.now next ≡ step
        → src_run program events ≡ and_then old.actions (at_event (place + 1) came.now step (λ state. src_run_from program (place + 1 + 1) state rest))
    left_is step is =
        came.run_is ∙ ap (and_then old.actions)
        (ap (src_run_from program (place + 1) came.now) (drop-cons events place other inside ∙ ap (λ e. e ∷ drop (suc place) events) (sym next_is) ∙ ap (λ n. next ∷ drop n events) (sym (add-one place)))
        ∙ ap (λ step. at_event (place + 1) came.now step (λ state. src_run_from program (place + 1 + 1) state rest)) (ap (λ p. sys_step p came.now next) (sym came.same) ∙ is))

    pub came_on : (new : Run) (allowed : Bool) → allowed ≡ true → IsExecuted (sys_step (program_of old.system) came.now next) old allowed new → program_of new.system ≡ program_of old.system
        → Came program events (place + 1) new
    came_on new true is done still = record {
      now = done.after.state;
      run_is = left_is _ done.is ∙ then_then old.actions done.after.actions _
          ∙ ap (λ told. and_then told (src_run_from program (place + 1 + 1) done.after.state rest)) (sym done.added);
      stands = done.stands;
      same = still ∙ came.same;
    }
    came_on new false is done still = absurd (false≢true is)

    pub stops_here : (new : Run) (allowed : Bool) → allowed ≡ false → IsExecuted (sys_step (program_of old.system) came.now next) old allowed new → (src_run program events).stop ≡ None → ⊥
    stops_here new true is done goes = absurd (false≢true (sym is))
    stops_here new false is done goes =
        let clash : ◌≡◌ {A = Option ℕ} (Some (place + 1)) None = sym (ap (λ (run : SrcRun). run.stop) (left_is None done)) ∙ goes in absurd (cc)

-- GENERATED EVENTS

abbrev ran_to : List Action → SystemState → SrcRun
ran_to told s = record { actions = told; stop = None; state = s }

-- what is picked first, and what then
picks_one : (program : Program) (m n : ℕ) (picker : Picker) (s : SystemState) (e : Event) (after : AfterEvent) → m ≡ suc n → picked picker (pickable program s picker.budget) ≡ Some e
    → sys_step program s e ≡ Some after → picked_from program m picker s ≡ e ∷ picked_from program n (picker_after picker (pickable program s picker.budget) e) after.state
picks_one program m n picker s e after is picks step =
    ap (λ k. picked_from program k picker s) is
    ∙ ap (λ o. at_pick o (λ e. picked_from program n (picker_after picker (pickable program s picker.budget) e) (state_after s (sys_step program s e)))) picks
    ∙ ap (λ step. e ∷ picked_from program n (picker_after picker (pickable program s picker.budget) e) (state_after s step)) step

picks_none : (program : Program) (m : ℕ) (picker : Picker) (s : SystemState) → picked picker (pickable program s picker.budget) ≡ None → picked_from program m picker s ≡ []
picks_none program zero picker s none = refl
picks_none program (suc n) picker s none =
    ap (λ o. at_pick o (λ e. picked_from program n (picker_after picker (pickable program s picker.budget) e) (state_after s (sys_step program s e)))) none

-- So many events were picked and carried out; what is left is picked so.
pub record CameBy (program : Program) (trials : Trials) (x place : ℕ) (trial : Trial) (picker : Picker) : Type 0 where
  pub now : SystemState
  pub picks : generated program trials x ≡ trial.events ++ picked_from program (trials.most - place) picker now
  pub does : src_run program trial.events ≡ ran_to trial.run.actions now
  pub stands : Stands trial.run.system now
  pub same : program_of trial.run.system ≡ program
  pub turn : picker.place ≡ place

first_place : (falls : Option ℕ) (count : ℕ) (budget : Budget) (most number : ℕ) → (picker_by falls count budget most number).place ≡ 0
first_place None count budget most number = refl
first_place (Some n) count budget most number = refl

-- a schedule of no events
pub none_tried : (program : Program) (trials : Trials) (x : ℕ) (trial : Trial) → trials.most ≡ 0 → program_of trial.run.system ≡ program → Stands trial.run.system (start program) → trial.run.actions ≡ [] → trial.events ≡ []
    → IsTrial program trials x trial
none_tried program trials x trial is same stands none empty = record {
  events = empty ∙ sym (ap (λ n. picked_from program n (first_picker (length program.procs) trials.setting trials.most x) (start program)) is);
  run = record {
    goes = ap (λ es. (src_run program es).stop) empty;
    behind = record {
      program_is = same;
      actions = none ∙ sym (ap (λ es. (src_run program es).actions) empty);
      stands = subst (λ es. Stands trial.run.system (src_run program es).state) (sym empty) stands;
    };
  };
}

pub by_first : (program : Program) (trials : Trials) (x count : ℕ) (trial : Trial) (picker : Picker) → count ≡ length program.procs → picker ≡ first_picker count trials.setting trials.most x
    → program_of trial.run.system ≡ program → Stands trial.run.system (start program) → trial.run.actions ≡ [] → trial.events ≡ [] → CameBy program trials x 0 trial picker
by_first program trials x count trial picker counted picker_is same stands none empty = record {
  now = start program;
  picks = ap (λ p. picked_from program trials.most p (start program)) (ap (λ n. first_picker n trials.setting trials.most x) (sym counted) ∙ sym picker_is)
      ∙ ap (λ k. picked_from program k picker (start program)) (let all : trials.most ≡ trials.most - 0 = omega arith in all)
      ∙ ap (λ events. events ++ picked_from program (trials.most - 0) picker (start program)) (sym empty);
  does = ap (src_run program) empty ∙ ap (λ told. ran_to told (start program)) (sym none);
  stands = stands;
  same = same;
  turn = ap (λ (p : Picker). p.place) picker_is ∙ first_place (falls_of trials.setting.strategy x) count trials.setting.budget trials.most x;
}

module _ (program : Program) (trials : Trials) (x place : ℕ) (old : Trial) (picker : Picker) (came : CameBy program trials x place old picker) where
  by_one : (new : Trial) (following : Picker) → place < trials.most → WasPicked program came.now picker following old new → program_of new.run.system ≡ program
      → CameBy program trials x (place + 1) new following
  by_one new following inside was same = record {
    now = after.state;
    picks = came.picks ∙ ap (λ es. old.events ++ es) one
        ∙ sym (append_assoc old.events (was.event ∷ []) rest)
        ∙ ap (λ events. events ++ rest) (sym was.events);
    does = ap (src_run program) was.events
        ∙ run_more program old.events 1 (start program) was.event after (ap (λ (run : SrcRun). run.stop) came.does) (ap (λ (run : SrcRun). sys_step program run.state was.event) came.does ∙ was.stepped.is)
        ∙ ap (λ (run : SrcRun). ran_to (run.actions ++ after.actions) after.state) came.does
        ∙ ap (λ told. ran_to told after.state) (sym was.stepped.added);
    stands = was.stepped.stands;
    same = same;
    turn = ap (λ (p : Picker). p.place) was.following_is ∙ ap (λ n. n + 1) came.turn;
  }
    where
      after : AfterEvent
      after = was.stepped.after

      rest : List Event
      rest = picked_from program (trials.most - (place + 1)) following after.state

      one : picked_from program (trials.most - place) picker came.now ≡ was.event ∷ rest
      one =
          picks_one program (trials.most - place) (trials.most - (place + 1)) picker came.now was.event after (omega (arith, inside)) was.picks was.stepped.is
          ∙ ap (λ p. was.event ∷ picked_from program (trials.most - (place + 1)) p after.state) (sym was.following_is)

  pub by_next : (new : Trial) (following : Picker) → place < trials.most → IsPicked (program_of old.run.system) came.now picker old true following new → program_of new.run.system ≡ program_of old.run.system
      → CameBy program trials x (place + 1) new following
  by_next new following inside was still = by_one new following inside (subst (λ p. WasPicked p came.now picker following old new) came.same was) (still ∙ came.same)

  -- THE END

  is_trial : picked_from program (trials.most - place) picker came.now ≡ [] → IsTrial program trials x old
  is_trial none = record {
    events = sym (append-nil old.events) ∙ sym (came.picks ∙ ap (λ es. old.events ++ es) none);
    run = record {
      goes = ap (λ (run : SrcRun). run.stop) came.does;
      behind = record {
        program_is = came.same;
        actions = sym (ap (λ (run : SrcRun). run.actions) came.does);
        stands = subst (λ (run : SrcRun). Stands old.run.system run.state) (sym came.does) came.stands;
      };
    };
  }

  pub ends_early : (new : Trial) (following : Picker) → IsPicked (program_of old.run.system) came.now picker old false following new → IsTrial program trials x new
  ends_early new following over =
      let none = subst (λ p. picked picker (pickable p came.now picker.budget) ≡ None) came.same over.none in
      subst (IsTrial program trials x) (sym over.same) (is_trial (picks_none program (trials.most - place) picker came.now none))

  pub ends_last : trials.most ≤ place → IsTrial program trials x old
  ends_last all = is_trial (ap (λ k. picked_from program k picker came.now) (let none : trials.most - place ≡ 0 = omega (arith, all) in none))

-- ONE EVENT THAT IS PICKED

pub picked_here : (program : Program) (s : SystemState) (picker following : Picker) (event : Event) (found : Option Event) (old new : Trial) (allowed : Bool) → found ≡ Some event
    → found ≡ picked picker (pickable program s picker.budget) → following ≡ picker_after picker (pickable program s picker.budget) event
    → allowed ≡ true → IsExecuted (sys_step program s event) old.run allowed new.run → new.events ≡ old.events ++ event ∷ [] → WasPicked program s picker following old new
picked_here program s picker following event found old new true is picks follows yes' done added = record {
  event = event;
  picks = sym picks ∙ is;
  following_is = follows;
  stepped = done;
  events = added;
}
picked_here program s picker following event found old new false is picks follows yes' done added = absurd (false≢true yes')

-- an event that is allowed is not refused
pub not_refused : (step : Option AfterEvent) (old new : Run) (allowed : Bool) → IsSome step → allowed ≡ false → IsExecuted step old allowed new → ⊥
not_refused step old new true some is done = false≢true (sym is)
not_refused step old new false some is done = false≢true (sym (ap is_some done) ∙ some)

-- WHAT IS SHOWN

stuck_by : (program : Program) (run : Run) (actions : List Action) (b : Bool) → actions ≡ run.actions
    → ((s : SystemState) → Stands run.system s → IsTrue b ↔ IsAtRest program s × HasUnended (length program.procs) actions)
    → (source : SrcRun) → StandsAfter program source run → IsTrue b ↔ IsStuck program source
stuck_by program run actions b told_is told source behind = (to, from)
  where
    both : IsTrue b ↔ IsAtRest program source.state × HasUnended (length program.procs) actions
    both = told source.state behind.stands

    to : IsTrue b → IsStuck program source
    to is =
        let (none, (p, among, unended)) = both.0 is in
        record {
          none = none;
          process = p;
          there = among;
          unended = λ ended. unended (subst (HasEnded p) (sym (told_is ∙ behind.actions)) ended);
        }

    from : IsStuck program source → IsTrue b
    from stuck = both.1 (stuck.none, (stuck.process, stuck.there, λ ended. stuck.unended (subst (HasEnded stuck.process) (told_is ∙ behind.actions) ended)))

pub shown_stuck : {E : Type 0} (program : Program) (what : What) (run : Run) (actions : List Action) (r : Result Bool E) → what ≡ Stuck → actions ≡ run.actions → program_of run.system ≡ program
    → IfOk r (λ stuck. (s : SystemState) → Stands run.system s → IsTrue stuck ↔ IsAtRest (program_of run.system) s × HasUnended (length (program_of run.system).procs) actions)
    → IfOk r (λ shown. (source : SrcRun) → StandsAfter program source run → IsTrue shown ↔ Shows program what source)
shown_stuck program what run actions (Ok b) is told_is same told = λ source behind.
    subst (λ w. IsTrue b ↔ Shows program w source) (sym is)
    (stuck_by program run actions b told_is (λ s stands. subst (λ q. IsTrue b ↔ IsAtRest q s × HasUnended (length q.procs) actions) same (told s stands)) source behind)
shown_stuck program what run actions (Err fault) is told_is same told = told

pub shown_by_run : (program : Program) (what : Goal) (events : List Event) (run : Run) (r : Bool) → HasRun program events run
    → ((source : SrcRun) → StandsAfter program source run → IsTrue r ↔ Reaches program what source) → IsTrue r ↔ IsShownBy program what events
shown_by_run program what events run r ran told =
    let both = told (src_run program events) ran.behind in
    (λ is. record { allowed = ran.goes; shows = both.0 is }, λ shown. both.1 shown.shows)

pub not_shown : (program : Program) (what : Goal) (events : List Event) → ((src_run program events).stop ≡ None → ⊥) → IsTrue false ↔ IsShownBy program what events
not_shown program what events stops = (λ no. absurd (false≢true no), λ shown. absurd (stops shown.allowed))
