-- A run of events, event by event.
use Rattle.std.proofs.Common.{◌≡◌, refl, sym, ◌∙◌, ap, subst, ℕ, ◌+◌, ◌<◌, ◌≤◌, List, [], ◌∷◌, ◌++◌, drop, length, add-one, append-nil, append_assoc, get_or, Bool, true, false}
use Rattle.std.specs.Prelude.{Option, Some, None, ◌↔◌}
use Rattle.std.proofs.Math.Seq.{drop-cons}
use Rattle.std.proofs.lemmas.Grind.{flat_map-append}
use Rattle.std.proofs.lemmas.Bool.{false≢true}
use Rattle.std.proofs.lemmas.List.{drop_all}
use Rattle.da_lang.specs.declared.event.Action.{Action}
use Rattle.da_lang.specs.declared.event.Action.TheVariants.{Stop}
use Rattle.da_lang.specs.declared.event.Event.{Event}
use Rattle.da_lang.specs.declared.program.Program.{Program}
use Rattle.da_outside.specs.Outside.{Appends, AppendsPrefix}
use Rattle.da_outside.proofs.OutsideLemmas.{appends_none, appends_then, prefix_before}
use Rattle.da_system.specs.declared.system.System.{System}
use Rattle.da_system.specs.SourceRun.{EndsByStop, SrcRun, and_then, at_event, src_run_from}
use Rattle.da_system.specs.State.{HasStepped, Stands, Whichever}
use Rattle.da_system.specs.SystemStep.{AfterEvent, SystemState, sys_step}
use Rattle.da_system.proofs.StopLaws.{ends_stopped, stop_ends}
use Rattle.replay_run.specs.declared.outcome.Outcome.{Outcome}
use Rattle.replay_run.specs.declared.outcome.Outcome.TheVariants.{Done, Forbidden}
use Rattle.replay_run.specs.Replay.{HasRun, IsDone, IsTried, outcome_of, run_on, run_text}
use Rattle.sched_text.specs.ActionText.{action_line, action_text}

text-append : (xs ys : List Action) → action_text (xs ++ ys) ≡ action_text xs ++ action_text ys
text-append xs ys = flat_map-append action_line xs ys

-- The run from the first state has carried out the events before this place: it told these actions, the system stands for
-- the state that it has come to, and a sink gained its text so far.
pub record Came (program : Program) (s : SystemState) (events : List Event) (place : ℕ) (system : System) (before after : Option (List ℕ)) : Type 0 where
  pub told : List Action
  pub now : SystemState
  pub run_is : run_on program s events ≡ and_then told (src_run_from program (place + 1) now (drop place events))
  pub stands : Stands system now
  pub written : Appends before after (action_text told)

pub came_first : (program : Program) (s : SystemState) (events : List Event) (system : System) (taken : Option (List ℕ)) → Stands system s → Came program s events 0 system taken taken
came_first program s events system taken stands = record {
  told = [];
  now = s;
  run_is = refl;
  stands = stands;
  written = appends_none taken;
}

then_then : (xs ys : List Action) (rest : SrcRun) → and_then xs (and_then ys rest) ≡ and_then (xs ++ ys) rest
then_then xs ys rest = ap (λ (actions : List Action). let run : SrcRun = record rest { actions = actions } in run) (sym (append_assoc xs ys rest.actions))

module _ (program : Program) (s : SystemState) (events : List Event) (place : ℕ) (system : System) (before mid : Option (List ℕ)) (came : Came program s events place system before mid) where
  abbrev rest : List Event
  rest = drop (place + 1) events

  abbrev left : SrcRun
  left = src_run_from program (place + 1) came.now (drop place events)

  -- the text due is what was written, and that of what is left
  due : run_text program s events ≡ action_text came.told ++ action_text left.actions
  due = ap (λ (run : SrcRun). action_text run.actions) came.run_is ∙ text-append came.told left.actions

  -- a prefix of what was told so far is one of the whole text
  pub told_front : (whole : List ℕ) → whole ≡ action_text came.told → (first last : Option (List ℕ)) → AppendsPrefix first last whole → AppendsPrefix first last (run_text program s events)
  told_front whole is first last front =
      subst (AppendsPrefix first last) (sym due) (prefix_before first last (action_text came.told) (action_text left.actions) (subst (AppendsPrefix first last) is front))

  -- no event is left
  pub ran_all : length events ≤ place → HasRun program s events Done system before mid
  ran_all end =
      let none : run_on program s events ≡ and_then came.told (record { actions = []; stop = None; state = came.now }) =
      came.run_is ∙ ap (λ es. and_then came.told (src_run_from program (place + 1) came.now es)) (drop_all place events end) in
      record {
        outcome_is = ap (λ (run : SrcRun). outcome_of run.stop) (sym none);
        stands = subst (λ (run : SrcRun). Stands system run.state) (sym none) came.stands;
        written = subst (λ (run : SrcRun). Appends before mid (action_text run.actions)) (sym none) (subst (λ actions. Appends before mid (action_text actions)) (sym (append-nil came.told)) came.written);
      }

  -- the event that comes next
  module _ (p : Program) (same : p ≡ program) (other : Event) (inside : place < length events) where
    abbrev next : Event
    next = get_or events place other

    next_is : drop place events ≡ next ∷ rest
    next_is = drop-cons events place other inside ∙ ap (λ n. next ∷ drop n events) (sym (add-one place))

    -- what is left, by the step of this event
    left_is : (step : Option AfterEvent) → sys_step p came.now next ≡ step → left ≡ at_event (place + 1) came.now step (λ state. src_run_from program (place + 1 + 1) state rest)
    left_is step is =
        ap (src_run_from program (place + 1) came.now) next_is
        ∙ ap (λ step. at_event (place + 1) came.now step (λ state. src_run_from program (place + 1 + 1) state rest)) (ap (λ q. sys_step q came.now next) (sym same) ∙ is)

    -- it was carried out
    done_on : (next_system : System) (new : Option (List ℕ)) → IsDone p came.now next next_system mid new → Came program s events (place + 1) next_system before new
    done_on next_system new done = record {
      told = came.told ++ done.then'.actions;
      now = done.then'.state;
      run_is = came.run_is ∙ ap (and_then came.told) (left_is _ done.is) ∙ then_then came.told done.then'.actions _;
      stands = done.stands;
      written = subst (Appends before new) (sym (text-append came.told done.then'.actions)) (appends_then before mid new _ _ came.written done.written);
    }

    pub came_on : (allowed : Bool) (next_system : System) (new : Option (List ℕ)) → IsTried p came.now next allowed next_system mid new → allowed ≡ true → Came program s events (place + 1) next_system before new
    came_on true next_system new tried is = done_on next_system new tried
    came_on false next_system new tried is = absurd (false≢true is)

    -- the whole line was written, and the replay ended so
    pub stops_here : (allowed : Bool) (next_system : System) (still new : Option (List ℕ)) → IsTried p came.now next allowed next_system mid still → allowed ≡ false
        → (how : Outcome) → how ≡ Forbidden (place + 1) → Appends still new (action_text (Stop (place + 1) ∷ [])) → HasRun program s events how next_system before new
    stops_here true next_system still new tried is how ends written = absurd (false≢true (sym is))
    stops_here false next_system still new tried is how ends written =
        let whole : run_on program s events ≡ and_then came.told (record { actions = Stop (place + 1) ∷ []; stop = Some (place + 1); state = came.now }) =
        came.run_is ∙ ap (and_then came.told) (left_is None tried.is) in
        record {
          outcome_is = ends ∙ ap (λ (run : SrcRun). outcome_of run.stop) (sym whole);
          stands = subst (λ (run : SrcRun). Stands next_system run.state) (sym whole) tried.stands;
          written = subst (λ (run : SrcRun). Appends before new (action_text run.actions)) (sym whole)
              (subst (Appends before new) (sym (text-append came.told (Stop (place + 1) ∷ [])))
              (appends_then before mid new _ _ came.written (subst (λ x. Appends x new (action_text (Stop (place + 1) ∷ []))) tried.unwritten written)));
        }

-- a run that ended is `Forbidden` exactly where it ends by a stop
pub stops_exactly : (program : Program) (s : SystemState) (events : List Event) (outcome : Outcome) (system : System) (before after : Option (List ℕ)) → HasRun program s events outcome system before after
    → (i : ℕ) → (outcome ≡ Forbidden i) ↔ EndsByStop (run_on program s events).actions i
stops_exactly program s events outcome system before after ran i = (
  λ is. stop_ends program 1 s events i (forbidden_at (run_on program s events).stop i (sym ran.outcome_is ∙ is)),
  λ ends. ran.outcome_is ∙ ap outcome_of (ends_stopped program 1 s events i ends),
)
  where
    forbidden_at : (stop : Option ℕ) (i : ℕ) → outcome_of stop ≡ Forbidden i → stop ≡ Some i
    forbidden_at None i is = absurd (let clash : Done ≡ Forbidden i = is in cc)
    forbidden_at (Some k) i is = let same : Forbidden k ≡ Forbidden i = is in cc

-- AN EVENT THAT THE SYSTEM HAS CARRIED OUT

module _ (program : Program) (e : Event) (system other : System) (told actions : List Action) (stepped : Whichever system (λ s. HasStepped (sys_step program s e) other [] told)) (same : actions ≡ told) (before after : Option (List ℕ)) where
  pub is_done : Appends before after (action_text actions) → Whichever system (λ s. IsDone program s e other before after)
  is_done written = λ s stands.
      let step = stepped s stands in
      record { then' = step.after; is = step.is; stands = step.stands; written = subst (λ xs. Appends before after (action_text xs)) (same ∙ step.added) written }
