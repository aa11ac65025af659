-- What is told of a run beside a watch, event by event.
use Rattle.std.proofs.Common.{◌≡◌, refl, sym, ◌∙◌, ap, subst, ℕ, ◌+◌, ◌<◌, ◌≤◌, Bool, true, false, cond, List, [], ◌∷◌, ◌++◌, length, get_or, take, drop, append-nil, append_assoc}
use Rattle.std.specs.Prelude.{◌↔◌, Option, Some, None, IsTrue}
use Rattle.std.specs.List.{filter}
use Rattle.std.proofs.lemmas.Bool.{false≢true}
use Rattle.std.proofs.lemmas.Grind.{flat_map-append}
use Rattle.std.proofs.lemmas.List.{drop_all, drop_more, flat_map_more, take_all, take_more}
use Rattle.std.proofs.lemmas.List.Elements.{filter-append}
use Rattle.da_lang.specs.declared.event.Action.{Action}
use Rattle.da_lang.specs.declared.event.Action.TheVariants.{Stop}
use Rattle.da_lang.specs.declared.event.Event.{Event}
use Rattle.da_lang.specs.declared.program.Program.{Program}
use Rattle.da_lang.specs.World.{World}
use Rattle.da_outside.specs.Outside.{HasCause}
use Rattle.da_outside.proofs.OutsideLemmas.{cause_as}
use Rattle.da_system.specs.declared.system.System.{System}
use Rattle.da_system.specs.SoundState.{IsSoundState}
use Rattle.da_system.specs.SourceRun.{src_run_from}
use Rattle.da_system.specs.SourceRun as source
use Rattle.da_system.specs.State.{HasStepped, Stands}
use Rattle.da_system.specs.SystemStep.{AfterEvent, SystemState, start, sys_step}
use Rattle.replay_run.specs.declared.outcome.Outcome.{Outcome}
use Rattle.replay_run.specs.declared.outcome.Outcome.TheVariants.{WriteFault}
use Rattle.replay_run.specs.Replay.{HasEnded, outcome_of}
use Rattle.sched_text.specs.ActionText.{action_line, action_text}
use Rattle.schedule_walk.specs.Rest.{IsAtRest}
use Rattle.schedule_walk.proofs.RestLaws.{rest_is}
use Rattle.run_watch.specs.declared.watcher.Watcher.{Watcher}
use Rattle.run_watch.specs.Beside.{HasCome, HasDone}
use Rattle.run_watch.specs.Telling.{at_event, said, told_at_end, told_from}
use Rattle.run_watch.specs.TellingSteps.{AreTold, IsEventTold, IsTold, WasTold, said_text}
use Rattle.run_watch.specs.Watching.{begun, handed, hears_all, is_said, quiet}

text-append : (xs ys : List Action) → action_text (xs ++ ys) ≡ action_text xs ++ action_text ys
text-append xs ys = flat_map-append action_line xs ys

said-append : (xs ys : List Action) → said_text (xs ++ ys) ≡ said_text xs ++ said_text ys
said-append xs ys = ap action_text (filter-append is_said xs ys) ∙ text-append (filter is_said xs) (filter is_said ys)

-- THE LINES OF ACTIONS, one after the other

pub text_on : (actions : List Action) (i : ℕ) (a : Action) (old mid new : List ℕ) → i < length actions → a ≡ get_or actions i a → mid ≡ old ++ action_text (take i actions) → new ≡ mid ++ action_line a → new ≡ old ++ action_text (take (i + 1) actions)
text_on actions i a old mid new inside is before added =
    let next : take (i + 1) actions ≡ take i actions ++ a ∷ [] = take_more actions i a inside ∙ ap (λ x. take i actions ++ x ∷ []) (sym is) in
    added ∙ ap (λ t. t ++ action_line a) before ∙ flat_map_more action_line old (take i actions) a ∙ ap (λ xs. old ++ action_text xs) (sym next)

pub text_all : (actions : List Action) (i : ℕ) (old new : List ℕ) → length actions ≤ i → new ≡ old ++ action_text (take i actions) → new ≡ old ++ action_text actions
text_all actions i old new end added = added ∙ ap (λ xs. old ++ action_text xs) (take_all i actions end)

-- WHAT SAYS SOMETHING

module _ (a : Action) (out : List ℕ) where
  pub said_none : is_said a ≡ false → out ≡ out ++ said_text (a ∷ [])
  said_none is = sym (append-nil out) ∙ ap (λ b. out ++ action_text (cond b (a ∷ []) [])) (sym is)

  pub said_one : (new : List ℕ) → is_said a ≡ true → new ≡ out ++ action_line a → new ≡ out ++ said_text (a ∷ [])
  said_one new is added = added ∙ ap (λ t. out ++ t) (sym (append-nil (action_line a))) ∙ ap (λ b. out ++ action_text (cond b (a ∷ []) [])) (sym is)

pub said_on : (actions : List Action) (i : ℕ) (a : Action) (old mid new : List ℕ) → i < length actions → a ≡ get_or actions i a → mid ≡ old ++ said_text (take i actions) → new ≡ mid ++ said_text (a ∷ []) → new ≡ old ++ said_text (take (i + 1) actions)
said_on actions i a old mid new inside is before added =
    let next : take (i + 1) actions ≡ take i actions ++ a ∷ [] = take_more actions i a inside ∙ ap (λ x. take i actions ++ x ∷ []) (sym is) in
    added ∙ ap (λ t. t ++ said_text (a ∷ [])) before ∙ append_assoc old (said_text (take i actions)) (said_text (a ∷ []))
    ∙ ap (λ t. old ++ t) (sym (said-append (take i actions) (a ∷ [])) ∙ ap said_text (sym next))

pub said_all : (actions : List Action) (i : ℕ) (old new : List ℕ) → length actions ≤ i → new ≡ old ++ said_text (take i actions) → new ≡ old ++ said_text actions
said_all actions i old new end added = added ∙ ap (λ xs. old ++ said_text xs) (take_all i actions end)

-- ONE EVENT

pub told_as : (p watch : Program) (s : SystemState) (w : World) (e : Event) (system : System) (watcher : Watcher) (acts seen none heard said_acts : List Action) (old mid new : List ℕ) → HasStepped (sys_step p s e) system [] acts → seen ≡ acts
    → HasDone watch (hears_all watch w (handed watch seen)) watcher none heard → none ≡ [] → said_acts ≡ heard → mid ≡ old ++ action_text seen → new ≡ mid ++ said_text said_acts → WasTold p watch s w e system watcher old new
told_as p watch s w e system watcher acts seen none heard said_acts old mid new stepped same done empty also first second =
    let is : seen ≡ stepped.after.actions = same ∙ stepped.added in
    let does : List Action → List Action = λ xs. (hears_all watch w (handed watch xs)).actions in
    let hears : said_acts ≡ does stepped.after.actions = also ∙ done.added ∙ ap (λ xs. xs ++ does seen) empty ∙ ap does is in
    record {
      after = stepped.after;
      is = stepped.is;
      stands = stepped.stands;
      come = subst (λ xs. HasCome watch (hears_all watch w (handed watch xs)).world watcher) is done.come;
      text =
          second ∙ ap (λ xs. mid ++ said_text xs) hears ∙ ap (λ t. t ++ said_text (does stepped.after.actions)) (first ∙ ap (λ xs. old ++ action_text xs) is)
          ∙ append_assoc old (action_text stepped.after.actions) (said_text (does stepped.after.actions))
          ∙ ap (λ t. old ++ t) (sym (text-append stepped.after.actions (filter is_said (does stepped.after.actions))));
    }

-- EVENT BY EVENT

-- the events before this place were told
pub record ToldTo (p watch : Program) (s : SystemState) (w : World) (events : List Event) (place : ℕ) (system : System) (watcher : Watcher) (old new : List ℕ) : Type 0 where
  pub now : SystemState
  pub at : World
  pub stands : Stands system now
  pub come : HasCome watch at watcher
  pub text : old ++ action_text (told_from p watch 1 s w events) ≡ new ++ action_text (told_from p watch (place + 1) now at (drop place events))
  pub stop : (src_run_from p 1 s events).stop ≡ (src_run_from p (place + 1) now (drop place events)).stop

pub told_first : (p watch : Program) (s : SystemState) (w : World) (events : List Event) (system : System) (watcher : Watcher) (old : List ℕ) → Stands system s → HasCome watch w watcher → ToldTo p watch s w events 0 system watcher old old
told_first p watch s w events system watcher old stands come = record { now = s; at = w; stands = stands; come = come; text = refl; stop = refl }

module _ (p watch : Program) (s : SystemState) (w : World) (events : List Event) (place : ℕ) (system : System) (watcher : Watcher) (old mid : List ℕ) (so : ToldTo p watch s w events place system watcher old mid) where
  abbrev rest : List Event
  rest = drop (place + 1) events

  -- no event is left
  pub told_ends : (q : Program) (new : List ℕ) → q ≡ p → length events ≤ place → new ≡ mid ++ action_text (told_at_end q watch so.now so.at) → AreTold p watch s w events None old new
  told_ends q new same end added = record {
    stops = sym (so.stop ∙ ap (λ es. (src_run_from p (place + 1) so.now es).stop) (drop_all place events end));
    text =
        added ∙ ap (λ (x : Program). mid ++ action_text (told_at_end x watch so.now so.at)) same
        ∙ sym (so.text ∙ ap (λ es. mid ++ action_text (told_from p watch (place + 1) so.now so.at es)) (drop_all place events end));
  }

  -- the event that comes next
  module _ (q : Program) (same : q ≡ p) (other : Event) (inside : place < length events) where
    abbrev next : Event
    next = get_or events place other

    left_text : (step : Option AfterEvent) → sys_step q so.now next ≡ step
        → told_from p watch (place + 1) so.now so.at (drop place events) ≡ at_event (place + 1) watch so.at step (λ n a. told_from p watch (place + 1 + 1) n a rest)
    left_text step is =
        ap (told_from p watch (place + 1) so.now so.at) (drop_more events place other inside)
        ∙ ap (λ st. at_event (place + 1) watch so.at st (λ n a. told_from p watch (place + 1 + 1) n a rest)) (ap (λ x. sys_step x so.now next) (sym same) ∙ is)

    left_stop : (step : Option AfterEvent) → sys_step q so.now next ≡ step
        → (src_run_from p (place + 1) so.now (drop place events)).stop ≡ (source.at_event (place + 1) so.now step (λ n. src_run_from p (place + 1 + 1) n rest)).stop
    left_stop step is =
        ap (λ es. (src_run_from p (place + 1) so.now es).stop) (drop_more events place other inside)
        ∙ ap (λ st. (source.at_event (place + 1) so.now st (λ n. src_run_from p (place + 1 + 1) n rest)).stop) (ap (λ x. sys_step x so.now next) (sym same) ∙ is)

    pub told_on : (allowed : Bool) (system_next : System) (watcher_next : Watcher) (new : List ℕ) → IsEventTold q watch so.now so.at next allowed system_next watcher_next mid new → allowed ≡ true
        → ToldTo p watch s w events (place + 1) system_next watcher_next old new
    told_on false system_next watcher_next new tried is = absurd (false≢true is)
    told_on true system_next watcher_next new tried is =
        let acts = tried.after.actions in
        let heard = hears_all watch so.at (handed watch acts) in
        let left = told_from p watch (place + 1 + 1) tried.after.state heard.world rest in
        record {
          now = tried.after.state;
          at = heard.world;
          stands = tried.stands;
          come = tried.come;
          text =
              so.text ∙ ap (λ xs. mid ++ action_text xs) (left_text (Some tried.after) tried.is) ∙ ap (λ t. mid ++ t) (text-append (acts ++ said heard) left)
              ∙ sym (append_assoc mid (action_text (acts ++ said heard)) (action_text left)) ∙ ap (λ t. t ++ action_text left) (sym tried.text);
          stop = so.stop ∙ left_stop (Some tried.after) tried.is;
        }

    -- it is not allowed
    pub told_stops : (allowed : Bool) (system_next : System) (watcher_next : Watcher) (kept new : List ℕ) → IsEventTold q watch so.now so.at next allowed system_next watcher_next mid kept → allowed ≡ false → new ≡ kept ++ action_text (Stop (place + 1) ∷ [])
        → AreTold p watch s w events (Some (place + 1)) old new
    told_stops true system_next watcher_next kept new tried is added = absurd (false≢true (sym is))
    told_stops false system_next watcher_next kept new tried is added = record {
      stops = sym (so.stop ∙ left_stop None tried.is);
      text = added ∙ ap (λ t. t ++ action_text (Stop (place + 1) ∷ [])) tried.same ∙ sym (so.text ∙ ap (λ xs. mid ++ action_text xs) (left_text None tried.is));
    }

-- THE END

module _ (p watch : Program) (s : SystemState) (w : World) (sound : IsSoundState p s) (rests : Bool) (both : IsTrue rests ↔ IsAtRest p s) (old : List ℕ) where
  pub end_goes_on : rests ≡ false → old ≡ old ++ action_text (told_at_end p watch s w)
  end_goes_on is = sym (append-nil old) ∙ ap (λ b. old ++ action_text (cond b (said (hears_all watch w (quiet watch))) [])) (sym is ∙ rest_is p s sound rests both)

  pub end_rests : (watcher : Watcher) (none heard said_acts : List Action) (new : List ℕ) → rests ≡ true → HasDone watch (hears_all watch w (quiet watch)) watcher none heard → none ≡ [] → said_acts ≡ heard → new ≡ old ++ said_text said_acts
      → new ≡ old ++ action_text (told_at_end p watch s w)
  end_rests watcher none heard said_acts new is done empty also added =
      let last = hears_all watch w (quiet watch) in
      let hears : said_acts ≡ last.actions = also ∙ done.added ∙ ap (λ xs. xs ++ last.actions) empty in
      added ∙ ap (λ xs. old ++ said_text xs) hears ∙ ap (λ b. old ++ action_text (cond b (said last) [])) (sym is ∙ rest_is p s sound rests both)

-- THE WHOLE

pub tells : (p watch : Program) (events : List Event) (stop : Option ℕ) (outcome : Outcome) (none begins slice : List Action) (empty first whole : List ℕ) → outcome ≡ outcome_of stop → begins ≡ none ++ (begun watch).actions → none ≡ [] → slice ≡ begins
    → empty ≡ [] → first ≡ empty ++ said_text slice → AreTold p watch (start p) (begun watch).world events stop first whole → IsTold p watch events outcome whole
tells p watch events stop outcome none begins slice empty first whole outcome_is began nothing same no_text said_first are =
    let acts = (begun watch).actions in
    let left = told_from p watch 1 (start p) (begun watch).world events in
    let says : slice ≡ acts = same ∙ began ∙ ap (λ xs. xs ++ acts) nothing in
    record {
      outcome_is = outcome_is ∙ ap outcome_of are.stops;
      text =
          are.text ∙ ap (λ t. t ++ action_text left) (said_first ∙ ap (λ t. t ++ said_text slice) no_text ∙ ap said_text says)
          ∙ sym (text-append (said (begun watch)) left);
    }

pub ended_at : (stop : Option ℕ) → HasEnded (outcome_of stop)
ended_at None = tt
ended_at (Some i) = tt

-- no write failed
pub ended_cause : {P : Type 0} (before now : ℕ) (outcome : Outcome) → HasEnded outcome → HasCause before now P → (P → ⊥) → HasCause before now (outcome ≡ WriteFault)
ended_cause before now outcome ended cause never = cause_as before now (λ p. absurd (never p)) (λ is. absurd (subst HasEnded is ended)) cause
