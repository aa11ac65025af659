-- The arrival of a message: what the process knows and how it stands after the handlers.
use Rattle.std.proofs.Common.{◌≡◌, ℕ, List, [], ◌∷◌, ◌++◌, sym, ap, ◌∙◌, subst, append_assoc, append-nil}
use Rattle.da_values.specs.Value.{val_of}
use Rattle.da_lang.specs.declared.event.Action.{Action}
use Rattle.da_lang.specs.declared.event.Action.TheVariants as action
use Rattle.da_lang.specs.declared.program.Class.{Class}
use Rattle.da_lang.specs.declared.program.Program.{Program}
use Rattle.da_lang.specs.Runs.{Halt, AtYield, Faults, Ran}
use Rattle.da_lang.specs.Steps.{closing, phase_after}
use Rattle.da_lang.specs.World.{Data, Task}
use Rattle.da_types.proofs.shaped.DataKept.{received_shaped}
use Rattle.da_machine.specs.RunsTo.{AddsPrefix}
use Rattle.da_machine.proofs.Prefixes.{prefix_before}
use Rattle.da_core.specs.declared.compiled.ClassCode.{ClassCode}
use Rattle.da_core.specs.declared.deliveries.Delivery.{Delivery}
use Rattle.da_core.specs.declared.deliveries.Handled.{Handled}
use Rattle.da_core.specs.declared.deliveries.Handled.TheVariants as handled
use Rattle.da_core.specs.declared.known.Known.{Known}
use Rattle.da_core.specs.declared.place.Place.{Place}
use Rattle.da_core.specs.Arrivals.{CanHandle, HasHandled, HasTakenIn, MayHandle, MayTakeIn, Whoever, all_handled, delivery_actions, halt_of, received, stop_of, untold}
use Rattle.da_core.specs.Begins.{HasStopped, MayStop}
use Rattle.da_core.specs.Known.{Becomes, Knows, KnowsSome}
use Rattle.da_core.specs.StandsFor.{IsPlace}
use Rattle.da_core.proofs.KnownLaws.{me_is, with_actions}
use Rattle.da_core.proofs.Stopping.{has_point, place_there, run_prefix, stop_prefix}

-- what is kept before the message arrives stands for a process
pub may_know : (x : Delivery) (time at : ℕ) (old : Known) (p : Program) (d : Data) (todo : List Task) → MayTakeIn p x time at old d todo → KnowsSome old
may_know x time at old p d todo may = (p, x.class.now, d, may.can.knows)

-- a prefix of the actions that are due was added, whatever the process is
abbrev pub TakenPart : Delivery → ℕ → ℕ → Known → List Action → Type 0
TakenPart x time at old new =
    (p : Program) (d : Data) (todo : List Task) → MayTakeIn p x time at old d todo → AddsPrefix old.actions new (delivery_actions untold x time old.answers.me (all_handled x (received x time d)))

pub received_prefix : (x : Delivery) (time : ℕ) (old : Known) (d : Data) (new : List Action) → AddsPrefix old.actions new (action.Got old.answers.me x.from time untold ∷ [])
    → AddsPrefix old.actions new (delivery_actions untold x time old.answers.me (all_handled x (received x time d)))
received_prefix x time old d new front =
    let ran = all_handled x (received x time d) in
    prefix_before old.actions new (action.Got old.answers.me x.from time untold ∷ []) (ran.actions ++ closing old.answers.me ran.halt) front

-- the process before the message arrives, and when it has joined the history
module _ (x : Delivery) (time at : ℕ) (old : Known) (p : Program) (d : Data) (todo : List Task) (may : MayTakeIn p x time at old d todo) (got : Known)
    (joins : Becomes old got (received x time)) (told : got.actions ≡ old.actions ++ action.Got old.answers.me x.from time untold ∷ []) where
  abbrev class : Class
  class = x.class.now

  abbrev code : ClassCode
  code = x.code.now

  abbrev ran : Ran
  ran = all_handled x (received x time d)

  abbrev first : Action
  first = action.Got old.answers.me x.from time untold

  may_then : MayHandle p x got (received x time d)
  may_then =
      let can = may.can in
      record {
        accepted = can.accepted;
        knows = joins p class d can.knows;
        shaped = received_shaped p class (val_of x.message.now) x.from time d can.shaped (record { proper = can.arrives.proper; typed = can.arrives.typed; peer = can.arrives.peer });
        among = can.among;
        forward = can.forward;
        enters = can.enters;
        arrives = can.arrives;
      }

  pub can_then : CanHandle x got
  can_then = (p, received x time d, may_then)

  pub handled_prefix : (new : List Action) → Whoever x got (λ p d. AddsPrefix got.actions new (all_handled x d).actions) → AddsPrefix old.actions new (delivery_actions untold x time old.answers.me ran)
  handled_prefix new front =
      run_prefix old.actions new ran.actions (closing old.answers.me ran.halt) first
      (subst (λ xs. AddsPrefix xs new ran.actions) told (front p (received x time d) may_then))

  pub may_stop : (answer : Handled) → MayStop code (stop_of answer may.number)
  may_stop (handled.Through turns) = has_point code class may.number may.point.0 may.waits todo may.point.1
  may_stop (handled.Fault kind line) = tt

  -- after the handlers
  module _ (now : Known) (answer : Handled) (handlers : Whoever x got (λ p d. HasHandled p x (all_handled x d) got now answer)) where
    had : HasHandled p x ran got now answer
    had = handlers p (received x time d) may_then

    same_me : now.answers.me ≡ old.answers.me
    same_me = had.mine ∙ sym (me_is got p class (received x time d) may_then.knows) ∙ me_is old p class d may.can.knows

    so_far : now.actions ≡ (old.actions ++ first ∷ []) ++ ran.actions
    so_far = had.actions ∙ ap (λ xs. xs ++ ran.actions) told

    pub stop_prefix_of : (new : List Action) → new ≡ now.actions → AddsPrefix old.actions new (delivery_actions untold x time old.answers.me ran)
    stop_prefix_of new stays = stop_prefix old.actions now.actions new ran.actions (closing old.answers.me ran.halt) first so_far stays

    closed : (new : Known) (halt : Halt) → ran.halt ≡ halt → new.actions ≡ now.actions ++ closing old.answers.me halt → new.actions ≡ old.actions ++ delivery_actions untold x time old.answers.me ran
    closed new halt is closes =
        closes ∙ ap (λ xs. xs ++ closing old.answers.me halt) so_far ∙ append_assoc (old.actions ++ first ∷ []) ran.actions (closing old.answers.me halt)
        ∙ append_assoc old.actions (first ∷ []) (ran.actions ++ closing old.answers.me halt) ∙ ap (λ h. old.actions ++ ((first ∷ ran.actions) ++ closing old.answers.me h)) (sym is)

    by_answer : (a : Handled) → ran.halt ≡ halt_of a → (new : Known) (spot : Place) → HasStopped code now new (stop_of a may.number) spot → HasTakenIn untold p x time d todo old new spot
    by_answer (handled.Through turns) halts new spot stopped =
        let (stays, stands) = stopped in
        record {
          known = subst (λ k. Knows k p class ran.data') (sym stays) had.known;
          actions = closed new AtYield halts (ap (λ (k : Known). k.actions) stays ∙ sym (append-nil now.actions));
          stands =
              subst (λ h. IsPlace todo spot (phase_after h)) (sym halts)
              (place_there code class may.number may.point.0 may.waits spot stands todo may.point.1);
        }
    by_answer (handled.Fault kind line) halts new spot stopped =
        let (becomes, place_is) = stopped in
        record {
          known = subst (λ k. Knows k p class ran.data') (sym becomes) (with_actions now p class ran.data' had.known (now.actions ++ action.Fault now.answers.me kind line ∷ []));
          actions = closed new (Faults kind line) halts (ap (λ (k : Known). k.actions) becomes ∙ ap (λ me. now.actions ++ action.Fault me kind line ∷ []) same_me);
          stands =
              subst (λ h. IsPlace todo spot (phase_after h)) (sym halts)
              (subst (λ at'. IsPlace todo at' (phase_after (Faults kind line))) (sym place_is) tt);
        }

    pub taken : (new : Known) (spot : Place) → HasStopped code now new (stop_of answer may.number) spot → HasTakenIn untold p x time d todo old new spot
    taken new spot stopped = by_answer answer had.halt new spot stopped
