-- The events of a generated schedule.
use Rattle.std.proofs.Common.{◌≡◌, refl, sym, ◌∙◌, ap, subst, ℕ, zero, suc, ◌+◌, ◌≤◌, List, [], ◌∷◌, ◌++◌, length, arith, append-nil, append_assoc}
use Rattle.std.specs.Prelude.{Option, Some, None, IsSome, is_some}
use Rattle.std.proofs.lemmas.Bool.{false≢true}
use Rattle.da_lang.specs.declared.event.Action.{Action}
use Rattle.da_lang.specs.declared.event.Event.{Event}
use Rattle.da_lang.specs.declared.program.Program.{Program}
use Rattle.da_system.specs.Choices.{choices}
use Rattle.da_system.specs.SourceRun.{SrcRun, and_then, at_event, src_run_from}
use Rattle.da_system.specs.StressRun.{StressRun, at_pick, next_number, pick, place_in, state_after, stress_from}
use Rattle.da_system.specs.SystemStep.{AfterEvent, SystemState, sys_step}
use Rattle.da_system.proofs.ChoiceLemmas.{is_choice}

module _ (program : Program) where
  -- an event that was picked is allowed
  pub pick_allowed : (s : SystemState) (x : ℕ) (e : Event) → pick (choices program s) x ≡ Some e → (after : AfterEvent) × (sys_step program s e ≡ Some after)
  pick_allowed s x e picks = of (sys_step program s e) refl
    where
      allowed : IsSome (sys_step program s e)
      allowed = is_choice program s (place_in (length (choices program s)) x) e picks

      of : (step : Option AfterEvent) → sys_step program s e ≡ step → (after : AfterEvent) × (sys_step program s e ≡ Some after)
      of None is = absurd (false≢true (sym (ap is_some is) ∙ allowed))
      of (Some after) is = (after, is)

  -- EACH EVENT IS ALLOWED, and there are at most as many as were asked for

  abbrev stop_of : ℕ → SystemState → List Event → Option ℕ
  stop_of i s es = (src_run_from program i s es).stop

  pub all_allowed : (n x i : ℕ) (s : SystemState) → stop_of i s (stress_from program n x s).events ≡ None
  all_allowed zero x i s = refl
  all_allowed (suc n) x i s = of (pick (choices program s) next) refl (λ after. all_allowed n next (i + 1) after.state)
    where
      next : ℕ
      next = next_number x

      behind : Event → StressRun
      behind e = stress_from program n next (state_after s (sys_step program s e))

      of : (o : Option Event) → pick (choices program s) next ≡ o → ((after : AfterEvent) → stop_of (i + 1) after.state (stress_from program n next after.state).events ≡ None)
          → stop_of i s (at_pick x o behind).events ≡ None
      of None is others = refl
      of (Some e) is others =
          let (after, allowed) = pick_allowed s next e is in
          let rest : Option AfterEvent → List Event = λ step. (stress_from program n next (state_after s step)).events in
          ap (λ step. (at_event i s step (λ state. src_run_from program (i + 1) state (rest step))).stop) allowed ∙ others after

  pub at_most : (n x : ℕ) (s : SystemState) → length (stress_from program n x s).events ≤ n
  at_most zero x s = omega arith
  at_most (suc n) x s = of (pick (choices program s) (next_number x)) (λ e. at_most n (next_number x) (state_after s (sys_step program s e)))
    where
      of : (o : Option Event) → ((e : Event) → length (stress_from program n (next_number x) (state_after s (sys_step program s e))).events ≤ n)
          → length (at_pick x o (λ e. stress_from program n (next_number x) (state_after s (sys_step program s e)))).events ≤ suc n
      of None few = omega arith
      of (Some e) few = let rest = few e in omega (arith, rest)

  -- ONE EVENT MORE

  -- after a run without a stop one more event that is allowed
  pub run_more : (es : List Event) (i : ℕ) (s : SystemState) (e : Event) (after : AfterEvent) → stop_of i s es ≡ None → sys_step program (src_run_from program i s es).state e ≡ Some after
      → src_run_from program i s (es ++ e ∷ []) ≡ record { actions = (src_run_from program i s es).actions ++ after.actions; stop = None; state = after.state }
  run_more [] i s e after goes is =
      ap (λ step. at_event i s step (λ state. record { actions = []; stop = None; state = state })) is
      ∙ ap (λ (actions : List Action). let run : SrcRun = record { actions = actions; stop = None; state = after.state } in run) (append-nil after.actions)
  run_more (x ∷ xs) i s e after goes is = of (sys_step program s x) goes is (λ state. run_more xs (i + 1) state e after)
    where
      go : List Event → SystemState → SrcRun
      go es state = src_run_from program (i + 1) state es

      of : (step : Option AfterEvent) → (at_event i s step (go xs)).stop ≡ None → sys_step program (at_event i s step (go xs)).state e ≡ Some after
          → ((state : SystemState) → stop_of (i + 1) state xs ≡ None → sys_step program (go xs state).state e ≡ Some after
          → go (xs ++ e ∷ []) state ≡ record { actions = (go xs state).actions ++ after.actions; stop = None; state = after.state })
          → at_event i s step (go (xs ++ e ∷ [])) ≡ record { actions = (at_event i s step (go xs)).actions ++ after.actions; stop = None; state = after.state }
      of None goes is others = absurd (let clash : ◌≡◌ {A = Option ℕ} (Some i) None = goes in cc)
      of (Some first) goes is others =
          ap (and_then first.actions) (others first.state goes is)
          ∙ ap (λ (actions : List Action). let run : SrcRun = record { actions = actions; stop = None; state = after.state } in run) (sym (append_assoc first.actions (go xs first.state).actions after.actions))

  -- what n turns pick, where the next number picks an event that is allowed, and where it picks none
  pub picks_one : (m n x : ℕ) (s : SystemState) (e : Event) (after : AfterEvent) → m ≡ suc n → pick (choices program s) (next_number x) ≡ Some e → sys_step program s e ≡ Some after
      → stress_from program m x s ≡ (let rest = stress_from program n (next_number x) after.state in record rest { events = e ∷ rest.events })
  picks_one m n x s e after is picks step =
      ap (λ k. stress_from program k x s) is
      ∙ ap (λ o. at_pick x o (λ e. stress_from program n (next_number x) (state_after s (sys_step program s e)))) picks
      ∙ ap (λ step. let rest = stress_from program n (next_number x) (state_after s step) in let run : StressRun = record rest { events = e ∷ rest.events } in run) step

  pub picks_none : (m x : ℕ) (s : SystemState) → pick (choices program s) (next_number x) ≡ None → stress_from program m x s ≡ record { events = []; last = x }
  picks_none zero x s none = refl
  picks_none (suc n) x s none = ap (λ o. at_pick x o (λ e. stress_from program n (next_number x) (state_after s (sys_step program s e)))) none
