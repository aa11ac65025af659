-- Text that waits before it is written, and the run that it is of.
use Rattle.std.specs.Prelude.{◌≡◌, ℕ, ◌+◌, ◌<◌, ◌≤◌, Bool, true, false, List, [], ◌∷◌, ◌++◌, get_or, length, Option, Some, refl, OnErr, Result, Ok, Err}
use Rattle.std.proofs.Common.{ap, sym, subst, ◌∙◌, append-nil, append_assoc}
use Rattle.da_lang.specs.declared.event.Action.TheVariants.{Stop}
use Rattle.da_lang.specs.declared.event.Event.{Event}
use Rattle.da_lang.specs.declared.program.Program.{Program}
use Rattle.da_outside.specs.Outside.{Appends, AppendsPrefix}
use Rattle.da_outside.proofs.OutsideLemmas.{appends_none, appends_then, prefix_after, prefix_none}
use Rattle.da_system.specs.declared.system.System.{System}
use Rattle.da_system.specs.State.{Stands}
use Rattle.da_system.specs.SystemStep.{SystemState}
use Rattle.replay_run.specs.declared.outcome.Outcome.{Outcome}
use Rattle.replay_run.specs.declared.outcome.Outcome.TheVariants.{Done, Forbidden}
use Rattle.replay_run.specs.Replay.{HasRun, IsTried, run_text}
use Rattle.replay_run.specs.Waiting.{Waits}
use Rattle.replay_run.proofs.RunLemmas.{Came, came_first, came_on, ran_all, stops_here, told_front}
use Rattle.sched_text.specs.ActionText.{action_text}

same_text : (xs ys : List ℕ) → ◌≡◌ {A = Option (List ℕ)} (Some xs) (Some ys) → xs ≡ ys
same_text xs ys e = cc

module _ {A E : Type 0} where
  -- what holds in any case holds of an error
  pub on_err : (result : Result A E) (P : Type 0) → P → OnErr result P
  on_err (Ok x) P holds = tt
  on_err (Err e) P holds = holds

-- WHAT WAITS

module _ (before now : Option (List ℕ)) (rest whole : List ℕ) (waits : Waits before now rest whole) where
  more_waits : (more : List ℕ) → Waits before now (rest ++ more) (whole ++ more)
  more_waits more = record {
    front = waits.front;
    is = ap (λ z. z ++ more) waits.is ∙ append_assoc waits.front rest more;
    taken = waits.taken;
  }

  -- it was written
  all_taken : (new : Option (List ℕ)) → Appends now new rest → Appends before new whole
  all_taken new written = subst (Appends before new) (sym waits.is) (appends_then before now new waits.front rest waits.taken written)

  pub none_waits : (new : Option (List ℕ)) → Appends now new rest → Waits before new [] whole
  none_waits new written = record { front = whole; is = sym (append-nil whole); taken = all_taken new written }

  -- a prefix of it was
  some_taken : (new : Option (List ℕ)) → AppendsPrefix now new rest → AppendsPrefix before new whole
  some_taken new front = subst (AppendsPrefix before new) (sym waits.is) (prefix_after before now new waits.front rest waits.taken front)

-- THE RUN

-- What an event adds to a text it adds to another one.
record Shifted (program : Program) (s : SystemState) (e : Event) (allowed : Bool) (system : System) (text longer whole : List ℕ) : Type 0 where
  more : List ℕ
  grown : longer ≡ text ++ more
  tried : IsTried program s e allowed system (Some whole) (Some (whole ++ more))

shifted : (program : Program) (s : SystemState) (e : Event) (allowed : Bool) (system : System) (text longer whole : List ℕ) → IsTried program s e allowed system (Some text) (Some longer)
    → Shifted program s e allowed system text longer whole
shifted program s e true system text longer whole done = record {
  more = action_text done.then'.actions;
  grown = same_text longer (text ++ action_text done.then'.actions) done.written;
  tried = record { then' = done.then'; is = done.is; stands = done.stands; written = refl };
}
shifted program s e false system text longer whole tried = record {
  more = [];
  grown = same_text longer text tried.unwritten ∙ sym (append-nil text);
  tried = record { is = tried.is; stands = tried.stands; unwritten = ap Some (append-nil whole) };
}

-- a run whose text was kept, and then was written
told_to : (program : Program) (s : SystemState) (events : List Event) (how : Outcome) (system : System) (before new : Option (List ℕ)) (whole : List ℕ) → HasRun program s events how system (Some []) (Some whole)
    → Appends before new whole → HasRun program s events how system before new
told_to program s events how system before new whole ran written = record {
  outcome_is = ran.outcome_is;
  stands = ran.stands;
  written = subst (Appends before new) (same_text whole (run_text program s events) ran.written) written;
}

-- The run from the first state has come to this place, and of its text so far a sink gained the front and the rest waits.
pub record ComeTo (program : Program) (s : SystemState) (events : List Event) (place : ℕ) (system : System) (before now : Option (List ℕ)) (text : List ℕ) : Type 0 where
  pub whole : List ℕ
  pub came : Came program s events place system (Some []) (Some whole)
  pub waits : Waits before now text whole

pub come_first : (program : Program) (s : SystemState) (events : List Event) (system : System) (taken : Option (List ℕ)) (text : List ℕ) → text ≡ [] → Stands system s → ComeTo program s events 0 system taken taken text
come_first program s events system taken text none stands = record {
  whole = [];
  came = came_first program s events system (Some []) stands;
  waits = record { front = []; is = sym none; taken = appends_none taken };
}

module _ (program : Program) (s : SystemState) (events : List Event) (place : ℕ) (system : System) (before now : Option (List ℕ)) (text : List ℕ) (come : ComeTo program s events place system before now text) where
  -- a prefix of the text so far is one of the whole
  of_run : (new : Option (List ℕ)) → AppendsPrefix before new come.whole → AppendsPrefix before new (run_text program s events)
  of_run new front =
      told_front program s events place system (Some []) (Some come.whole) come.came come.whole
      (same_text come.whole (action_text come.came.told) come.came.written) before new front

  -- a prefix of what waits was written, or nothing
  pub some_written : (new : Option (List ℕ)) → AppendsPrefix now new text → AppendsPrefix before new (run_text program s events)
  some_written new front = of_run new (some_taken before now text come.whole come.waits new front)

  pub none_written : AppendsPrefix before now (run_text program s events)
  none_written = some_written now (prefix_none now text)

  -- it is passed on
  pub passed_on : (new : Option (List ℕ)) (left : List ℕ) → ((first : Option (List ℕ)) (whole : List ℕ) → Waits first now text whole → Waits first new left whole) → ComeTo program s events place system before new left
  passed_on new left passes = record { whole = come.whole; came = come.came; waits = passes before come.whole come.waits }

  -- no event is left, and all was written
  pub ran_whole : (how : Outcome) → how ≡ Done → length events ≤ place → (new : Option (List ℕ)) → Appends now new text → HasRun program s events how system before new
  ran_whole how is end new written =
      subst (λ h. HasRun program s events h system before new) (sym is)
      (told_to program s events Done system before new come.whole (ran_all program s events place system (Some []) (Some come.whole) come.came end)
      (all_taken before now text come.whole come.waits new written))

  -- the event that comes next
  module _ (p : Program) (same : p ≡ program) (other : Event) (inside : place < length events) (allowed : Bool) (next_system : System) (longer : List ℕ)
      (tried : IsTried p come.came.now (get_or events place other) allowed next_system (Some text) (Some longer)) where
    after : Shifted p come.came.now (get_or events place other) allowed next_system text longer come.whole
    after = shifted p come.came.now (get_or events place other) allowed next_system text longer come.whole tried

    abbrev longer_whole : List ℕ
    longer_whole = come.whole ++ after.more

    waits_on : Waits before now longer longer_whole
    waits_on = subst (λ z. Waits before now z longer_whole) (sym after.grown) (more_waits before now text come.whole come.waits after.more)

    pub come_on : allowed ≡ true → ComeTo program s events (place + 1) next_system before now longer
    come_on is = record {
      whole = longer_whole;
      came = came_on program s events place system (Some []) (Some come.whole) come.came p same other inside allowed next_system (Some longer_whole) after.tried is;
      waits = waits_on;
    }

    -- it is not allowed, and the line says so
    abbrev line : List ℕ
    line = action_text (Stop (place + 1) ∷ [])

    stopped : allowed ≡ false → (how : Outcome) → how ≡ Forbidden (place + 1) → HasRun program s events how next_system (Some []) (Some (longer_whole ++ line))
    stopped is how ends =
        stops_here program s events place system (Some []) (Some come.whole) come.came p same other inside allowed next_system (Some longer_whole) (Some (longer_whole ++ line))
        after.tried is how ends refl

    line_waits : Waits before now (longer ++ line) (longer_whole ++ line)
    line_waits = more_waits before now longer longer_whole waits_on line

    pub stop_written : allowed ≡ false → (how : Outcome) → how ≡ Forbidden (place + 1) → (new : Option (List ℕ)) → Appends now new (longer ++ line) → HasRun program s events how next_system before new
    stop_written is how ends new written =
        told_to program s events how next_system before new (longer_whole ++ line) (stopped is how ends)
        (all_taken before now (longer ++ line) (longer_whole ++ line) line_waits new written)

    pub stop_begun : allowed ≡ false → (new : Option (List ℕ)) → AppendsPrefix now new (longer ++ line) → AppendsPrefix before new (run_text program s events)
    stop_begun is new front =
        subst (AppendsPrefix before new) (same_text (longer_whole ++ line) (run_text program s events) (stopped is (Forbidden (place + 1)) refl).written)
        (some_taken before now (longer ++ line) (longer_whole ++ line) line_waits new front)
