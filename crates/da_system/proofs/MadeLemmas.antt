-- The step of a process in code, within the network: its core stands for the world after it, and what it sent has to go into
-- the channels. These may be other ones than before, as where a message was taken out.
use Rattle.std.proofs.Common.{◌≡◌, refl, sym, ◌∙◌, ap, subst, ℕ, zero, suc, ◌≤◌, false, List, [], ◌∷◌, ◌++◌, length, drop, arith}
use Rattle.std.specs.Prelude.{Option, Some, None, IfSome}
use Rattle.std.specs.List.{All}
use Rattle.std.proofs.lemmas.List.Elements.{All-head, All-tail}
use Rattle.da_lang.specs.declared.event.Action.{Action}
use Rattle.da_lang.specs.declared.event.Action.TheVariants as act
use Rattle.da_lang.specs.declared.event.Event.{Event}
use Rattle.da_lang.specs.declared.event.Event.TheVariants as event
use Rattle.da_lang.specs.declared.program.Program.{Program}
use Rattle.da_lang.specs.Shaped.{IsProcess, Shaped}
use Rattle.da_lang.specs.Steps.{Step, move_step, proc_step}
use Rattle.da_lang.specs.World.{World, at_number}
use Rattle.da_types.specs.KeepsShaped.{MayStep, MayTell, StepsShaped}
use Rattle.da_types.proofs.sound.AcceptedShaped.{keeps_shaped}
use Rattle.da_machine.proofs.Prefixes.{full_prefix}
use Rattle.da_core.specs.declared.place.Stopped.{Stopped}
use Rattle.da_core.specs.declared.process.Core.{Core}
use Rattle.da_core.specs.Made as made
use Rattle.da_core.specs.StandsFor as process
use Rattle.da_system.specs.declared.network.Network.{Network}
use Rattle.da_system.specs.Channels.{Channels, after_actions, put_numbered}
use Rattle.da_system.specs.Queues.{AreSent, IsSent}
use Rattle.da_system.specs.Queues as queues
use Rattle.da_system.specs.SoundState.{IsSoundState, LeadsOn}
use Rattle.da_system.specs.Network.{HasBegun, HasStepped, StandFrom, Stands, StandsAt, program_of}
use Rattle.da_system.specs.SystemStep.{AfterEvent, SystemState, process_step, step_of, stepped, sys_step}
use Rattle.da_system.proofs.AcceptedStates.{sound_steps}
use Rattle.da_system.proofs.PlaceLemmas.{numbered_within}
use Rattle.da_system.proofs.StandLemmas.{core_at, core_put, stands_on}
use Rattle.da_system.proofs.SystemLaws.{length-put}
use Rattle.da_system.proofs.WorldLemmas.{all_numbered}

-- what a process tells goes from one of the processes to one of them
module _ (program : Program) (me : ℕ) (is : IsProcess program me) where
  told_sent : (a : Action) → MayTell program me a → IsSent (length program.procs) a
  told_sent (act.Sent p q t m) may = (subst (IsProcess program) (sym may.from_me) is, may.there)
  told_sent _ may = tt

  all_sent : (actions : List Action) → All (MayTell program me) actions → AreSent (length program.procs) actions
  all_sent [] tells = tt
  all_sent (a ∷ others) tells = (told_sent a (All-head (MayTell program me) a others tells), all_sent others (All-tail (MayTell program me) a others tells))

drop_after : {A : Type 0} (xs ys : List A) → drop (length xs) (xs ++ ys) ≡ ys
drop_after [] ys = refl
drop_after (x ∷ xs) ys = drop_after xs ys

not_less : {A : Type 0} (xs ys : List A) → length xs ≤ length (xs ++ ys)
not_less [] ys = omega arith
not_less (x ∷ xs) ys = let rest : length xs ≤ length (xs ++ ys) = not_less xs ys in omega (arith, rest)

-- each event that is allowed leads to a sound state
pub sound_after : (network : Network) (s : SystemState) → Stands network s → (e : Event) (after : AfterEvent) → sys_step (program_of network) s e ≡ Some after → IsSoundState (program_of network) after.state
sound_after network s stands e after is =
    (subst (λ (o : Option AfterEvent). IfSome o (LeadsOn (program_of network) s e)) is (sound_steps (program_of network) stands.compiled.accepted s e stands.sound)).sound

pub move_sound : (network : Network) (s : SystemState) → Stands network s → (p k : ℕ) (after : AfterEvent) → process_step (program_of network) s p (move_step k) ≡ Some after → IsSoundState (program_of network) after.state
move_sound network s stands p zero after is = sound_after network s stands (event.Move p) after is
move_sound network s stands p (suc k) after is = sound_after network s stands (event.Take p (suc k)) after is

pub move_may : (program : Program) (k : ℕ) → MayStep program (move_step k)
move_may program zero = tt
move_may program (suc k) = tt

module _ (network : Network) (s : SystemState) (stands : Stands network s) (target : Option AfterEvent) (base : Channels) (p : ℕ) (step : Step)
    (is : target ≡ process_step (program_of network) (record s { channels = base }) p step) (core : Core) (there : at_number network.cores.items p ≡ Some core) where
  abbrev program : Program
  program = program_of network

  its : (w : World) × (at_number s.worlds p ≡ Some w) × StandsAt program p core w
  its = core_at program network.cores.items s.worlds p core stands.cores there

  step_is : target ≡ stepped (record s { channels = base }) p (proc_step (process.program_of core) its.0 step)
  step_is =
      is ∙ ap (λ (o : Option World). step_of program (record s { channels = base }) p o step) its.1
      ∙ ap (λ (q : Program). stepped (record s { channels = base }) p (proc_step q its.0 step)) (sym its.2.same)

  pub core_stands : (w : World) × process.StandsFor core w
  core_stands = (its.0, its.2.stands)

  pub core_program : process.program_of core ≡ program
  core_program = its.2.same

  pub core_forbids : process.Whichever core (λ w. proc_step (process.program_of core) w step ≡ None) → target ≡ None
  core_forbids none = step_is ∙ ap (stepped (record s { channels = base }) p) (none its.0 its.2.stands)

  pub core_begins : (old new : List Action) → process.Whichever core (λ w. made.HasBegun core w step old new) → HasBegun target old new
  core_begins old new begun =
      let has = begun its.0 its.2.stands in
      record { after = _; is = step_is ∙ ap (stepped (record s { channels = base }) p) has.leads; front = has.front }

  -- the core has made the step
  module _ (next : Core) (answer : Stopped) (old new : List Action) (done : process.Whichever core (λ w. made.HasMade core w step next answer old new)) where
    has : made.HasMade core its.0 step next answer old new
    has = done its.0 its.2.stands

    abbrev after_it : AfterEvent
    after_it = record { state = record s { worlds = put_numbered s.worlds p has.after.world; channels = after_actions base has.after.actions }; actions = has.after.actions }

    after_is : target ≡ Some after_it
    after_is = step_is ∙ ap (stepped (record s { channels = base }) p) has.leads

    pub made_begun : HasBegun target old new
    made_begun = record { after = after_it; is = after_is; front = full_prefix old new has.after.actions has.added }

    pub made_longer : length old ≤ length new
    made_longer = subst (λ xs. length old ≤ length xs) (sym has.added) (not_less old has.after.actions)

    told_are : (n : ℕ) → n ≡ length old → drop n new ≡ has.after.actions
    told_are n same = ap (λ k. drop k new) same ∙ ap (drop (length old)) has.added ∙ drop_after old has.after.actions

    -- what it sent goes from one of the processes to one of them
    pub made_sends : MayStep program step → (n : ℕ) → n ≡ length old → (count : ℕ) → count ≡ length program.procs → AreSent count (drop n new)
    made_sends may n same count all =
        let shaped : Shaped program its.0 = subst (λ (o : Option World). IfSome o (Shaped program)) its.1 (all_numbered (Shaped program) s.worlds p stands.sound.worlds) in
        let leads : proc_step program its.0 step ≡ Some has.after = ap (λ (q : Program). proc_step q its.0 step) (sym its.2.same) ∙ has.leads in
        let stays : StepsShaped program its.0.data'.me has.after = (keeps_shaped program stands.compiled.accepted).steps its.0 step has.after shaped may leads in
        let within = numbered_within network.cores.items p core there in
        let is_there : IsProcess program p = (within.0, subst (λ k. p ≤ k) stands.each within.1) in
        subst (λ k. AreSent k (drop n new)) (sym all) (subst (AreSent (length program.procs)) (sym (told_are n same))
        (all_sent program its.0.data'.me (subst (IsProcess program) (sym its.2.number) is_there) has.after.actions stays.tells))

    -- and once it is there, the network stands for the state after the step
    pub made_stands : process.program_of next ≡ process.program_of core → ((after : AfterEvent) → target ≡ Some after → IsSoundState program after.state)
        → (n : ℕ) → n ≡ length old → (left : Network) → left.spent ≡ false → left.compiled.now ≡ network.compiled.now → left.cores.items ≡ put_numbered network.cores.items p next
        → queues.count_of left.channels ≡ queues.count_of network.channels → queues.StandsFor left.channels (after_actions base (drop n new)) → HasStepped target left old new
    made_stands same sound n told left unspent compiled put count channels =
        let at : StandsAt program p next has.after.world = record { same = same ∙ its.2.same; number = has.same ∙ its.2.number; stands = has.stands } in
        let here : StandFrom program 1 (put_numbered network.cores.items p next) (put_numbered s.worlds p has.after.world) = core_put program network.cores.items s.worlds p next has.after.world stands.cores at in
        record {
          after = after_it;
          is = after_is;
          stands = stands_on network left s after_it.state stands unspent compiled (sound after_it after_is) (ap length put ∙ length-put network.cores.items p next)
              (subst (λ xs. StandFrom program 1 xs (put_numbered s.worlds p has.after.world)) (sym put) here) count
              (subst (λ xs. queues.StandsFor left.channels (after_actions base xs)) (told_are n told) channels);
          added = has.added;
        }
