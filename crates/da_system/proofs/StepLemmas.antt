-- The moves of a network in code, and what it tells, by the cores of its processes.
use Rattle.std.proofs.Common.{◌≡◌, refl, sym, ◌∙◌, ap, subst, ℕ, ◌<◌, ◌^◌, arith, Bool, true, false, List, [], ◌∷◌, ◌++◌}
use Rattle.std.specs.Prelude.{◌↔◌, Option, Some, None, IsSome, IsTrue, is_some}
use Rattle.std.proofs.lemmas.Bool.{false≢true}
use Rattle.da_lang.specs.declared.event.Action.{Action}
use Rattle.da_lang.specs.declared.event.Action.TheVariants.{Kept}
use Rattle.da_lang.specs.declared.event.Event.TheVariants as event
use Rattle.da_lang.specs.declared.program.Program.{Program}
use Rattle.da_lang.specs.Steps.{Deliver, Step, Take, proc_step}
use Rattle.da_lang.specs.World.{Data, World, at_number, class_of}
use Rattle.da_types.proofs.sound.AcceptedLaws.{is_sound}
use Rattle.da_machine.specs.RunsTo.{AddsPrefix}
use Rattle.da_core.specs.declared.process.Core.{Core}
use Rattle.da_core.specs.StandsFor as process
use Rattle.da_core.specs.Told.{answers_of, kept_of}
use Rattle.da_machine.proofs.Prefixes.{same_prefix}
use Rattle.da_system.specs.declared.network.Network.{Network}
use Rattle.da_system.specs.Channels.{Channels, MessageInFlight, channel, may_arrive, without_message}
use Rattle.da_system.specs.Looking.{answers_at}
use Rattle.da_system.specs.Network.{HasBegun, HasStepped, Stands, StandsAt, program_of}
use Rattle.da_system.specs.SystemStep.{SystemState, deliver, process_step, show, stat, step_of, stepped, sys_step, told}
use Rattle.da_system.proofs.AcceptedStates.{never_steps}
use Rattle.da_system.proofs.MessageLemmas.{arrives_is, stepped_some}
use Rattle.da_system.proofs.StandLemmas.{core_at, none_at, within, world_there}

module _ (network : Network) (s : SystemState) (stands : Stands network s) where
  abbrev program : Program
  program = program_of network

  abbrev cores : List Core
  cores = network.cores.items

  -- THE MOVE OF A PROCESS

  pub no_core : (p : ℕ) (step : Step) → at_number cores p ≡ None → process_step program s p step ≡ None
  no_core p step none = ap (λ (o : Option World). step_of program s p o step) (none_at program cores s.worlds p stands.cores none)

  -- the number of a process fits into 16 bits
  pub few_numbers : (p : ℕ) → is_some (at_number cores p) ≡ true → p < 2 ^ 16
  few_numbers p there = omega (arith, within cores p there, stands.each, (is_sound program stands.compiled.accepted).few)

  -- there is no alternative of number 0
  take_none : (p : ℕ) (found : Option World) → step_of program s p found (Take 0) ≡ None
  take_none p None = refl
  take_none p (Some w) = ap (stepped s p) (never_steps program w (class_of program w.data'.me))

  pub no_take : (p : ℕ) → sys_step program s (event.Take p 0) ≡ None
  no_take p = take_none p (at_number s.worlds p)

  -- a step is allowed exactly where its core says so, whatever is in the channels
  pub may_as : (base : Channels) (p : ℕ) (step : Step) (core : Core) → at_number cores p ≡ Some core → (b : Bool) → process.Whichever core (λ w. IsTrue b ↔ IsSome (proc_step (process.program_of core) w step))
      → (IsTrue b ↔ IsSome (process_step program (record s { channels = base }) p step))
  may_as base p step core there b may =
      let (w, at, its) = core_at program cores s.worlds p core stands.cores there in
      let both = may w its.stands in
      let same =
      ap is_some
      (ap (λ (o : Option World). step_of program (record s { channels = base }) p o step) at ∙ ap (λ (q : Program). stepped (record s { channels = base }) p (proc_step q w step)) (sym its.same))
      ∙ stepped_some (record s { channels = base }) p (proc_step (process.program_of core) w step) in
      (λ yes. same ∙ both.0 yes, λ some. both.1 (sym same ∙ some))

  -- and so is a delivery, where the kind allows it
  pub takes_as : (p q i : ℕ) (message : MessageInFlight) (core : Core) → at_number cores q ≡ Some core → at_number (channel s.channels p q) i ≡ Some message → may_arrive s.kind i ≡ true → (b : Bool)
      → process.Whichever core (λ w. IsTrue b ↔ IsSome (proc_step (process.program_of core) w (Deliver message.message p message.time))) → (IsTrue b ↔ IsSome (deliver program s p q i))
  takes_as p q i message core there found may b takes =
      let both = may_as (without_message s.channels p q i) q (Deliver message.message p message.time) core there b takes in
      let same = ap is_some (arrives_is network s stands p q i message found may) in
      (λ yes. same ∙ both.0 yes, λ some. both.1 (sym same ∙ some))

  -- WHAT IS TOLD

  pub none_told : (p : ℕ) (tell : Data → List Action) → at_number cores p ≡ None → told s (at_number s.worlds p) tell ≡ None
  none_told p tell none = ap (λ (o : Option World). told s o tell) (none_at program cores s.worlds p stands.cores none)

  -- what a core tells is told of the world that it stands for
  module _ (p : ℕ) (core : Core) (there : at_number cores p ≡ Some core) where
    its : (w : World) × (at_number s.worlds p ≡ Some w) × StandsAt program p core w
    its = core_at program cores s.worlds p core stands.cores there

    told_is : (tell : Data → List Action) → told s (at_number s.worlds p) tell ≡ Some (record { state = s; actions = tell its.0.data' })
    told_is tell = ap (λ (o : Option World). told s o tell) its.1

    answers_are : answers_of its.0.data'.me (class_of (process.program_of core) its.0.data'.me) its.0.data' ≡ answers_of p (class_of program p) its.0.data'
    answers_are =
        ap (λ (q : Program). answers_of its.0.data'.me (class_of q its.0.data'.me) its.0.data') its.2.same
        ∙ ap (λ me. answers_of me (class_of program me) its.0.data') its.2.number

    kept_is : kept_of (class_of (process.program_of core) its.0.data'.me) its.0.data' ≡ kept_of (class_of program p) its.0.data'
    kept_is =
        ap (λ (q : Program). kept_of (class_of q its.0.data'.me) its.0.data') its.2.same ∙ ap (λ me. kept_of (class_of program me) its.0.data') its.2.number

    pub may_tell : process.IsReady core
    may_tell = λ unspent. (its.0, its.2.stands)

    pub unspent_there : process.is_spent core ≡ false
    unspent_there = its.2.stands.unspent

    pub shows : (old new : List Action) → process.Whichever core (λ w. new ≡ old ++ answers_of w.data'.me (class_of (process.program_of core) w.data'.me) w.data') → HasStepped (show program s p) network old new
    shows old new added = record {
      after = record { state = s; actions = answers_of p (class_of program p) its.0.data' };
      is = told_is (answers_of p (class_of program p));
      stands = stands;
      added = added its.0 its.2.stands ∙ ap (λ (xs : List Action). old ++ xs) answers_are;
    }

    pub answers_told : (old new : List Action) → process.Whichever core (λ w. new ≡ old ++ answers_of w.data'.me (class_of (process.program_of core) w.data'.me) w.data') → new ≡ old ++ answers_at program p (at_number s.worlds p)
    answers_told old new added =
        added its.0 its.2.stands ∙ ap (λ (xs : List Action). old ++ xs) answers_are ∙ ap (λ (o : Option World). old ++ answers_at program p o) (sym its.1)

    pub begins_to_show : (old new : List Action) → process.Whichever core (λ w. AddsPrefix old new (answers_of w.data'.me (class_of (process.program_of core) w.data'.me) w.data')) → HasBegun (show program s p) old new
    begins_to_show old new front = record {
      after = record { state = s; actions = answers_of p (class_of program p) its.0.data' };
      is = told_is (answers_of p (class_of program p));
      front = subst (AddsPrefix old new) answers_are (front its.0 its.2.stands);
    }

    module _ (n : ℕ) (is : process.Whichever core (λ w. n ≡ kept_of (class_of (process.program_of core) w.data'.me) w.data')) where
      keeps_so : stat program s p ≡ Some (record { state = s; actions = Kept p n ∷ [] })
      keeps_so =
          told_is (λ d. Kept p (kept_of (class_of program p) d) ∷ [])
          ∙ ap (λ rows. Some (record { state = s; actions = Kept p rows ∷ [] })) (sym (is its.0 its.2.stands ∙ kept_is))

      pub keeps : (old new : List Action) → new ≡ old ++ Kept p n ∷ [] → HasStepped (stat program s p) network old new
      keeps old new added = record { after = record { state = s; actions = Kept p n ∷ [] }; is = keeps_so; stands = stands; added = added }

      pub begins_to_keep : (old new : List Action) → new ≡ old → HasBegun (stat program s p) old new
      begins_to_keep old new same = record { after = record { state = s; actions = Kept p n ∷ [] }; is = keeps_so; front = same_prefix old new (Kept p n ∷ []) same }

  -- both are allowed exactly where there is such a process
  told_some : (o : Option World) (tell : Data → List Action) → is_some (told s o tell) ≡ is_some o
  told_some None tell = refl
  told_some (Some w) tell = refl

  module _ (p : ℕ) (b : Bool) (found : is_some (at_number cores p) ≡ b) where
    allowed_as : (tell : Data → List Action) → is_some (told s (at_number s.worlds p) tell) ≡ b
    allowed_as tell = told_some (at_number s.worlds p) tell ∙ world_there program cores s.worlds p stands.cores ∙ found

    pub shows_as : IsTrue b ↔ IsSome (show program s p)
    shows_as = let same = allowed_as _ in (λ yes. same ∙ yes, λ some. sym same ∙ some)

    pub keeps_as : IsTrue b ↔ IsSome (stat program s p)
    keeps_as = let same = allowed_as _ in (λ yes. same ∙ yes, λ some. sym same ∙ some)

-- what is not allowed is not enabled
pub not_enabled : {A : Type 0} {o : Option A} → o ≡ None → (IsTrue false ↔ IsSome o)
not_enabled none = (λ yes. absurd (false≢true yes), λ there. absurd (false≢true (ap is_some (sym none) ∙ there)))
