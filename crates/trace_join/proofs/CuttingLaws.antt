-- The steps of a process in code along its trace.
use Rattle.std.specs.Prelude.{◌≡◌, ◌↔◌, ℕ, zero, suc, ◌-◌, ◌<◌, ◌==◌, Bool, true, false, if◌then◌else◌, List, [], ◌∷◌, Option, Some, None}
use Rattle.std.specs.Prelude.{Result, Ok, Err, IfOk, IsErrOf, IsTrue, refl}
use Rattle.std.proofs.Common.{sym, ap, ◌∙◌, subst, inl, inr, arith}
use Rattle.std.proofs.lemmas.Bool.{false≢true}
use Rattle.std.proofs.lemmas.Option.{same_Some}
use Rattle.da_values.specs.declared.list.NoMemory.{NoMemory}
use Rattle.da_values.specs.declared.value.Value.{Value}
use Rattle.da_lang.specs.declared.event.Action.{Action}
use Rattle.da_lang.specs.declared.event.Action.TheVariants as action
use Rattle.da_lang.specs.declared.program.Alt.{Alt}
use Rattle.da_lang.specs.declared.program.Item.{Item}
use Rattle.da_lang.specs.declared.program.ItemKind.{ItemKind}
use Rattle.da_lang.specs.declared.program.ItemKind.TheOpen.{ItemKind-F, Await, Label}
use Rattle.da_lang.specs.declared.program.Program.{Program}
use Rattle.da_lang.specs.declared.program.RBranch.{RBranch}
use Rattle.da_lang.specs.Steps.{Step, Take, TimeOut, move_step, proc_step}
use Rattle.da_lang.specs.World.{New, Waiting, Ended, Faulted, Phase, Task, World}
use Rattle.da_core.specs.declared.place.Place.{Place}
use Rattle.da_core.specs.declared.place.Place.TheVariants as place
use Rattle.da_core.specs.declared.place.StepFault.{StepFault}
use Rattle.da_core.specs.declared.place.StepFault.TheVariants.{Forbidden}
use Rattle.da_core.specs.declared.place.Stopped.{Stopped}
use Rattle.da_core.specs.declared.process.Core.{Core}
use Rattle.da_core.specs.Arrivals.{MayArrive, arrival}
use Rattle.da_core.specs.Made.{HasMade}
use Rattle.da_core.specs.StandsFor.{BeginsWith, IsPlace, StandsFor, Whichever, program_of}
use Rattle.trace_join.specs.Cuts.{AsksInVain, awaits, awaits_in, is_timeout, move_asked, step_asked}
use Rattle.trace_join.specs.Cutting.{AskedOrNot, HowMade, MadeOrNot, TakenInOrNot, WasMade}

-- WHICH NUMBER TELLS A TIMEOUT

-- how many alternatives a place waits for
abbrev waits_for : Place → ℕ → Bool
waits_for (place.Await count) k = count == k
waits_for _ k = false

awaits_kind : (todo : List Task) (kind : ItemKind-F ItemKind Alt Item RBranch) → BeginsWith todo kind → (k : ℕ)
    → awaits Waiting todo k ≡ awaits_in kind k
awaits_kind todo kind begins k =
    ap (λ (l : List Task). awaits Waiting l k) begins.first ∙ ap (λ (x : ItemKind-F ItemKind Alt Item RBranch). awaits_in x k) begins.is

awaits_at : (todo : List Task) (stands : Place) (phase : Phase) → IsPlace todo stands phase → (k : ℕ) → awaits phase todo k ≡ waits_for stands k
awaits_at todo place.New New is k = refl
awaits_at todo place.Label Waiting is k = awaits_kind todo (Label is.0) is.1 k
awaits_at todo (place.Await count) Waiting is k =
    awaits_kind todo (Await is.alts is.timeout is.label) is.begins k ∙ ap (λ (n : ℕ). n == k) is.size
awaits_at todo place.Ended Ended is k = refl
awaits_at todo place.Faulted Faulted is k = refl
awaits_at todo _ _ is k = absurd is

-- the number tells a timeout where its predecessor is the number of the alternatives
chosen : (b : Bool) (k : ℕ) → is_timeout (if b then TimeOut else Take (suc k)) ≡ b
chosen true k = refl
chosen false k = refl

abbrev tells_timeout : Place → ℕ → Bool
tells_timeout stands zero = false
tells_timeout stands (suc k) = waits_for stands k

timeout_at : (w : World) (stands : Place) (k : ℕ) → IsPlace w.todo stands w.phase → is_timeout (move_asked w k) ≡ tells_timeout stands k
timeout_at w stands zero is = refl
timeout_at w stands (suc k) is = chosen (awaits w.phase w.todo k) k ∙ awaits_at w.todo stands w.phase is k

not_there : (stands : Place) → ((k : ℕ) → waits_for stands k ≡ false) → (k : ℕ) → tells_timeout stands k ≡ false
not_there stands never zero = refl
not_there stands never (suc k) = never k

there : (count k : ℕ) → 0 < k → (count == k - 1) ≡ tells_timeout (place.Await count) k
there count zero some = absurd (omega (arith, some))
there count (suc k) some = let before : suc k - 1 ≡ k = omega arith in ap (λ (n : ℕ). count == n) before

module _ (core : Core) (stands : Place) (k : ℕ) (at : Whichever core (λ w. IsPlace w.todo stands w.phase)) where
  asks_as : (b : Bool) → b ≡ tells_timeout stands k → Whichever core (λ w. b ≡ is_timeout (move_asked w k))
  asks_as b is = λ w stands_for. is ∙ sym (timeout_at w stands k (at w stands_for))

  pub asks_for_none : (found : Place) → stands ≡ found → ((n : ℕ) → waits_for found n ≡ false) → Whichever core (λ w. false ≡ is_timeout (move_asked w k))
  asks_for_none found is never = asks_as false (sym (ap (λ (x : Place). tells_timeout x k) is ∙ not_there found never k))

  pub asks_after_last : (count : ℕ) → stands ≡ place.Await count → 0 < k → Whichever core (λ w. (count == k - 1) ≡ is_timeout (move_asked w k))
  asks_after_last count is some = asks_as (count == k - 1) (there count k some ∙ sym (ap (λ (x : Place). tells_timeout x k) is))

-- A CALL OF THE CORE

module _ (core new : Core) (step : Step) (old out : List Action) where
  abbrev pub Made : Result Stopped StepFault → Type 0
  Made made = IfOk made (λ stopped. Whichever core (λ w. HasMade core w step new stopped old out))

  abbrev pub MayNot : Result Stopped StepFault → Type 0
  MayNot made = IsErrOf made Forbidden → Whichever core (λ w. proc_step (program_of core) w step ≡ None)

module _ (core new : Core) (step : Step) (times_out : Bool) (old out : List Action) where
  was_made : (stopped : Stopped) (told : Bool) → told ≡ times_out → times_out ≡ is_timeout step → (w : World) → HasMade core w step new stopped old out
      → WasMade (program_of core) w step (StandsFor new) told old out
  was_made stopped told same timeout w has =
      record { after = has.after; makes = has.leads; now_stands = has.stands; timeout = same ∙ timeout; added = has.added }

  made_or_not : (made : Result Stopped StepFault) (answer : Option Bool) → HowMade made times_out answer
      → Made core new step old out made → MayNot core new step old out made → times_out ≡ is_timeout step
      → Whichever core (λ w. MadeOrNot (program_of core) w step (StandsFor new) old out answer)
  made_or_not made None forbidden has may_not timeout = may_not forbidden
  made_or_not (Ok stopped) (Some told) how has may_not timeout = λ w stands. was_made stopped told how.1 timeout w (has w stands)
  made_or_not (Err fault) (Some told) how has may_not timeout = absurd (false≢true how.0)

  -- where each world asks for this step
  module _ (asked : World → Step) (made : Result Stopped StepFault)
      (has : Made core new step old out made) (may_not : MayNot core new step old out made) (timeout : times_out ≡ is_timeout step) where
    pub asked_made : (result : Result (Option Bool) NoMemory) → IfOk result (HowMade made times_out) → Whichever core (λ w. step ≡ asked w)
        → IfOk result (λ answer. Whichever core (λ w. MadeOrNot (program_of core) w (asked w) (StandsFor new) old out answer))
    asked_made (Ok answer) how asks = λ w stands.
        subst (λ (x : Step). MadeOrNot (program_of core) w x (StandsFor new) old out answer) (asks w stands)
        (made_or_not made answer how has may_not timeout w stands)
    asked_made (Err fault) how asks = tt

-- the step that `took` asks for, by whether it is a timeout
timeout_asked : (w : World) (k : ℕ) → true ≡ is_timeout (move_asked w k) → TimeOut ≡ move_asked w k
timeout_asked w zero is = absurd (false≢true (sym is))
timeout_asked w (suc k) is = by_test (awaits w.phase w.todo k) is
  where
    by_test : (b : Bool) → true ≡ is_timeout (if b then TimeOut else Take (suc k)) → TimeOut ≡ (if b then TimeOut else Take (suc k))
    by_test true test = refl
    by_test false test = absurd (false≢true (sym test))

move_is_asked : (w : World) (k : ℕ) → false ≡ is_timeout (move_asked w k) → move_step k ≡ move_asked w k
move_is_asked w zero is = refl
move_is_asked w (suc k) is = by_test (awaits w.phase w.todo k) is
  where
    by_test : (b : Bool) → false ≡ is_timeout (if b then TimeOut else Take (suc k)) → Take (suc k) ≡ (if b then TimeOut else Take (suc k))
    by_test true test = absurd (false≢true test)
    by_test false test = refl

move_is_no_timeout : (k : ℕ) → false ≡ is_timeout (move_step k)
move_is_no_timeout zero = refl
move_is_no_timeout (suc k) = refl

module _ (core new : Core) (k : ℕ) (b : Bool) (old out : List Action) (tells : Whichever core (λ w. b ≡ is_timeout (move_asked w k)))
    (made : Result Stopped StepFault) (result : Result (Option Bool) NoMemory) where
  abbrev pub MoveAsked : Type 0
  MoveAsked = IfOk result (λ answer. Whichever core (λ w. MadeOrNot (program_of core) w (move_asked w k) (StandsFor new) old out answer))

  pub timed_out : b ≡ true → Made core new TimeOut old out made → MayNot core new TimeOut old out made → IfOk result (HowMade made true) → MoveAsked
  timed_out is has may_not how =
      asked_made core new TimeOut true old out (λ w. move_asked w k) made has may_not refl result how (λ w stands. timeout_asked w k (sym is ∙ tells w stands))

  pub moved_on : b ≡ false → Made core new (move_step k) old out made → MayNot core new (move_step k) old out made
      → IfOk result (HowMade made false) → MoveAsked
  moved_on is has may_not how =
      asked_made core new (move_step k) false old out (λ w. move_asked w k) made has may_not (move_is_no_timeout k) result how
      (λ w stands. move_is_asked w k (sym is ∙ tells w stands))

-- A MESSAGE

module _ (core new : Core) (m : Value) (from time : ℕ) (old out : List Action) where
  abbrev delivery : Step
  delivery = arrival m from time

  -- it may arrive, and so its delivery is made or may not be made
  pub taken_in : (made : Result Stopped StepFault) (result : Result (Option Bool) NoMemory)
      → Made core new delivery old out made → MayNot core new delivery old out made → IfOk result (HowMade made false)
      → IfOk result (λ answer. Whichever core (λ w. TakenInOrNot (program_of core) w m from time (StandsFor new) old out answer))
  taken_in made (Err fault) has may_not how = tt
  taken_in made (Ok None) has may_not how = λ w stands. inl (made_or_not core new delivery false old out made None how has may_not refl w stands)
  taken_in made (Ok (Some told)) has may_not how = made_or_not core new delivery false old out made (Some told) how has may_not refl

-- a test that tells where a message may arrive, of the program of the core
pub may_arrive_at : (core : Core) (program : Program) (m : Value) (from time : ℕ) (b : Bool)
    → program_of core ≡ program → b ≡ true → IsTrue b ↔ MayArrive program m from time → MayArrive (program_of core) m from time
may_arrive_at core program m from time b same is tests = subst (λ (p : Program). MayArrive p m from time) (sym same) (tests.0 is)

pub may_not_arrive : (core new : Core) (program : Program) (m : Value) (from time : ℕ) (old out : List Action) (b : Bool)
    → program_of core ≡ program → b ≡ false → IsTrue b ↔ MayArrive program m from time
    → Whichever core (λ w. TakenInOrNot (program_of core) w m from time (StandsFor new) old out None)
may_not_arrive core new program m from time old out b same is tests =
    λ w stands. inr (λ may. false≢true (sym is ∙ tests.1 (subst (λ (p : Program). MayArrive p m from time) same may)))

-- THE STEP THAT AN ACTION ASKS FOR

module _ (core new : Core) (asked : Action) (old out : List Action) where
  abbrev pub AsAsked : Result (Option Bool) NoMemory → Type 0
  AsAsked result = IfOk result (λ answer. Whichever core (λ w. AskedOrNot (program_of core) w asked (StandsFor new) old out answer))

  -- no step is asked for but this one
  none_asked : (w : World) (step other : Step) → step_asked w (asked ∷ []) ≡ Some step → proc_step (program_of core) w step ≡ None
      → step_asked w (asked ∷ []) ≡ Some other → proc_step (program_of core) w other ≡ None
  none_asked w step other asks not_allowed asks_other =
      subst (λ (x : Step). proc_step (program_of core) w x ≡ None) (same_Some step other (sym asks ∙ asks_other)) not_allowed

  module _ (p k : ℕ) (is : asked ≡ action.Took p k) where
    took_asks : (w : World) → step_asked w (asked ∷ []) ≡ Some (move_asked w k)
    took_asks w = ap (λ (a : Action). step_asked w (a ∷ [])) is

    pub took_asked : (result : Result (Option Bool) NoMemory)
        → IfOk result (λ answer. Whichever core (λ w. MadeOrNot (program_of core) w (move_asked w k) (StandsFor new) old out answer)) → AsAsked result
    took_asked (Err fault) made = tt
    took_asked (Ok None) made = λ w stands. inl (λ step asks. none_asked w (move_asked w k) step (took_asks w) (made w stands) asks)
    took_asked (Ok (Some told)) made = λ w stands. (move_asked w k, took_asks w, made w stands)

  module _ (q from time : ℕ) (m : Value) (is : asked ≡ action.Got q from time m) where
    got_asks : (w : World) → step_asked w (asked ∷ []) ≡ Some (arrival m from time)
    got_asks w = ap (λ (a : Action). step_asked w (a ∷ [])) is

    not_taken : (w : World) → TakenInOrNot (program_of core) w m from time (StandsFor new) old out None
        → AskedOrNot (program_of core) w asked (StandsFor new) old out None
    not_taken w (inl not_allowed) = inl (λ step asks. none_asked w (arrival m from time) step (got_asks w) not_allowed asks)
    not_taken w (inr never) = inr (subst (λ (a : Action). AsksInVain (program_of core) (a ∷ [])) (sym is) never)

    pub got_asked : (result : Result (Option Bool) NoMemory)
        → IfOk result (λ answer. Whichever core (λ w. TakenInOrNot (program_of core) w m from time (StandsFor new) old out answer)) → AsAsked result
    got_asked (Err fault) made = tt
    got_asked (Ok None) made = λ w stands. not_taken w (made w stands)
    got_asked (Ok (Some told)) made = λ w stands. (arrival m from time, got_asks w, made w stands)
