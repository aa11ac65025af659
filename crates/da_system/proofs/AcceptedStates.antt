-- The states of an accepted program stay sound, and a move tells of itself.
use Rattle.std.specs.Prelude.{◌≡◌, refl, ℕ, zero, suc, ◌+◌, Bool, true, false, cond, length, List, [], ◌∷◌, ◌++◌, Option, Some, None, IfSome}
use Rattle.std.specs.List.{All, AllByRecursion, list_any}
use Rattle.std.proofs.Common.{◌∙◌, ap, sym, subst}
use Rattle.std.proofs.lemmas.List.Elements.{All-head, All-tail}
use Rattle.da_lang.specs.declared.event.Action.{Action}
use Rattle.da_lang.specs.declared.event.Action.TheVariants as act
use Rattle.da_lang.specs.declared.event.Event.{Event}
use Rattle.da_lang.specs.declared.event.Event.TheVariants as event
use Rattle.da_lang.specs.declared.program.Alt.{Alt}
use Rattle.da_lang.specs.declared.program.Class.{Class}
use Rattle.da_lang.specs.declared.program.Item.{Item}
use Rattle.da_lang.specs.declared.program.ItemKind.{ItemKind}
use Rattle.da_lang.specs.declared.program.ItemKind.TheOpen.{ItemKind-F, Await}
use Rattle.da_lang.specs.declared.program.ItemKind.TheViews.{out-Alt}
use Rattle.da_lang.specs.declared.program.Program.{Program}
use Rattle.da_lang.specs.declared.program.RBranch.{RBranch}
use Rattle.da_lang.specs.Accepted.{IsAccepted}
use Rattle.da_lang.specs.Queries.{holds}
use Rattle.da_lang.specs.Runs.{Ran, run_to_yield}
use Rattle.da_lang.specs.Steps.{Go, Take, TimeOut, Deliver, Step, Stepped, class_step, closing, moved, past_await, past_timeout, proc_step, step_in, take_waiting, time_out_waiting}
use Rattle.da_lang.specs.Turns.{do_all, kind_of}
use Rattle.da_lang.specs.World.{Data, Task, Do, Loop, Prepare, World, class_of, at_number, Phase, New, Waiting, Ended, Faulted}
use Rattle.da_lang.proofs.MoveLaws.{IsMove, move_tells}
use Rattle.da_types.specs.KeepsShaped.{MayStep, MayTell}
use Rattle.da_types.proofs.sound.AcceptedLaws.{is_sound}
use Rattle.da_types.proofs.sound.AcceptedShaped.{keeps_shaped}
use Rattle.da_system.specs.Choices.{alternatives, alternatives_at, alternatives_in}
use Rattle.da_system.specs.SoundState.{IsSoundState, LeadsOn, StaysSound, TellsMove}
use Rattle.da_system.specs.State.{Whichever}
use Rattle.da_system.specs.declared.system.System.{System}
use Rattle.da_system.specs.SystemStep.{AfterEvent, SystemState, start, step_of, stepped, sys_step}
use Rattle.da_system.proofs.SoundLaws.{MayArrive, SendsMessage, StaysShaped, start_sound, step_sound}

-- ITS WORLDS STAY SHAPED

sends : (program : Program) (me : ℕ) (a : Action) → MayTell program me a → SendsMessage program a
sends program me (act.Sent p q t m) may = record { proper = may.proper; typed = may.typed; in_time = may.in_time }
sends program me _ may = tt

all_send : (program : Program) (me : ℕ) (actions : List Action) → All (MayTell program me) actions → AllByRecursion (SendsMessage program) actions
all_send program me [] tells = tt
all_send program me (a ∷ others) tells = (sends program me a (All-head (MayTell program me) a others tells), all_send program me others (All-tail (MayTell program me) a others tells))

may_step : (program : Program) (step : Step) → MayArrive program step → MayStep program step
may_step program Go may = tt
may_step program (Take k) may = tt
may_step program TimeOut may = tt
may_step program (Deliver m p t) may = may

pub stays_shaped : (program : Program) → IsAccepted program → StaysShaped program
stays_shaped program accepted =
    let shaped = keeps_shaped program accepted in
    record {
      opens = λ me is. (let (c, known) = (is_sound program accepted).placed me is in shaped.opens me c is known);
      steps = λ w step after fits may is. (
          let next = shaped.steps w step after fits (may_step program step may) is in
          record { same = next.same; shaped = next.shaped; sends = all_send program w.data'.me after.actions next.tells });
    }

-- the state before any event
pub sound_start : (program : Program) → IsAccepted program → IsSoundState program (start program)
sound_start program accepted = start_sound program (stays_shaped program accepted)

-- A MOVE TELLS OF ITSELF

-- there is no alternative of number 0
module _ (program : Program) (class : Class) (w : World) where
  never_at : (rest : List Task) (kind : ItemKind-F ItemKind Alt Item RBranch) → past_await class w.data' rest 0 kind ≡ None
  never_at rest (Await alts timeout label) = refl
  never_at rest _ = refl

  never_waiting : (todo : List Task) → take_waiting class w.data' 0 todo ≡ None
  never_waiting [] = refl
  never_waiting (Do i ∷ rest) = never_at rest (kind_of i)
  never_waiting (Loop slot left body line ∷ rest) = refl
  never_waiting (Prepare call ∷ rest) = refl

  never_taken : (phase : Phase) → class_step program class w (Take 0) phase ≡ None
  never_taken New = refl
  never_taken Waiting = never_waiting w.todo
  never_taken Ended = refl
  never_taken Faulted = refl

pub never_steps : (program : Program) (w : World) (class : Option Class) → step_in program w (Take 0) class ≡ None
never_steps program w None = refl
never_steps program w (Some class) = never_taken program class w w.phase

take_tells : (program : Program) (k : ℕ) (w : World) → IsMove w.data'.me k (proc_step program w (Take k))
take_tells program zero w = subst (IsMove w.data'.me 0) (sym (never_steps program w (class_of program w.data'.me))) tt
take_tells program (suc k) w = move_tells program w (suc k)

-- a timeout tells the number after that of the last alternative
module _ (class : Class) (d : Data) where
  none_timed : (b : Bool) (k : ℕ) (ran : Ran) → IsMove d.me k (cond b None (Some (moved d.me k ran)))
  none_timed true k ran = tt
  none_timed false k ran = (ran, refl)

  kind_timed : (rest : List Task) (kind : ItemKind-F ItemKind Alt Item RBranch) → IsMove d.me (alternatives_in kind + 1) (past_timeout class d rest kind)
  kind_timed rest (Await alts (Some body) label) = none_timed (list_any (λ alt. holds d (out-Alt alt).cond []) alts) (length alts + 1) (run_to_yield class 1 d (do_all body rest))
  kind_timed rest _ = tt

  waiting_timed : (todo : List Task) → IsMove d.me (alternatives Waiting todo + 1) (time_out_waiting class d todo)
  waiting_timed [] = tt
  waiting_timed (Do i ∷ rest) = kind_timed rest (kind_of i)
  waiting_timed (Loop slot left body line ∷ rest) = tt
  waiting_timed (Prepare call ∷ rest) = tt

module _ (program : Program) (w : World) where
  phase_timed : (class : Class) (phase : Phase) → IsMove w.data'.me (alternatives phase w.todo + 1) (class_step program class w TimeOut phase)
  phase_timed class New = tt
  phase_timed class Waiting = waiting_timed class w.data' w.todo
  phase_timed class Ended = tt
  phase_timed class Faulted = tt

  found_timed : (class : Option Class) → IsMove w.data'.me (alternatives w.phase w.todo + 1) (step_in program w TimeOut class)
  found_timed None = tt
  found_timed (Some class) = phase_timed class w.phase

  timeout_tells : IsMove w.data'.me (alternatives w.phase w.todo + 1) (proc_step program w TimeOut)
  timeout_tells = found_timed (class_of program w.data'.me)

module _ (program : Program) (s : SystemState) (sound : IsSoundState program s) where
  abbrev Begins : ℕ → ℕ → Option AfterEvent → Type 0
  Begins p k step = IfSome step (λ (after : AfterEvent). (rest : List Action) × (after.actions ≡ act.Took p k ∷ rest))

  stepped_tells : (p k : ℕ) (world : World) (found : Option Stepped) → world.data'.me ≡ p → IsMove world.data'.me k found → Begins p k (stepped s p found)
  stepped_tells p k world None same move = tt
  stepped_tells p k world (Some step) same move =
      let (ran, is) = move in
      let rest = ran.actions ++ closing world.data'.me ran.halt in
      (rest, ap (λ (x : Stepped). x.actions) is ∙ ap (λ me. act.Took me k ∷ rest) same)

  of_tells : (p k : ℕ) (step : Step) → ((w : World) → IsMove w.data'.me k (proc_step program w step)) → (world : Option World) → at_number s.worlds p ≡ world → Begins p k (step_of program s p world step)
  of_tells p k step move None there = tt
  of_tells p k step move (Some world) there = stepped_tells p k world (proc_step program world step) (sound.numbers p world there) (move world)

  timed : (p : ℕ) (world : Option World) → at_number s.worlds p ≡ world → Begins p (alternatives_at world + 1) (step_of program s p world TimeOut)
  timed p None there = tt
  timed p (Some world) there = stepped_tells p (alternatives world.phase world.todo + 1) world (proc_step program world TimeOut) (sound.numbers p world there) (timeout_tells program world)

  any : (step : Option AfterEvent) → IfSome step (λ (after : AfterEvent). Unit {0})
  any None = tt
  any (Some after) = tt

  tells : (e : Event) → IfSome (sys_step program s e) (λ (after : AfterEvent). TellsMove s e after.actions)
  tells (event.Move p) = of_tells p 0 Go (λ w. move_tells program w 0) (at_number s.worlds p) refl
  tells (event.Take p k) = of_tells p k (Take k) (take_tells program k) (at_number s.worlds p) refl
  tells (event.Timeout p) = timed p (at_number s.worlds p) refl
  tells (event.Deliver p q i) = any (sys_step program s (event.Deliver p q i))
  tells (event.Lose p q i) = any (sys_step program s (event.Lose p q i))
  tells (event.Repeat p q i) = any (sys_step program s (event.Repeat p q i))
  tells (event.Show p) = any (sys_step program s (event.Show p))
  tells (event.Stat p) = any (sys_step program s (event.Stat p))

  leads : (e : Event) (step : Option AfterEvent) → IfSome step (λ (after : AfterEvent). IsSoundState program after.state) → IfSome step (λ (after : AfterEvent). TellsMove s e after.actions) → IfSome step (LeadsOn program s e)
  leads e None stays says = tt
  leads e (Some after) stays says = record { sound = stays; tells = says }

-- each event that is allowed leads to a sound state
pub sound_steps : (program : Program) → IsAccepted program → (s : SystemState) (e : Event) → StaysSound program s e
sound_steps program accepted s e sound = leads program s sound e (sys_step program s e) (step_sound program (stays_shaped program accepted) s e sound) (tells program s sound e)

pub stays_sound : (program : Program) (system : System) (e : Event) → IsAccepted program → Whichever system (λ s. StaysSound program s e)
stays_sound program system e accepted = λ s stands. sound_steps program accepted s e
