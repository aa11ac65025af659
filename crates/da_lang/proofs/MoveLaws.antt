-- What a step is where it is allowed: one equation for each kind of step. What a move tells.
use Rattle.std.specs.Prelude.{◌≡◌, refl, ℕ, zero, suc, ◌+◌, length, Bool, true, false, cond, List, [], ◌∷◌, Option, Some, None, IfSome}
use Rattle.std.specs.List.{list_any}
use Rattle.da_values.specs.declared.val.Val.{Val}
use Rattle.da_lang.specs.declared.program.Alt.{Alt}
use Rattle.da_lang.specs.declared.program.Class.{Class}
use Rattle.da_lang.specs.declared.program.Item.{Item}
use Rattle.da_lang.specs.declared.program.ItemKind.{ItemKind}
use Rattle.da_lang.specs.declared.program.ItemKind.TheOpen.{ItemKind-F, Await, Label}
use Rattle.da_lang.specs.declared.program.ItemKind.TheViews.{out-Alt}
use Rattle.da_lang.specs.declared.program.Program.{Program}
use Rattle.da_lang.specs.declared.program.RBranch.{RBranch}
use Rattle.da_lang.specs.Labels.{open_handlers, takes}
use Rattle.da_lang.specs.Queries.{holds}
use Rattle.da_lang.specs.Runs.{Ran, run_to_yield}
use Rattle.da_lang.specs.Steps.{Go, Take, TimeOut, Deliver, Stepped, class_step, first_tasks, go_waiting, handle, handled, move_step, moved, past_await, past_label, proc_step, received_at, step_in, take_alternative, take_waiting}
use Rattle.da_lang.specs.Turns.{bind_found, do_all, kind_of}
use Rattle.da_lang.specs.World.{Data, Task, Do, Loop, Prepare, World, class_of, at_number, Phase, New, Waiting, Ended, Faulted}

-- the moves of events: `Move` is the one of number 0, and `Take` by the number of an alternative is its own
pub move_none : move_step zero ≡ Go
move_none = refl

pub move_some : (k : ℕ) → move_step (suc k) ≡ Take (suc k)
move_some k = refl

-- a move, if it is allowed, tells this number
abbrev pub IsMove : ℕ → ℕ → Option Stepped → Type 0
IsMove me k step = IfSome step (λ s. (ran : Ran) × (s ≡ moved me k ran))

module _ (class : Class) (d : Data) where
  label_moves : (rest : List Task) (kind : ItemKind-F ItemKind Alt Item RBranch) → IsMove d.me 0 (past_label class d rest kind)
  label_moves rest (Label l) = (run_to_yield class 1 d rest, refl)
  label_moves rest _ = tt

  go_moves : (todo : List Task) → IsMove d.me 0 (go_waiting class d todo)
  go_moves [] = tt
  go_moves (Do i ∷ rest) = label_moves rest (kind_of i)
  go_moves (Loop s left body line ∷ rest) = tt
  go_moves (Prepare call ∷ rest) = tt

  chosen_moves : (b : Bool) (k : ℕ) (ran : Ran) → IsMove d.me k (cond b (Some (moved d.me k ran)) None)
  chosen_moves true k ran = (ran, refl)
  chosen_moves false k ran = tt

  alternative_moves : (rest : List Task) (k : ℕ) (alt : Option Alt) → IsMove d.me k (take_alternative class d rest k alt)
  alternative_moves rest k None = tt
  alternative_moves rest k (Some alt) =
      chosen_moves (holds d (out-Alt alt).cond []) k
      (run_to_yield class 1 (bind_found class.queries (out-Alt alt).found (out-Alt alt).binds d) (do_all (out-Alt alt).body rest))

  await_moves : (rest : List Task) (k : ℕ) (kind : ItemKind-F ItemKind Alt Item RBranch) → IsMove d.me k (past_await class d rest k kind)
  await_moves rest k (Await alts timeout label) = alternative_moves rest k (at_number alts k)
  await_moves rest k _ = tt

  take_moves : (k : ℕ) (todo : List Task) → IsMove d.me k (take_waiting class d k todo)
  take_moves k [] = tt
  take_moves k (Do i ∷ rest) = await_moves rest k (kind_of i)
  take_moves k (Loop s left body line ∷ rest) = tt
  take_moves k (Prepare call ∷ rest) = tt

module _ (program : Program) (w : World) where
  class_moves : (class : Class) (k : ℕ) (phase : Phase) → IsMove w.data'.me k (class_step program class w (move_step k) phase)
  class_moves class zero New = (run_to_yield class 0 w.data' (first_tasks program class w.data'.me), refl)
  class_moves class zero Waiting = go_moves class w.data' w.todo
  class_moves class (suc k) Waiting = take_moves class w.data' (suc k) w.todo
  class_moves class (suc k) New = tt
  class_moves class zero Ended = tt
  class_moves class (suc k) Ended = tt
  class_moves class zero Faulted = tt
  class_moves class (suc k) Faulted = tt

  found_moves : (k : ℕ) (class : Option Class) → IsMove w.data'.me k (step_in program w (move_step k) class)
  found_moves k None = tt
  found_moves k (Some class) = class_moves class k w.phase

  -- the move of a number tells it
  pub move_tells : (k : ℕ) → IsMove w.data'.me k (proc_step program w (move_step k))
  move_tells k = found_moves k (class_of program w.data'.me)

module _ (program : Program) (class : Class) (w : World) (known : class_of program w.data'.me ≡ Some class) where
  pub step_begins : w.phase ≡ New → proc_step program w Go ≡ Some (moved w.data'.me 0 (run_to_yield class 0 w.data' (first_tasks program class w.data'.me)))
  step_begins is = rw (known, is) refl

  pub step_at_label : (i : Item) (rest : List Task) (l : ℕ) → w.phase ≡ Waiting → w.todo ≡ Do i ∷ rest → kind_of i ≡ Label l
      → proc_step program w Go ≡ Some (moved w.data'.me 0 (run_to_yield class 1 w.data' rest))
  step_at_label i rest l waits stands label = rw (known, waits, stands, label) refl

  pub step_at_await : (i : Item) (rest : List Task) (alts : List Alt) (timeout : Option (List Item)) (label : Option ℕ) (alt : Alt) (k : ℕ)
      → w.phase ≡ Waiting → w.todo ≡ Do i ∷ rest → kind_of i ≡ Await alts timeout label → at_number alts k ≡ Some alt → holds w.data' (out-Alt alt).cond [] ≡ true
      → proc_step program w (Take k) ≡ Some (moved w.data'.me k (run_to_yield class 1 (bind_found class.queries (out-Alt alt).found (out-Alt alt).binds w.data') (do_all (out-Alt alt).body rest)))
  step_at_await i rest alts timeout label alt k waits stands is there true' = rw (known, waits, stands, is, there, true') refl

  pub step_times_out : (i : Item) (rest : List Task) (alts : List Alt) (body : List Item) (label : Option ℕ)
      → w.phase ≡ Waiting → w.todo ≡ Do i ∷ rest → kind_of i ≡ Await alts (Some body) label → list_any (λ alt. holds w.data' (out-Alt alt).cond []) alts ≡ false
      → proc_step program w TimeOut ≡ Some (moved w.data'.me (length alts + 1) (run_to_yield class 1 w.data' (do_all body rest)))
  step_times_out i rest alts body label waits stands is none' = rw (known, waits, stands, is, none') refl

  pub step_delivers : (m : Val) (p time : ℕ) → w.phase ≡ Waiting → takes class w m p ≡ true
      → proc_step program w (Deliver m p time) ≡ Some (handled w.todo w.data'.me m p time (handle class m p (open_handlers class w.todo) 0 (received_at m p time w.data')))
  step_delivers m p time waits taken = rw (known, waits, taken) refl
