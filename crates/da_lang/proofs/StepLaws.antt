-- A step is there exactly where it is allowed, and changes no more than statements can.
use Rattle.std.specs.Prelude.{◌≡◌, refl, ℕ, ◌+◌, ◌-◌, Bool, true, false, cond, nat_lt, List, [], ◌∷◌, Option, Some, None, IsSome, IfSome}
use Rattle.std.proofs.Common.{◌∙◌}
use Rattle.std.proofs.lemmas.Bool.{false≢true}
use Rattle.std.specs.List.{list_any}
use Rattle.da_values.specs.declared.val.Val.{Val}
use Rattle.da_lang.specs.declared.program.Alt.{Alt}
use Rattle.da_lang.specs.declared.program.Class.{Class}
use Rattle.da_lang.specs.declared.program.Handler.{Handler}
use Rattle.da_lang.specs.declared.program.Item.{Item}
use Rattle.da_lang.specs.declared.program.ItemKind.{ItemKind}
use Rattle.da_lang.specs.declared.program.ItemKind.TheOpen.{ItemKind-F, Await, Label}
use Rattle.da_lang.specs.declared.program.ItemKind.TheViews.{out-Alt}
use Rattle.da_lang.specs.declared.program.Program.{Program}
use Rattle.da_lang.specs.declared.program.RBranch.{RBranch}
use Rattle.da_lang.specs.Allowed.{IsAllowed, begins, at_label, at_await, times_out, arrives}
use Rattle.da_lang.specs.Changes.{Changes, none}
use Rattle.da_lang.specs.Labels.{open_handlers, takes}
use Rattle.da_lang.specs.Matching.{Row, matched_entry}
use Rattle.da_lang.specs.Queries.{holds}
use Rattle.da_lang.specs.Runs.{Halt, AtYield, UsedUp, Faults, Ran, max_turns, run_to_yield}
use Rattle.da_lang.specs.Steps.{Step, Go, Take, TimeOut, Deliver, Stepped, after_halt, class_step, first_tasks, go_waiting, handle, past_await, past_label, past_timeout, proc_step, received_at, step_in, take_alternative, take_waiting, time_out_waiting, try_handler}
use Rattle.da_lang.specs.Turns.{bind_all, bind_found, do_all, kind_of}
use Rattle.da_lang.specs.World.{Data, Task, Do, Loop, Prepare, World, at_number, class_of, Phase, New, Waiting}
use Rattle.da_lang.proofs.ChangeLaws.{changes-me, changes_then}
use Rattle.da_lang.proofs.RunBounds.{by_truth, run_changes}
use Rattle.da_lang.proofs.TurnLaws.{bind_all_changes, bind_found_changes}

-- THERE IS A STEP WHERE IT IS ALLOWED

module _ (program : Program) (class : Class) (w : World) where
  pub allowed_is : {s : Step} → class_of program w.data'.me ≡ Some class → IsAllowed class w s → IsSome (proc_step program w s)
  allowed_is known (begins is) = rw (known, is) refl
  allowed_is known (at_label i rest l waits stands label) = rw (known, waits, stands, label) refl
  allowed_is known (at_await i rest alts timeout label alt k waits stands is there true') = rw (known, waits, stands, is, there, true') refl
  allowed_is known (times_out i rest alts body label waits stands is none') = rw (known, waits, stands, is, none') refl
  allowed_is known (arrives m p time waits taken) = rw (known, waits, taken) refl

  label_allowed : (i : Item) (rest : List Task) (kind : ItemKind-F ItemKind Alt Item RBranch)
      → w.phase ≡ Waiting → w.todo ≡ Do i ∷ rest → kind_of i ≡ kind → IsSome (past_label class w.data' rest kind) → IsAllowed class w Go
  label_allowed i rest (Label l) waits stands is there = at_label i rest l waits stands is
  label_allowed i rest _ waits stands is there = absurd (false≢true there)

  go_allowed : (todo : List Task) → w.phase ≡ Waiting → w.todo ≡ todo → IsSome (go_waiting class w.data' todo) → IsAllowed class w Go
  go_allowed [] waits stands there = absurd (false≢true there)
  go_allowed (Do i ∷ rest) waits stands there = label_allowed i rest (kind_of i) waits stands refl there
  go_allowed (Loop s left body line ∷ rest) waits stands there = absurd (false≢true there)
  go_allowed (Prepare call ∷ rest) waits stands there = absurd (false≢true there)

  alternative_allowed : (i : Item) (rest : List Task) (alts : List Alt) (timeout : Option (List Item)) (label : Option ℕ) (k : ℕ) (alt : Alt) (b : Bool)
      → w.phase ≡ Waiting → w.todo ≡ Do i ∷ rest → kind_of i ≡ Await alts timeout label → at_number alts k ≡ Some alt → holds w.data' (out-Alt alt).cond [] ≡ b
      → (x : Stepped) → IsSome (cond b (Some x) None) → IsAllowed class w (Take k)
  alternative_allowed i rest alts timeout label k alt true waits stands is there holds' x some = at_await i rest alts timeout label alt k waits stands is there holds'
  alternative_allowed i rest alts timeout label k alt false waits stands is there holds' x some = absurd (false≢true some)

  numbered_allowed : (i : Item) (rest : List Task) (alts : List Alt) (timeout : Option (List Item)) (label : Option ℕ) (k : ℕ) (found : Option Alt)
      → w.phase ≡ Waiting → w.todo ≡ Do i ∷ rest → kind_of i ≡ Await alts timeout label → at_number alts k ≡ found
      → IsSome (take_alternative class w.data' rest k found) → IsAllowed class w (Take k)
  numbered_allowed i rest alts timeout label k None waits stands is there some = absurd (false≢true some)
  numbered_allowed i rest alts timeout label k (Some alt) waits stands is there some = alternative_allowed i rest alts timeout label k alt (holds w.data' (out-Alt alt).cond []) waits stands is there refl _ some

  await_allowed : (i : Item) (rest : List Task) (k : ℕ) (kind : ItemKind-F ItemKind Alt Item RBranch)
      → w.phase ≡ Waiting → w.todo ≡ Do i ∷ rest → kind_of i ≡ kind → IsSome (past_await class w.data' rest k kind) → IsAllowed class w (Take k)
  await_allowed i rest k (Await alts timeout label) waits stands is some = numbered_allowed i rest alts timeout label k (at_number alts k) waits stands is refl some
  await_allowed i rest k _ waits stands is some = absurd (false≢true some)

  take_allowed : (k : ℕ) (todo : List Task) → w.phase ≡ Waiting → w.todo ≡ todo → IsSome (take_waiting class w.data' k todo) → IsAllowed class w (Take k)
  take_allowed k [] waits stands some = absurd (false≢true some)
  take_allowed k (Do i ∷ rest) waits stands some = await_allowed i rest k (kind_of i) waits stands refl some
  take_allowed k (Loop s left body line ∷ rest) waits stands some = absurd (false≢true some)
  take_allowed k (Prepare call ∷ rest) waits stands some = absurd (false≢true some)

  none_allowed : (i : Item) (rest : List Task) (alts : List Alt) (body : List Item) (label : Option ℕ) (b : Bool)
      → w.phase ≡ Waiting → w.todo ≡ Do i ∷ rest → kind_of i ≡ Await alts (Some body) label → list_any (λ alt. holds w.data' (out-Alt alt).cond []) alts ≡ b
      → (x : Stepped) → IsSome (cond b None (Some x)) → IsAllowed class w TimeOut
  none_allowed i rest alts body label false waits stands is none' x some = times_out i rest alts body label waits stands is none'
  none_allowed i rest alts body label true waits stands is none' x some = absurd (false≢true some)

  timeout_allowed : (i : Item) (rest : List Task) (kind : ItemKind-F ItemKind Alt Item RBranch)
      → w.phase ≡ Waiting → w.todo ≡ Do i ∷ rest → kind_of i ≡ kind → IsSome (past_timeout class w.data' rest kind) → IsAllowed class w TimeOut
  timeout_allowed i rest (Await alts (Some body) label) waits stands is some = none_allowed i rest alts body label (list_any (λ alt. holds w.data' (out-Alt alt).cond []) alts) waits stands is refl _ some
  timeout_allowed i rest _ waits stands is some = absurd (false≢true some)

  time_out_allowed : (todo : List Task) → w.phase ≡ Waiting → w.todo ≡ todo → IsSome (time_out_waiting class w.data' todo) → IsAllowed class w TimeOut
  time_out_allowed [] waits stands some = absurd (false≢true some)
  time_out_allowed (Do i ∷ rest) waits stands some = timeout_allowed i rest (kind_of i) waits stands refl some
  time_out_allowed (Loop s left body line ∷ rest) waits stands some = absurd (false≢true some)
  time_out_allowed (Prepare call ∷ rest) waits stands some = absurd (false≢true some)

  taken_allowed : (m : Val) (p time : ℕ) (b : Bool) → w.phase ≡ Waiting → takes class w m p ≡ b → (x : Stepped) → IsSome (cond b (Some x) None) → IsAllowed class w (Deliver m p time)
  taken_allowed m p time true waits taken x some = arrives m p time waits taken
  taken_allowed m p time false waits taken x some = absurd (false≢true some)

  phase_allowed : (s : Step) (phase : Phase) → w.phase ≡ phase → IsSome (class_step program class w s phase) → IsAllowed class w s
  phase_allowed Go New is some = begins is
  phase_allowed Go Waiting is some = go_allowed w.todo is refl some
  phase_allowed (Take k) Waiting is some = take_allowed k w.todo is refl some
  phase_allowed TimeOut Waiting is some = time_out_allowed w.todo is refl some
  phase_allowed (Deliver m p time) Waiting is some = taken_allowed m p time (takes class w m p) is refl _ some
  phase_allowed _ _ is some = absurd (false≢true some)

-- and nowhere else
found_allowed : (program : Program) (w : World) (s : Step) (found : Option Class) → class_of program w.data'.me ≡ found → IsSome (step_in program w s found)
    → (class : Class) × (class_of program w.data'.me ≡ Some class) × IsAllowed class w s
found_allowed program w s None is some = absurd (false≢true some)
found_allowed program w s (Some class) is some = (class, is, phase_allowed program class w s w.phase refl some)

pub is_allowed : (program : Program) (w : World) (s : Step) → IsSome (proc_step program w s)
    → (class : Class) × (class_of program w.data'.me ≡ Some class) × IsAllowed class w s
is_allowed program w s some = found_allowed program w s (class_of program w.data'.me) refl some

-- A STEP CHANGES NO MORE THAN STATEMENTS CAN, after the message that arrives, if it is a delivery

abbrev pub arrived : Step → Data → Data
arrived Go d = d
arrived (Take k) d = d
arrived TimeOut d = d
arrived (Deliver m p time) d = received_at m p time d

abbrev pub ChangesTo : Data → Option Stepped → Type 0
ChangesTo d step = IfSome step (λ r. Changes d r.world.data')

after_halt_changes : (halt : Halt) (ran : Ran) (go : ℕ → Data → Ran) (d : Data) → Changes d ran.data' → ((n : ℕ) (d2 : Data) → Changes d2 (go n d2).data') → Changes d (after_halt halt ran go).data'
after_halt_changes AtYield ran go d before others = changes_then before (others ran.turns ran.data')
after_halt_changes UsedUp ran go d before others = changes_then before (others ran.turns ran.data')
after_halt_changes (Faults kind line) ran go d before others = before

try_handler_changes : (class : Class) (h : Handler) (n : ℕ) (d : Data) (row : Option Row) (go : ℕ → Data → Ran) → ((n : ℕ) (d2 : Data) → Changes d2 (go n d2).data') → Changes d (try_handler class h n d row go).data'
try_handler_changes class h n d None go others = others n d
try_handler_changes class h n d (Some row) go others =
    let ran : Ran = run_to_yield class n (bind_all h.binds row d) (do_all h.body []) in
    after_halt_changes ran.halt ran go d (changes_then (bind_all_changes h.binds row d) (run_changes class (max_turns - n) n (bind_all h.binds row d) (do_all h.body []))) others

handle_changes : (class : Class) (m : Val) (p : ℕ) (hs : List Handler) (n : ℕ) (d : Data) → Changes d (handle class m p hs n d).data'
handle_changes class m p [] n d = none
handle_changes class m p (h ∷ hs) n d =
    by_truth (λ (ran : Ran). Changes d ran.data') (nat_lt n max_turns) _ _
    (λ is. try_handler_changes class h (n + 1) d (matched_entry d h.message h.from m p []) (handle class m p hs) (handle_changes class m p hs))
    (λ is. none)

module _ (class : Class) (d : Data) where
  past_label_changes : (todo : List Task) (kind : ItemKind-F ItemKind Alt Item RBranch) → ChangesTo d (past_label class d todo kind)
  past_label_changes todo (Label l) = run_changes class (max_turns - 1) 1 d todo
  past_label_changes todo _ = tt

  go_waiting_changes : (todo : List Task) → ChangesTo d (go_waiting class d todo)
  go_waiting_changes [] = tt
  go_waiting_changes (Do i ∷ rest) = past_label_changes rest (kind_of i)
  go_waiting_changes (Loop s left body line ∷ rest) = tt
  go_waiting_changes (Prepare call ∷ rest) = tt

  take_alternative_changes : (todo : List Task) (k : ℕ) (alt : Option Alt) → ChangesTo d (take_alternative class d todo k alt)
  take_alternative_changes todo k None = tt
  take_alternative_changes todo k (Some alt) =
      by_truth (ChangesTo d) (holds d (out-Alt alt).cond []) _ _
      (λ is. changes_then (bind_found_changes class.queries (out-Alt alt).found (out-Alt alt).binds d) (run_changes class (max_turns - 1) 1 (bind_found class.queries (out-Alt alt).found (out-Alt alt).binds d) (do_all (out-Alt alt).body todo)))
      (λ is. tt)

  past_await_changes : (todo : List Task) (k : ℕ) (kind : ItemKind-F ItemKind Alt Item RBranch) → ChangesTo d (past_await class d todo k kind)
  past_await_changes todo k (Await alts timeout label) = take_alternative_changes todo k (at_number alts k)
  past_await_changes todo k _ = tt

  take_waiting_changes : (k : ℕ) (todo : List Task) → ChangesTo d (take_waiting class d k todo)
  take_waiting_changes k [] = tt
  take_waiting_changes k (Do i ∷ rest) = past_await_changes rest k (kind_of i)
  take_waiting_changes k (Loop s left body line ∷ rest) = tt
  take_waiting_changes k (Prepare call ∷ rest) = tt

  past_timeout_changes : (todo : List Task) (kind : ItemKind-F ItemKind Alt Item RBranch) → ChangesTo d (past_timeout class d todo kind)
  past_timeout_changes todo (Await alts (Some body) label) =
      by_truth (ChangesTo d) (list_any (λ alt. holds d (out-Alt alt).cond []) alts) _ _ (λ is. tt) (λ is. run_changes class (max_turns - 1) 1 d (do_all body todo))
  past_timeout_changes todo _ = tt

  time_out_waiting_changes : (todo : List Task) → ChangesTo d (time_out_waiting class d todo)
  time_out_waiting_changes [] = tt
  time_out_waiting_changes (Do i ∷ rest) = past_timeout_changes rest (kind_of i)
  time_out_waiting_changes (Loop s left body line ∷ rest) = tt
  time_out_waiting_changes (Prepare call ∷ rest) = tt

class_step_changes : (program : Program) (class : Class) (w : World) (s : Step) (phase : Phase) → ChangesTo (arrived s w.data') (class_step program class w s phase)
class_step_changes program class w Go New = run_changes class (max_turns - 0) 0 w.data' (first_tasks program class w.data'.me)
class_step_changes program class w Go Waiting = go_waiting_changes class w.data' w.todo
class_step_changes program class w (Take k) Waiting = take_waiting_changes class w.data' k w.todo
class_step_changes program class w TimeOut Waiting = time_out_waiting_changes class w.data' w.todo
class_step_changes program class w (Deliver m p time) Waiting =
    by_truth (ChangesTo (received_at m p time w.data')) (takes class w m p) _ _ (λ is. handle_changes class m p (open_handlers class w.todo) 0 (received_at m p time w.data')) (λ is. tt)
class_step_changes program class w _ _ = tt

step_in_changes : (program : Program) (w : World) (s : Step) (found : Option Class) → ChangesTo (arrived s w.data') (step_in program w s found)
step_in_changes program w s None = tt
step_in_changes program w s (Some class) = class_step_changes program class w s w.phase

pub proc_step_changes : (program : Program) (w : World) (s : Step) → ChangesTo (arrived s w.data') (proc_step program w s)
proc_step_changes program w s = step_in_changes program w s (class_of program w.data'.me)

-- so a step keeps the number of its process
arrived-me : (s : Step) (d : Data) → (arrived s d).me ≡ d.me
arrived-me Go d = refl
arrived-me (Take k) d = refl
arrived-me TimeOut d = refl
arrived-me (Deliver m p time) d = refl

keeps_me : (s : Step) (d : Data) (step : Option Stepped) → ChangesTo (arrived s d) step → IfSome step (λ r. r.world.data'.me ≡ d.me)
keeps_me s d None changes = tt
keeps_me s d (Some r) changes = changes-me changes ∙ arrived-me s d

pub proc_step-me : (program : Program) (w : World) (s : Step) → IfSome (proc_step program w s) (λ r. r.world.data'.me ≡ w.data'.me)
proc_step-me program w s = keeps_me s w.data' (proc_step program w s) (proc_step_changes program w s)
