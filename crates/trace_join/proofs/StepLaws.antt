-- What a step of a process tells: it tells of this process alone, and a trace that goes on so asks for this step.
use Rattle.std.specs.Prelude.{◌≡◌, ℕ, zero, suc, ◌+◌, ◌-◌, ◌<◌, Bool, true, false, cond, nat_le, nat_lt, List, [], ◌∷◌, ◌++◌, length, Option, Some, None, Ok, Err, IfSome, refl}
use Rattle.std.specs.List.{list_any}
use Rattle.std.proofs.Common.{◌∙◌, ap, subst, arith}
use Rattle.std.proofs.lemmas.Bool.{eq-eqb, ne_eqb}
use Rattle.std.proofs.lemmas.Option.{slice_get_within}
use Rattle.da_values.specs.declared.val.Val.{Val}
use Rattle.da_values.specs.Views.{truth_of}
use Rattle.da_values.proofs.ViewLaws.{val_of-value_of}
use Rattle.da_lang.specs.declared.event.Action.{Action}
use Rattle.da_lang.specs.declared.program.Alt.{Alt}
use Rattle.da_lang.specs.declared.program.Class.{Class}
use Rattle.da_lang.specs.declared.program.Handler.{Handler}
use Rattle.da_lang.specs.declared.program.Item.{Item}
use Rattle.da_lang.specs.declared.program.ItemKind.{ItemKind}
use Rattle.da_lang.specs.declared.program.ItemKind.TheOpen.{ItemKind-F, Assign, Add, Del, Send, Output, If, While, For, Call, Await, Label, Pass}
use Rattle.da_lang.specs.declared.program.ItemKind.TheViews.{out-Alt, out-RBranch}
use Rattle.da_lang.specs.declared.program.Program.{Program}
use Rattle.da_lang.specs.declared.program.RBranch.{RBranch}
use Rattle.da_lang.specs.declared.program.RExpr.{RExpr}
use Rattle.da_lang.specs.Arithmetic.{Outcome}
use Rattle.da_lang.specs.Evaluation.{Outcomes, eval, eval_all}
use Rattle.da_lang.specs.Labels.{open_handlers, takes}
use Rattle.da_lang.specs.Matching.{Row, matched_entry}
use Rattle.da_lang.specs.Queries.{holds}
use Rattle.da_lang.specs.Runs.{Halt, AtYield, UsedUp, Faults, Ran, go_after, max_turns, run, run_to_yield, stopped, yields}
use Rattle.da_lang.specs.Steps.{Deliver, Go, Step, Stepped, Take, TimeOut, after_halt, class_step, closing, first_tasks, go_waiting, handle, moved, past_await, past_label, past_timeout, proc_step, received_at, step_in, take_alternative, take_waiting, time_out_waiting, try_handler}
use Rattle.da_lang.specs.Turns.{AfterTurn as Turned, bind_all, bind_found, choose, do_all, enter, kind_of, kind_turn, later, line_of, loop_turn, max_packet, packet_len, quiet, recipients, send_if, sending, turn, with_outcome, with_outcomes, with_value}
use Rattle.da_lang.specs.World.{Data, Do, Loop, New, Phase, Prepare, Task, Waiting, World, class_of, at_number}
use Rattle.da_lang.proofs.ChangeLaws.{changes-me}
use Rattle.da_lang.proofs.RunBounds.{by_truth, go_after_has, run_changes}
use Rattle.da_lang.proofs.StepLaws.{proc_step-me}
use Rattle.da_lang.proofs.TurnLaws.{bind_all_changes, bind_found_changes, turn_changes}
use Rattle.trace_join.specs.Cuts.{awaits, awaits_in, move_asked, step_asked}
use Rattle.trace_join.proofs.ChannelLaws.{AreOwn}
use Rattle.trace_join.proofs.Sublists.{none_there}

pub own_join : (me : ℕ) (xs ys : List Action) → AreOwn me xs → AreOwn me ys → AreOwn me (xs ++ ys)
own_join me [] ys first second = second
own_join me (x ∷ xs) ys first second = (first.0, own_join me xs ys first.1 second)

-- A TURN

sending_own : (me : ℕ) (m : Val) (ps : List ℕ) (clock : ℕ) → AreOwn me (sending me m ps clock)
sending_own me m [] clock = tt
sending_own me m (p ∷ ps) clock = (refl, sending_own me m ps (later clock))

module _ (class : Class) (line : ℕ) (d : Data) (todo : List Task) where
  abbrev TellsOwn : Turned → Type 0
  TellsOwn after = AreOwn d.me after.actions

  outcome_own : (found : Outcome) (go : Val → Turned) → ((v : Val) → TellsOwn (go v)) → TellsOwn (with_outcome class line d todo found go)
  outcome_own (Err kind) go own = tt
  outcome_own (Ok v) go own = own v

  outcomes_own : (found : Outcomes) (go : List Val → Turned) → ((vs : List Val) → TellsOwn (go vs)) → TellsOwn (with_outcomes class line d todo found go)
  outcomes_own (Err kind) go own = tt
  outcomes_own (Ok vs) go own = own vs

  value_own : (e : RExpr) (go : Val → Turned) → ((v : Val) → TellsOwn (go v)) → TellsOwn (with_value class line d todo e go)
  value_own e go own = outcome_own (eval class.queries e d) go own

  enter_own : (args : List RExpr) (params : List ℕ) (body : List Item) → TellsOwn (enter class line d todo args params body)
  enter_own args params body = outcomes_own (eval_all class.queries args d) _ (λ vs. tt)

  send_own : (small : Bool) (m : Val) (ps : List ℕ) → TellsOwn (send_if class line d todo small m ps)
  send_own true m ps = sending_own d.me m ps d.clock
  send_own false m ps = tt

  either_own : (b : Bool) (one other : Turned) → TellsOwn one → TellsOwn other → TellsOwn (cond b one other)
  either_own true one other first second = first
  either_own false one other first second = second

  choose_own : (branches : List RBranch) (otherwise : List Item) → TellsOwn (choose class line d todo branches otherwise)
  choose_own [] otherwise = tt
  choose_own (b ∷ branches) otherwise = value_own (out-RBranch b).cond _
      (λ v. either_own (truth_of v) (quiet (bind_found class.queries (out-RBranch b).found (out-RBranch b).binds d) (do_all (out-RBranch b).body todo)) _ tt
      (choose_own branches otherwise))

  kind_own : (itself : Task) (kind : ItemKind-F ItemKind Alt Item RBranch) → TellsOwn (kind_turn class line d todo itself kind)
  kind_own itself (Assign s e) = value_own e _ (λ v. tt)
  kind_own itself (Add s e) = value_own e _ (λ v. tt)
  kind_own itself (Del s e) = value_own e _ (λ v. tt)
  kind_own itself (Send m e) = value_own m _ (λ v. value_own e _ (λ w. send_own (nat_le (packet_len v) max_packet) v (recipients w)))
  kind_own itself (Output e) = value_own e _ (λ v. (refl, tt))
  kind_own itself (If branches otherwise) = choose_own branches otherwise
  kind_own itself (While e body) = value_own e _ (λ v. tt)
  kind_own itself (For s e body) = value_own e _ (λ v. tt)
  kind_own itself (Call args body) = enter_own _ _ body
  kind_own itself (Await alts timeout label) = tt
  kind_own itself (Label l) = tt
  kind_own itself Pass = tt

  loop_own : (s : ℕ) (left : List Val) (body : List Item) → TellsOwn (loop_turn class line d todo s left body)
  loop_own s [] body = tt
  loop_own s (x ∷ xs) body = tt

turn_own : (class : Class) (t : Task) (d : Data) (todo : List Task) → AreOwn d.me (turn class t d todo).actions
turn_own class (Do i) d todo = kind_own class (line_of i) d todo (Do i) (kind_of i)
turn_own class (Loop s left body line) d todo = loop_own class line d todo s left body
turn_own class (Prepare call) d todo = enter_own class call.line d todo call.args class.params class.setup

-- A RUN OF STATEMENTS, and of handlers

run_own : (class : Class) (left n : ℕ) (d : Data) (todo : List Task) → AreOwn d.me (run class left n d todo).actions
unfolding run
run_own class zero n d [] = tt
run_own class (suc left) n d [] = tt
run_own class zero n d (t ∷ todo) = tt
run_own class (suc left) n d (t ∷ todo) =
    let after : Turned = turn class t d todo in
    let others : List Action = (run class left (n + 1) after.data' after.todo).actions in
    by_truth (λ (ran : Ran). AreOwn d.me ran.actions) (yields t) (stopped d (t ∷ todo) n AtYield) (go_after after (n + 1) (run class left (n + 1))) (λ is. tt)
    (λ is. go_after_has (λ (ran : Ran). AreOwn d.me ran.actions) after (n + 1) (run class left (n + 1)) (λ kind line. turn_own class t d todo)
    (own_join d.me after.actions others (turn_own class t d todo)
    (subst (λ me. AreOwn me others) (changes-me (turn_changes class t d todo)) (run_own class left (n + 1) after.data' after.todo))))

pub yield_own : (class : Class) (n : ℕ) (d : Data) (todo : List Task) → AreOwn d.me (run_to_yield class n d todo).actions
yield_own class n d todo = run_own class (max_turns - n) n d todo

yield-me : (class : Class) (n : ℕ) (d : Data) (todo : List Task) → (run_to_yield class n d todo).data'.me ≡ d.me
yield-me class n d todo = changes-me (run_changes class (max_turns - n) n d todo)

halt_own : (me : ℕ) (halt : Halt) (ran : Ran) (go : ℕ → Data → Ran) → AreOwn me ran.actions → AreOwn me (go ran.turns ran.data').actions
    → AreOwn me (after_halt halt ran go).actions
halt_own me AtYield ran go first others = own_join me ran.actions (go ran.turns ran.data').actions first others
halt_own me UsedUp ran go first others = own_join me ran.actions (go ran.turns ran.data').actions first others
halt_own me (Faults kind line) ran go first others = first

try_own : (class : Class) (h : Handler) (n : ℕ) (d : Data) (row : Option Row) (go : ℕ → Data → Ran)
    → ((n : ℕ) (d' : Data) → AreOwn d'.me (go n d').actions) → AreOwn d.me (try_handler class h n d row go).actions
try_own class h n d None go others = others n d
try_own class h n d (Some row) go others =
    let bound : Data = bind_all h.binds row d in
    let ran : Ran = run_to_yield class n bound (do_all h.body []) in
    let same : bound.me ≡ d.me = changes-me (bind_all_changes h.binds row d) in
    halt_own d.me ran.halt ran go
    (subst (λ me. AreOwn me ran.actions) same (yield_own class n bound (do_all h.body [])))
    (subst (λ me. AreOwn me (go ran.turns ran.data').actions) (yield-me class n bound (do_all h.body []) ∙ same) (others ran.turns ran.data'))

handle_own : (class : Class) (m : Val) (p : ℕ) (hs : List Handler) (n : ℕ) (d : Data) → AreOwn d.me (handle class m p hs n d).actions
handle_own class m p [] n d = tt
handle_own class m p (h ∷ hs) n d =
    by_truth (λ (ran : Ran). AreOwn d.me ran.actions) (nat_lt n max_turns) _ _
    (λ is. try_own class h (n + 1) d (matched_entry d h.message h.from m p []) (handle class m p hs) (handle_own class m p hs))
    (λ is. tt)

-- A STEP OF A PROCESS

closing_own : (me : ℕ) (halt : Halt) → AreOwn me (closing me halt)
closing_own me AtYield = tt
closing_own me UsedUp = (refl, tt)
closing_own me (Faults kind line) = (refl, tt)

ran_own : (me : ℕ) (ran : Ran) → AreOwn me ran.actions → AreOwn me (ran.actions ++ closing me ran.halt)
ran_own me ran own = own_join me ran.actions (closing me ran.halt) own (closing_own me ran.halt)

-- actions of the process alone, and whatever follows them, a trace that begins so asks for the step
pub record IsTold (w : World) (step : Step) (actions : List Action) : Type 0 where
  pub own : AreOwn w.data'.me actions
  pub asks : (left : List Action) → step_asked w (actions ++ left) ≡ Some step

module _ (program : Program) (class : Class) (w : World) where
  abbrev Tells : Step → Option Stepped → Type 0
  Tells step found = IfSome found (λ (r : Stepped). IsTold w step r.actions)

  moved_told : (k : ℕ) (step : Step) (ran : Ran) → move_asked w k ≡ step → AreOwn w.data'.me ran.actions → IsTold w step (moved w.data'.me k ran).actions
  moved_told k step ran asks own = record { own = (refl, ran_own w.data'.me ran own); asks = λ left. ap (λ (s : Step). Some s) asks }

  yield_told : (k n : ℕ) (step : Step) (d : Data) (todo : List Task) → d.me ≡ w.data'.me → move_asked w k ≡ step
      → IsTold w step (moved w.data'.me k (run_to_yield class n d todo)).actions
  yield_told k n step d todo same asks = moved_told k step (run_to_yield class n d todo) asks
      (subst (λ me. AreOwn me (run_to_yield class n d todo).actions) same (yield_own class n d todo))

  label_told : (rest : List Task) (kind : ItemKind-F ItemKind Alt Item RBranch) → Tells Go (past_label class w.data' rest kind)
  label_told rest (Label l) = yield_told 0 1 Go w.data' rest refl refl
  label_told rest _ = tt

  go_told : (todo : List Task) → Tells Go (go_waiting class w.data' todo)
  go_told [] = tt
  go_told (Do i ∷ rest) = label_told rest (kind_of i)
  go_told (Loop s left body line ∷ rest) = tt
  go_told (Prepare call ∷ rest) = tt

  module _ (waits : w.phase ≡ Waiting) where
    -- where a process waits at this statement, it is told whether it is an `await` of so many alternatives
    awaits_at : (i : Item) (rest : List Task) (kind : ItemKind-F ItemKind Alt Item RBranch) (k : ℕ) → w.todo ≡ Do i ∷ rest → kind_of i ≡ kind
        → awaits w.phase w.todo k ≡ awaits_in kind k
    awaits_at i rest kind k stands is = ap (λ (phase : Phase). awaits phase w.todo k) waits ∙ ap (λ (todo : List Task). awaits Waiting todo k) stands
        ∙ ap (λ (x : ItemKind-F ItemKind Alt Item RBranch). awaits_in x k) is

    module _ (i : Item) (rest : List Task) (stands : w.todo ≡ Do i ∷ rest) (alts : List Alt) (timeout : Option (List Item)) (label : Option ℕ)
        (is : kind_of i ≡ Await alts timeout label) where
      asks_take : (k : ℕ) (alt : Alt) → at_number alts k ≡ Some alt → move_asked w k ≡ Take k
      asks_take zero alt there = none_there there
      asks_take (suc k) alt there =
          let inside : k < length alts = slice_get_within alts k alt there in
          ap (λ (b : Bool). cond b TimeOut (Take (suc k))) (awaits_at i rest (Await alts timeout label) k stands is
          ∙ ne_eqb (length alts) k (λ same. absurd (omega (arith, same, inside))))

      alternative_told : (k : ℕ) (alt : Option Alt) → at_number alts k ≡ alt → Tells (Take k) (take_alternative class w.data' rest k alt)
      alternative_told k None there = tt
      alternative_told k (Some alt) there =
          by_truth (Tells (Take k)) (holds w.data' (out-Alt alt).cond []) _ _
          (λ true'. yield_told k 1 (Take k) (bind_found class.queries (out-Alt alt).found (out-Alt alt).binds w.data') (do_all (out-Alt alt).body rest)
          (changes-me (bind_found_changes class.queries (out-Alt alt).found (out-Alt alt).binds w.data')) (asks_take k alt there))
          (λ false'. tt)

      asks_timeout : move_asked w (length alts + 1) ≡ TimeOut
      asks_timeout =
          ap (move_asked w) (let same : length alts + 1 ≡ suc (length alts) = omega arith in same)
          ∙ ap (λ (b : Bool). cond b TimeOut (Take (suc (length alts)))) (awaits_at i rest (Await alts timeout label) (length alts) stands is
          ∙ eq-eqb (length alts) (length alts) refl)

    await_told : (i : Item) (rest : List Task) (k : ℕ) → w.todo ≡ Do i ∷ rest → (kind : ItemKind-F ItemKind Alt Item RBranch) → kind_of i ≡ kind
        → Tells (Take k) (past_await class w.data' rest k kind)
    await_told i rest k stands (Await alts timeout label) is = alternative_told i rest stands alts timeout label is k (at_number alts k) refl
    await_told i rest k stands _ is = tt

    take_told : (k : ℕ) (todo : List Task) → w.todo ≡ todo → Tells (Take k) (take_waiting class w.data' k todo)
    take_told k [] stands = tt
    take_told k (Do i ∷ rest) stands = await_told i rest k stands (kind_of i) refl
    take_told k (Loop s left body line ∷ rest) stands = tt
    take_told k (Prepare call ∷ rest) stands = tt

    timeout_told : (i : Item) (rest : List Task) → w.todo ≡ Do i ∷ rest → (kind : ItemKind-F ItemKind Alt Item RBranch) → kind_of i ≡ kind
        → Tells TimeOut (past_timeout class w.data' rest kind)
    timeout_told i rest stands (Await alts (Some body) label) is =
        by_truth (Tells TimeOut) (list_any (λ alt. holds w.data' (out-Alt alt).cond []) alts) _ _ (λ true'. tt)
        (λ false'. yield_told (length alts + 1) 1 TimeOut w.data' (do_all body rest) refl (asks_timeout i rest stands alts (Some body) label is))
    timeout_told i rest stands _ is = tt

    time_out_told : (todo : List Task) → w.todo ≡ todo → Tells TimeOut (time_out_waiting class w.data' todo)
    time_out_told [] stands = tt
    time_out_told (Do i ∷ rest) stands = timeout_told i rest stands (kind_of i) refl
    time_out_told (Loop s left body line ∷ rest) stands = tt
    time_out_told (Prepare call ∷ rest) stands = tt

  class_told : (step : Step) (phase : Phase) → w.phase ≡ phase → Tells step (class_step program class w step phase)
  class_told Go New is = yield_told 0 0 Go w.data' (first_tasks program class w.data'.me) refl refl
  class_told Go Waiting is = go_told w.todo
  class_told (Take k) Waiting is = take_told is k w.todo refl
  class_told TimeOut Waiting is = time_out_told is w.todo refl
  class_told (Deliver m p time) Waiting is =
      let d : Data = received_at m p time w.data' in
      let hs : List Handler = open_handlers class w.todo in
      by_truth (Tells (Deliver m p time)) (takes class w m p) _ _
      (λ true'. record {
        own = (refl, ran_own w.data'.me (handle class m p hs 0 d) (handle_own class m p hs 0 d));
        asks = λ left. ap (λ (v : Val). Some (Deliver v p time)) (val_of-value_of m);
      })
      (λ false'. tt)
  class_told _ _ is = tt

any_told : (program : Program) (w : World) (step : Step) (found : Option Class)
    → IfSome (step_in program w step found) (λ (r : Stepped). IsTold w step r.actions)
any_told program w step None = tt
any_told program w step (Some class) = class_told program class w step w.phase refl

pub step_told : (program : Program) (w : World) (step : Step) (r : Stepped) → proc_step program w step ≡ Some r → IsTold w step r.actions
step_told program w step r makes = subst (λ (o : Option Stepped). IfSome o (λ (x : Stepped). IsTold w step x.actions)) makes
    (any_told program w step (class_of program w.data'.me))

pub step-me : (program : Program) (w : World) (step : Step) (r : Stepped) → proc_step program w step ≡ Some r → r.world.data'.me ≡ w.data'.me
step-me program w step r makes = subst (λ (o : Option Stepped). IfSome o (λ (x : Stepped). x.world.data'.me ≡ w.data'.me)) makes (proc_step-me program w step)
