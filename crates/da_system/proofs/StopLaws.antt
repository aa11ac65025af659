-- A run ends by `stop` exactly where an event is not allowed: no step tells of a stop.
use Rattle.std.specs.Prelude.{◌≡◌, ℕ, zero, suc, ◌+◌, ◌-◌, Bool, true, false, cond, nat_le, nat_lt, List, [], ◌∷◌, ◌++◌, map, length, Option, Some, None, Ok, Err, IfSome}
use Rattle.std.specs.List.{AllByRecursion, list_any}
use Rattle.std.proofs.Common.{◌∙◌, ap, sym, subst, arith, append_assoc}
use Rattle.da_values.specs.declared.val.Val.{Val}
use Rattle.da_values.specs.Views.{truth_of}
use Rattle.da_lang.specs.declared.event.Action.{Action}
use Rattle.da_lang.specs.declared.event.Action.TheVariants.{Answer, Kept, Stop}
use Rattle.da_lang.specs.declared.event.Event.{Event}
use Rattle.da_lang.specs.declared.event.Event.TheVariants as event
use Rattle.da_lang.specs.declared.program.Alt.{Alt}
use Rattle.da_lang.specs.declared.program.Class.{Class}
use Rattle.da_lang.specs.declared.program.Handler.{Handler}
use Rattle.da_lang.specs.declared.program.Item.{Item}
use Rattle.da_lang.specs.declared.program.ItemKind.{ItemKind}
use Rattle.da_lang.specs.declared.program.ItemKind.TheOpen.{ItemKind-F, Assign, Add, Del, Send, Output, If, While, For, Call, Await, Label, Pass}
use Rattle.da_lang.specs.declared.program.ItemKind.TheViews.{out-Alt, out-RBranch}
use Rattle.da_lang.specs.declared.program.Program.{Program}
use Rattle.da_lang.specs.declared.program.RBranch.{RBranch}
use Rattle.da_lang.specs.declared.program.RExpr.{RExpr}
use Rattle.da_lang.specs.declared.query.Query.{Query}
use Rattle.da_lang.specs.Arithmetic.{Outcome}
use Rattle.da_lang.specs.Evaluation.{Outcomes, eval, eval_all}
use Rattle.da_lang.specs.Labels.{open_handlers, takes}
use Rattle.da_lang.specs.Matching.{Row, matched_entry}
use Rattle.da_lang.specs.Queries.{holds, shown_set}
use Rattle.da_lang.specs.Runs.{Halt, AtYield, UsedUp, Faults, Ran, go_after, max_turns, run, run_to_yield, stopped, yields}
use Rattle.da_lang.specs.Steps.{Deliver, Go, Step, Stepped, Take, TimeOut, after_halt, class_step, closing, first_tasks, go_waiting, handle, past_await, past_label, past_timeout, proc_step, received_at, step_in, take_alternative, take_waiting, time_out_waiting, try_handler}
use Rattle.da_lang.specs.Turns.{AfterTurn as Turned, bind_all, bind_found, choose, do_all, enter, kind_of, kind_turn, later, line_of, loop_turn, max_packet, packet_len, quiet, recipients, send_if, sending, turn, with_outcome, with_outcomes, with_value}
use Rattle.da_lang.specs.World.{Data, Do, Loop, New, Phase, Prepare, Task, Waiting, World, class_of, at_number}
use Rattle.da_lang.proofs.RunBounds.{by_truth, go_after_has}
use Rattle.da_core.specs.Told.{answers_of, kept_of, numbers_to}
use Rattle.da_system.specs.Channels.{MessageInFlight, channel, may_arrive, may_lose, may_repeat}
use Rattle.da_system.specs.SourceRun.{EndsByStop, SrcRun, at_event, src_run_from}
use Rattle.da_system.specs.SystemStep.{AfterEvent, SystemState, arrive, copy_message, drop_message, process_step, step_of, stepped, sys_step, told}

abbrev IsNoStop : Action → Type 0
IsNoStop (Stop i) = ⊥
IsNoStop _ = Unit {0}

-- none of them says that the run stops
abbrev pub NoStop : List Action → Type 0
NoStop actions = AllByRecursion IsNoStop actions

no_stop_then : (xs ys : List Action) → NoStop xs → NoStop ys → NoStop (xs ++ ys)
no_stop_then [] ys first next = next
no_stop_then (x ∷ xs) ys first next = (first.0, no_stop_then xs ys first.1 next)

-- A TURN

sending_tells : (me : ℕ) (m : Val) (ps : List ℕ) (clock : ℕ) → NoStop (sending me m ps clock)
sending_tells me m [] clock = tt
sending_tells me m (p ∷ ps) clock = (tt, sending_tells me m ps (later clock))

module _ (class : Class) (line : ℕ) (d : Data) (todo : List Task) where
  abbrev Tells : Turned → Type 0
  Tells after = NoStop after.actions

  outcome_tells : (found : Outcome) (go : Val → Turned) → ((v : Val) → Tells (go v)) → Tells (with_outcome class line d todo found go)
  outcome_tells (Err kind) go tells = tt
  outcome_tells (Ok v) go tells = tells v

  outcomes_tell : (found : Outcomes) (go : List Val → Turned) → ((vs : List Val) → Tells (go vs)) → Tells (with_outcomes class line d todo found go)
  outcomes_tell (Err kind) go tells = tt
  outcomes_tell (Ok vs) go tells = tells vs

  value_tells : (e : RExpr) (go : Val → Turned) → ((v : Val) → Tells (go v)) → Tells (with_value class line d todo e go)
  value_tells e go tells = outcome_tells (eval class.queries e d) go tells

  enter_tells : (args : List RExpr) (params : List ℕ) (body : List Item) → Tells (enter class line d todo args params body)
  enter_tells args params body = outcomes_tell (eval_all class.queries args d) _ (λ vs. tt)

  send_if_tells : (small : Bool) (m : Val) (ps : List ℕ) → Tells (send_if class line d todo small m ps)
  send_if_tells true m ps = sending_tells d.me m ps d.clock
  send_if_tells false m ps = tt

  chosen_tell : (b : Bool) (taken others : Turned) → Tells taken → Tells others → Tells (cond b taken others)
  chosen_tell true taken others tells tell = tells
  chosen_tell false taken others tells tell = tell

  choose_tells : (bs : List RBranch) (otherwise : List Item) → Tells (choose class line d todo bs otherwise)
  choose_tells [] otherwise = tt
  choose_tells (b ∷ bs) otherwise = value_tells (out-RBranch b).cond _
      (λ v. chosen_tell (truth_of v) (quiet (bind_found class.queries (out-RBranch b).found (out-RBranch b).binds d) (do_all (out-RBranch b).body todo)) _ tt (choose_tells bs otherwise))

  kind_tells : (itself : Task) (kind : ItemKind-F ItemKind Alt Item RBranch) → Tells (kind_turn class line d todo itself kind)
  kind_tells itself (Assign s e) = value_tells e _ (λ v. tt)
  kind_tells itself (Add s e) = value_tells e _ (λ v. tt)
  kind_tells itself (Del s e) = value_tells e _ (λ v. tt)
  kind_tells itself (Send m e) = value_tells m _ (λ v. value_tells e _ (λ w. send_if_tells (nat_le (packet_len v) max_packet) v (recipients w)))
  kind_tells itself (Output e) = value_tells e _ (λ v. (tt, tt))
  kind_tells itself (If branches otherwise) = choose_tells branches otherwise
  kind_tells itself (While e body) = value_tells e _ (λ v. tt)
  kind_tells itself (For s e body) = value_tells e _ (λ v. tt)
  kind_tells itself (Call args body) = enter_tells _ _ body
  kind_tells itself (Await alts timeout label) = tt
  kind_tells itself (Label l) = tt
  kind_tells itself Pass = tt

  loop_tells : (s : ℕ) (left : List Val) (body : List Item) → Tells (loop_turn class line d todo s left body)
  loop_tells s [] body = tt
  loop_tells s (x ∷ xs) body = tt

turn_tells : (class : Class) (t : Task) (d : Data) (todo : List Task) → NoStop (turn class t d todo).actions
turn_tells class (Do i) d todo = kind_tells class (line_of i) d todo (Do i) (kind_of i)
turn_tells class (Loop s left body line) d todo = loop_tells class line d todo s left body
turn_tells class (Prepare call) d todo = enter_tells class call.line d todo call.args class.params class.setup

-- A RUN OF STATEMENTS, and of handlers

run_tells : (class : Class) (left n : ℕ) (d : Data) (todo : List Task) → NoStop (run class left n d todo).actions
unfolding run
run_tells class zero n d [] = tt
run_tells class (suc left) n d [] = tt
run_tells class zero n d (t ∷ todo) = tt
run_tells class (suc left) n d (t ∷ todo) =
    let after : Turned = turn class t d todo in
    by_truth (λ (ran : Ran). NoStop ran.actions) (yields t) (stopped d (t ∷ todo) n AtYield) (go_after after (n + 1) (run class left (n + 1))) (λ is. tt)
    (λ is. go_after_has (λ (ran : Ran). NoStop ran.actions) after (n + 1) (run class left (n + 1)) (λ kind line. turn_tells class t d todo)
    (no_stop_then after.actions (run class left (n + 1) after.data' after.todo).actions (turn_tells class t d todo) (run_tells class left (n + 1) after.data' after.todo)))

to_yield_tells : (class : Class) (n : ℕ) (d : Data) (todo : List Task) → NoStop (run_to_yield class n d todo).actions
to_yield_tells class n d todo = run_tells class (max_turns - n) n d todo

after_halt_tells : (halt : Halt) (ran : Ran) (go : ℕ → Data → Ran) → NoStop ran.actions → ((n : ℕ) (d : Data) → NoStop (go n d).actions) → NoStop (after_halt halt ran go).actions
after_halt_tells AtYield ran go before others = no_stop_then ran.actions (go ran.turns ran.data').actions before (others ran.turns ran.data')
after_halt_tells UsedUp ran go before others = no_stop_then ran.actions (go ran.turns ran.data').actions before (others ran.turns ran.data')
after_halt_tells (Faults kind line) ran go before others = before

try_tells : (class : Class) (h : Handler) (n : ℕ) (d : Data) (row : Option Row) (go : ℕ → Data → Ran) → ((n : ℕ) (d : Data) → NoStop (go n d).actions) → NoStop (try_handler class h n d row go).actions
try_tells class h n d None go others = others n d
try_tells class h n d (Some row) go others =
    let ran : Ran = run_to_yield class n (bind_all h.binds row d) (do_all h.body []) in
    after_halt_tells ran.halt ran go (to_yield_tells class n (bind_all h.binds row d) (do_all h.body [])) others

handle_tells : (class : Class) (m : Val) (p : ℕ) (hs : List Handler) (n : ℕ) (d : Data) → NoStop (handle class m p hs n d).actions
handle_tells class m p [] n d = tt
handle_tells class m p (h ∷ hs) n d =
    by_truth (λ (ran : Ran). NoStop ran.actions) (nat_lt n max_turns) _ _
    (λ is. try_tells class h (n + 1) d (matched_entry d h.message h.from m p []) (handle class m p hs) (handle_tells class m p hs))
    (λ is. tt)

-- A STEP OF A PROCESS

closing_tells : (me : ℕ) (halt : Halt) → NoStop (closing me halt)
closing_tells me AtYield = tt
closing_tells me UsedUp = (tt, tt)
closing_tells me (Faults kind line) = (tt, tt)

abbrev Quiet : Option Stepped → Type 0
Quiet step = IfSome step (λ (r : Stepped). NoStop r.actions)

ran_tells : (me : ℕ) (ran : Ran) → NoStop ran.actions → NoStop (ran.actions ++ closing me ran.halt)
ran_tells me ran tells = no_stop_then ran.actions (closing me ran.halt) tells (closing_tells me ran.halt)

module _ (class : Class) (d : Data) where
  label_quiet : (todo : List Task) (kind : ItemKind-F ItemKind Alt Item RBranch) → Quiet (past_label class d todo kind)
  label_quiet todo (Label l) = (tt, ran_tells d.me (run_to_yield class 1 d todo) (to_yield_tells class 1 d todo))
  label_quiet todo _ = tt

  go_quiet : (todo : List Task) → Quiet (go_waiting class d todo)
  go_quiet [] = tt
  go_quiet (Do i ∷ rest) = label_quiet rest (kind_of i)
  go_quiet (Loop s left body line ∷ rest) = tt
  go_quiet (Prepare call ∷ rest) = tt

  alternative_quiet : (todo : List Task) (k : ℕ) (alt : Option Alt) → Quiet (take_alternative class d todo k alt)
  alternative_quiet todo k None = tt
  alternative_quiet todo k (Some alt) =
      by_truth Quiet (holds d (out-Alt alt).cond []) _ _
      (λ is.
      let bound : Data = bind_found class.queries (out-Alt alt).found (out-Alt alt).binds d in
      let tasks : List Task = do_all (out-Alt alt).body todo in
      (tt, ran_tells d.me (run_to_yield class 1 bound tasks) (to_yield_tells class 1 bound tasks)))
      (λ is. tt)

  await_quiet : (todo : List Task) (k : ℕ) (kind : ItemKind-F ItemKind Alt Item RBranch) → Quiet (past_await class d todo k kind)
  await_quiet todo k (Await alts timeout label) = alternative_quiet todo k (at_number alts k)
  await_quiet todo k _ = tt

  take_quiet : (k : ℕ) (todo : List Task) → Quiet (take_waiting class d k todo)
  take_quiet k [] = tt
  take_quiet k (Do i ∷ rest) = await_quiet rest k (kind_of i)
  take_quiet k (Loop s left body line ∷ rest) = tt
  take_quiet k (Prepare call ∷ rest) = tt

  timeout_quiet : (todo : List Task) (kind : ItemKind-F ItemKind Alt Item RBranch) → Quiet (past_timeout class d todo kind)
  timeout_quiet todo (Await alts (Some body) label) =
      by_truth Quiet (list_any (λ alt. holds d (out-Alt alt).cond []) alts) _ _ (λ is. tt)
      (λ is. (tt, ran_tells d.me (run_to_yield class 1 d (do_all body todo)) (to_yield_tells class 1 d (do_all body todo))))
  timeout_quiet todo _ = tt

  time_out_quiet : (todo : List Task) → Quiet (time_out_waiting class d todo)
  time_out_quiet [] = tt
  time_out_quiet (Do i ∷ rest) = timeout_quiet rest (kind_of i)
  time_out_quiet (Loop s left body line ∷ rest) = tt
  time_out_quiet (Prepare call ∷ rest) = tt

class_quiet : (program : Program) (class : Class) (w : World) (s : Step) (phase : Phase) → Quiet (class_step program class w s phase)
class_quiet program class w Go New =
    let tasks : List Task = first_tasks program class w.data'.me in
    (tt, ran_tells w.data'.me (run_to_yield class 0 w.data' tasks) (to_yield_tells class 0 w.data' tasks))
class_quiet program class w Go Waiting = go_quiet class w.data' w.todo
class_quiet program class w (Take k) Waiting = take_quiet class w.data' k w.todo
class_quiet program class w TimeOut Waiting = time_out_quiet class w.data' w.todo
class_quiet program class w (Deliver m p time) Waiting =
    let d : Data = received_at m p time w.data' in
    let hs : List Handler = open_handlers class w.todo in
    by_truth Quiet (takes class w m p) _ _ (λ is. (tt, ran_tells w.data'.me (handle class m p hs 0 d) (handle_tells class m p hs 0 d))) (λ is. tt)
class_quiet program class w _ _ = tt

in_quiet : (program : Program) (w : World) (s : Step) (class : Option Class) → Quiet (step_in program w s class)
in_quiet program w s None = tt
in_quiet program w s (Some class) = class_quiet program class w s w.phase

-- A STEP OF A SYSTEM

abbrev NoneStops : Option AfterEvent → Type 0
NoneStops step = IfSome step (λ (after : AfterEvent). NoStop after.actions)

stepped_stops : (s : SystemState) (p : ℕ) (step : Option Stepped) → Quiet step → NoneStops (stepped s p step)
stepped_stops s p None quiet = tt
stepped_stops s p (Some step) quiet = quiet

of_stops : (program : Program) (s : SystemState) (p : ℕ) (world : Option World) (step : Step) → NoneStops (step_of program s p world step)
of_stops program s p None step = tt
of_stops program s p (Some world) step = stepped_stops s p (proc_step program world step) (in_quiet program world step (class_of program world.data'.me))

process_stops : (program : Program) (s : SystemState) (p : ℕ) (step : Step) → NoneStops (process_step program s p step)
process_stops program s p step = of_stops program s p (at_number s.worlds p) step

arrive_stops : (program : Program) (s : SystemState) (p q i : ℕ) (message : Option MessageInFlight) → NoneStops (arrive program s p q i message)
arrive_stops program s p q i None = tt
arrive_stops program s p q i (Some message) = process_stops program _ q _

drop_stops : (s : SystemState) (p q i : ℕ) (message : Option MessageInFlight) → NoneStops (drop_message s p q i message)
drop_stops s p q i None = tt
drop_stops s p q i (Some message) = (tt, tt)

copy_stops : (s : SystemState) (p q : ℕ) (message : Option MessageInFlight) → NoneStops (copy_message s p q message)
copy_stops s p q None = tt
copy_stops s p q (Some message) = (tt, tt)

told_stops : (s : SystemState) (world : Option World) (tell : Data → List Action) → ((d : Data) → NoStop (tell d)) → NoneStops (told s world tell)
told_stops s None tell tells = tt
told_stops s (Some world) tell tells = tells world.data'

answers_tell : (p : ℕ) (queries : List Query) (d : Data) (ns : List ℕ) → NoStop (map (λ n. Answer p n (shown_set queries n d)) ns)
answers_tell p queries d [] = tt
answers_tell p queries d (n ∷ ns) = (tt, answers_tell p queries d ns)

answers_of_tell : (p : ℕ) (class : Option Class) (d : Data) → NoStop (answers_of p class d)
answers_of_tell p None d = tt
answers_of_tell p (Some class) d = answers_tell p class.queries d (numbers_to (length class.queries))

pub step_stops : (program : Program) (s : SystemState) (e : Event) → NoneStops (sys_step program s e)
step_stops program s (event.Move p) = process_stops program s p Go
step_stops program s (event.Take p k) = process_stops program s p (Take k)
step_stops program s (event.Timeout p) = process_stops program s p TimeOut
step_stops program s (event.Deliver p q i) = by_truth NoneStops (may_arrive s.kind i) _ _ (λ is. arrive_stops program s p q i (at_number (channel s.channels p q) i)) (λ is. tt)
step_stops program s (event.Lose p q i) = by_truth NoneStops (may_lose s.kind) _ _ (λ is. drop_stops s p q i (at_number (channel s.channels p q) i)) (λ is. tt)
step_stops program s (event.Repeat p q i) = by_truth NoneStops (may_repeat s.kind) _ _ (λ is. copy_stops s p q (at_number (channel s.channels p q) i)) (λ is. tt)
step_stops program s (event.Show p) = told_stops s (at_number s.worlds p) (answers_of p (class_of program p)) (answers_of_tell p (class_of program p))
step_stops program s (event.Stat p) = told_stops s (at_number s.worlds p) (λ d. Kept p (kept_of (class_of program p) d) ∷ []) (λ d. (tt, tt))

-- THE RUN

-- what ends by a stop after others that tell of none
stop_after : (xs rest : List Action) (k : ℕ) → NoStop xs → EndsByStop (xs ++ rest) k → EndsByStop rest k
stop_after [] rest k none ends = ends
stop_after (x ∷ xs) rest k none ([], is) = absurd (subst IsNoStop (let same : x ≡ Stop k = cc in same) none.0)
stop_after (x ∷ xs) rest k none (b ∷ bs, is) = stop_after xs rest k none.1 (bs, cc)

module _ (program : Program) where
  -- a run that an event stops ends so
  stops_by : (i k : ℕ) (s : SystemState) (step : Option AfterEvent) (rest : SystemState → SrcRun) → ((next : SystemState) → (rest next).stop ≡ Some k → EndsByStop (rest next).actions k)
      → (at_event i s step rest).stop ≡ Some k → EndsByStop (at_event i s step rest).actions k
  stops_by i k s None rest go is = ([], cc)
  stops_by i k s (Some after) rest go is = let (before, ends) = go after.state is in (after.actions ++ before, ap (λ xs. after.actions ++ xs) ends ∙ sym (append_assoc after.actions before (Stop k ∷ [])))

  pub stop_ends : (i : ℕ) (s : SystemState) (es : List Event) (k : ℕ) → (src_run_from program i s es).stop ≡ Some k → EndsByStop (src_run_from program i s es).actions k
  stop_ends i s [] k is = absurd (let clash : ◌≡◌ {A = Option ℕ} None (Some k) = is in cc)
  stop_ends i s (e ∷ es) k is = stops_by i k s (sys_step program s e) _ (λ next. stop_ends (i + 1) next es k) is

  -- and one that ends so was stopped there
  ended_by : (i k : ℕ) (s : SystemState) (step : Option AfterEvent) (rest : SystemState → SrcRun) → ((next : SystemState) → EndsByStop (rest next).actions k → (rest next).stop ≡ Some k)
      → IfSome step (λ (after : AfterEvent). NoStop after.actions) → EndsByStop (at_event i s step rest).actions k → (at_event i s step rest).stop ≡ Some k
  ended_by i k s None rest go none ([], is) = cc
  ended_by i k s None rest go none (b ∷ [], is) = absurd (let sizes : 1 ≡ 2 = ap length is in omega (arith, sizes))
  ended_by i k s None rest go none (b ∷ c ∷ bs, is) = absurd (let sizes : 1 ≡ suc (suc (length (bs ++ Stop k ∷ []))) = ap length is in omega (arith, sizes))
  ended_by i k s (Some after) rest go none ends = go after.state (stop_after after.actions (rest after.state).actions k none ends)

  pub ends_stopped : (i : ℕ) (s : SystemState) (es : List Event) (k : ℕ) → EndsByStop (src_run_from program i s es).actions k → (src_run_from program i s es).stop ≡ Some k
  ends_stopped i s [] k ([], is) = absurd (let sizes : 0 ≡ 1 = ap length is in omega (arith, sizes))
  ends_stopped i s [] k (b ∷ bs, is) = absurd (let sizes : 0 ≡ suc (length (bs ++ Stop k ∷ [])) = ap length is in omega (arith, sizes))
  ends_stopped i s (e ∷ es) k ends = ended_by i k s (sys_step program s e) _ (λ next. ends_stopped (i + 1) next es k) (step_stops program s e) ends
