-- The code runs as what it stands for.
use Rattle.std.proofs.Common.{◌≡◌, ℕ, zero, suc, ◌+◌, ◌-◌, ◌<◌, ◌≤◌, List, [], ◌∷◌, ◌++◌, Option, Some, None, refl, sym, ap, ◌∙◌, subst, arith}
use Rattle.std.specs.Prelude.{true, false, nat_lt}
use Rattle.std.proofs.lemmas.Bool.{lt-ltb, lt-leb}
use Rattle.std.proofs.lemmas.List.Elements.{All-head}
use Rattle.da_values.specs.declared.val.Val.{Val}
use Rattle.da_lang.specs.declared.code.Instr.{Instr}
use Rattle.da_lang.specs.declared.code.Instr.TheVariants as op
use Rattle.da_lang.specs.declared.event.Action.{Action}
use Rattle.da_lang.specs.declared.event.FaultKind.{FaultKind}
use Rattle.da_lang.specs.declared.event.FaultKind.TheVariants.{TooLong}
use Rattle.da_lang.specs.declared.program.Alt.{Alt}
use Rattle.da_lang.specs.declared.program.Class.{Class}
use Rattle.da_lang.specs.declared.program.Item.{Item}
use Rattle.da_lang.specs.declared.program.ItemKind.{ItemKind}
use Rattle.da_lang.specs.declared.program.ItemKind.TheOpen.{ItemKind-F}
use Rattle.da_lang.specs.declared.program.Program.{Program}
use Rattle.da_lang.specs.declared.program.RBranch.{RBranch}
use Rattle.da_lang.specs.declared.program.SetupCall.{SetupCall}
use Rattle.da_lang.specs.Runs.{Halt, AtYield, UsedUp, Faults, Ran, ran_after, behind_turn, kind_yields, max_turns, run, run_to_yield, yields}
use Rattle.da_lang.specs.Shaped.{IsTask, ShapedTasks}
use Rattle.da_lang.specs.Turns.{kind_of, line_of, line_of_task, turn}
use Rattle.da_lang.specs.World.{Data, Task, Do, Loop, Prepare}
use Rattle.da_lang.proofs.RunLaws.{run_end, run_late, run_turn, run_yield}
use Rattle.da_machine.specs.declared.code.Code.{Code}
use Rattle.da_machine.specs.declared.machine.Machine.{Machine}
use Rattle.da_machine.specs.declared.machine.Stop.{Stop}
use Rattle.da_machine.specs.declared.machine.Stop.TheVariants as stop
use Rattle.da_machine.specs.Acts.{turn_if}
use Rattle.da_machine.specs.CodeFor.{Has, CodeFor, EnterAt, ItemAt, LoopAt, WorkAt}
use Rattle.da_machine.specs.Conditions.{IsKnown}
use Rattle.da_machine.specs.Promises.{Promises}
use Rattle.da_machine.specs.RunsTo.{RunsTo}
use Rattle.da_machine.specs.Stops.{CanRun, IsRun, IsStop}
use Rattle.da_machine.proofs.promises.Promised.{promises_known}
use Rattle.da_machine.proofs.Leading.{Leads, joined, one, stops}
use Rattle.da_machine.proofs.TurnCode.{Does, DoesTurn, Stands, enters, loops_on, works}

-- the machine runs to a stop as what is to do runs
pub record RunsAs (p : Program) (class : Class) (code : Code) (m : Machine) (d : Data) (ran : Ran) : Type 0 where
  pub stop : Stop
  pub last : Machine
  pub runs : RunsTo p class code m d ran.actions stop last ran.data'
  pub turns : last.turns ≡ ran.turns
  pub stops : IsStop code class stop last ran.todo ran.halt

-- what a process knows and has to do
pub record IsWorld (p : Program) (class : Class) (d : Data) (todo : List Task) : Type 0 where
  pub known : IsKnown p class d
  pub tasks : ShapedTasks p class d.me todo

-- where the machine stands
pub record IsAt (m : Machine) (at : ℕ) (loops : List (List Val)) (turns : ℕ) : Type 0 where
  pub place : m.place ≡ at
  pub inside : m.loops ≡ loops
  pub taken : m.turns ≡ turns

-- a statement whose code does something is no yield point
works_on : (code : Code) (class : Class) (at line : ℕ) (k : ItemKind-F ItemKind Alt Item RBranch) (end : ℕ) → WorkAt code class at line k end → kind_yields k ≡ false
works_on code class _ _ _ _ (WorkAt.assign x has) = refl
works_on code class _ _ _ _ (WorkAt.add x has) = refl
works_on code class _ _ _ _ (WorkAt.del x has) = refl
works_on code class _ _ _ _ (WorkAt.send x y has) = refl
works_on code class _ _ _ _ (WorkAt.output x has) = refl
works_on code class _ _ _ _ (WorkAt.choice x) = refl
works_on code class _ _ _ _ (WorkAt.while x jump block back) = refl
works_on code class _ _ _ _ (WorkAt.for x has rest) = refl
works_on code class _ _ _ _ (WorkAt.call x) = refl
works_on code class _ _ _ _ WorkAt.pass = refl

module _ (p : Program) (class : Class) (code : Code) (promises : Promises p class) where
  abbrev As : Machine → Data → Ran → Type 0
  As m d ran = RunsAs p class code m d ran

  -- the machine in a turn on a line, after the instruction that begins it
  abbrev in_turn : Machine → ℕ → ℕ → Machine
  in_turn m line at = record m { place = at; turns = m.turns + 1; line = line }

  -- from where the machine stands to its place in the code
  at_place : (m : Machine) (at : ℕ) (i : Instr) → m.place ≡ at → Has code at i → Has code m.place i
  at_place m at i is has = subst (λ k. Has code k i) (sym is) has

  leads_as : (m m1 : Machine) (d d1 : Data) (actions : List Action) (ran : Ran) → Leads p class code m d m1 d1 actions → As m1 d1 ran → As m d (ran_after actions ran)
  leads_as m m1 d d1 actions ran leads runs = record { stop = runs.stop; last = runs.last; runs = leads.by ran.actions runs.stop runs.last ran.data' runs.runs; turns = runs.turns; stops = runs.stops }

  -- after a turn: its fault, or the run from what it leaves
  after_as : (m0 m1 : Machine) (d d1 : Data) (todo : List Task) (actions : List Action) (fault : Option (FaultKind × ℕ)) (n : ℕ) (go : Data → List Task → Ran)
      → Leads p class code m0 d m1 d [] → m1.turns ≡ n → Does p class code m1 d d1 todo actions fault → ((m : Machine) → Stands p class code m todo n → As m d1 (go d1 todo)) → As m0 d (behind_turn d1 todo actions n go fault)
  after_as m0 m1 d d1 todo actions (Some fault) n go leads taken does goes_on =
      record { stop = stop.Fault fault.0 fault.1; last = does.last; runs = leads.by actions _ _ _ does.runs; turns = does.turns ∙ taken; stops = refl }
  after_as m0 m1 d d1 todo actions None n go leads taken does goes_on =
      leads_as m0 does.0 d d1 actions (go d1 todo) (joined p class code m0 m1 does.0 d d d1 actions leads does.1)
      (goes_on does.0 (record { code_for = does.2.code_for; same_turns = does.2.same_turns ∙ taken }))

  -- it stands before a yield point
  yields_as : (m : Machine) (d : Data) (at k n left : ℕ) (loops : List (List Val)) (t : Task) (todo : List Task) → IsKnown p class d → IsAt m at loops n → yields t ≡ true → Has code at (op.Yield k)
      → CodeFor code class at loops (t ∷ todo) → As m d (run class left n d (t ∷ todo))
  yields_as m d at k n left loops t todo known is yield has code_for =
      let there = at_place m at (op.Yield k) is.place has in
      let stands = subst (λ i. CodeFor code class i m.loops (t ∷ todo)) (sym is.place) (subst (λ l. CodeFor code class at l (t ∷ todo)) (sym is.inside) code_for) in
      subst (As m d) (sym (run_yield class left n d t todo yield))
      (record { stop = stop.Yield k; last = m; runs = stops p class code d known m m (stop.Yield k) (op.Yield k) there tt refl; turns = is.taken; stops = (k, refl, there, stands) })

  -- the event has taken all its turns
  late_as : (m : Machine) (d : Data) (at n : ℕ) (loops : List (List Val)) (t : Task) (todo : List Task) → IsKnown p class d → IsAt m at loops n → n ≡ max_turns → yields t ≡ false
      → Has code at (op.Turn (line_of_task t)) → As m d (run class zero n d (t ∷ todo))
  late_as m d at n loops t todo known is late works has =
      let over : nat_lt m.turns max_turns ≡ false = lt-leb (suc m.turns) max_turns (omega (arith, is.taken, late)) in
      subst (As m d) (sym (run_late class n d t todo works))
      (record { stop = stop.Fault TooLong (line_of_task t); last = m; runs = stops p class code d known m m _ _ (at_place m at _ is.place has) tt (ap (turn_if m d (line_of_task t)) over); turns = is.taken; stops = refl })

  -- a turn
  turn_as : (m : Machine) (d : Data) (at n left : ℕ) (loops : List (List Val)) (t : Task) (todo : List Task) → IsWorld p class d (t ∷ todo) → IsAt m at loops n → n < max_turns → yields t ≡ false
      → Has code at (op.Turn (line_of_task t)) → DoesTurn p class code (in_turn m (line_of_task t) (at + 1)) d (turn class t d todo)
      → ((m1 : Machine) (d1 : Data) (todo1 : List Task) → IsWorld p class d1 todo1 → Stands p class code m1 todo1 (n + 1) → As m1 d1 (run class left (n + 1) d1 todo1))
      → As m d (run class (suc left) n d (t ∷ todo))
  turn_as m d at n left loops t todo world is early works has does goes_on =
      let after = turn class t d todo in
      let less : nat_lt m.turns max_turns ≡ true = lt-ltb m.turns max_turns (omega (arith, is.taken, early)) in
      let place : at + 1 ≡ m.place + 1 = omega (arith, is.place) in
      let begins : Leads p class code m d (in_turn m (line_of_task t) (at + 1)) d [] =
      subst (λ k. Leads p class code m d (in_turn m (line_of_task t) k) d []) (sym place) (one p class code d world.known m _ d [] _ (at_place m at _ is.place has) tt (ap (turn_if m d (line_of_task t)) less)) in
      let kept = promises.keeps t d todo world.known.shaped world.tasks in
      subst (As m d) (sym (run_turn class left n d t todo works))
      (after_as m (in_turn m (line_of_task t) (at + 1)) d after.data' after.todo after.actions after.fault (n + 1) (run class left (n + 1)) begins (ap (λ k. k + 1) is.taken) does
      (λ m1 stands. goes_on m1 after.data' after.todo (record { known = record { accepted = world.known.accepted; shaped = kept.0 }; tasks = kept.1 }) stands))

  -- what goes on after a turn
  abbrev GoesOn : ℕ → ℕ → Type 0
  GoesOn left n = (m : Machine) (d : Data) (todo : List Task) → IsWorld p class d todo → Stands p class code m todo n → As m d (run class left n d todo)

  -- the rests of loops where the machine stands
  with_loops : (m : Machine) (to : ℕ) (loops : List (List Val)) (todo : List Task) → m.loops ≡ loops → CodeFor code class to loops todo → CodeFor code class to m.loops todo
  with_loops m to loops todo is code_for = subst (λ l. CodeFor code class to l todo) (sym is) code_for

  item_as : (at : ℕ) (i : Item) (end : ℕ) → ItemAt code class at i end → (left n : ℕ) → left + n ≡ max_turns → (m : Machine) (d : Data) (loops : List (List Val)) (todo : List Task)
      → IsWorld p class d (Do i ∷ todo) → IsAt m at loops n → CodeFor code class end loops todo → ((l : ℕ) → left ≡ suc l → GoesOn l (n + 1)) → As m d (run class left n d (Do i ∷ todo))
  item_as _ _ _ (ItemAt.works {at} {end} {i} has work) zero n sum m d loops todo world is code_for goes_on =
      late_as m d at n loops (Do i) todo world.known is (omega (arith, sum)) (works_on code class at (line_of i) (kind_of i) end work) has
  item_as _ _ _ (ItemAt.works {at} {end} {i} has work) (suc left) n sum m d loops todo world is code_for goes_on =
      let stands = All-head (IsTask p class d.me) (Do i) todo world.tasks in
      turn_as m d at n left loops (Do i) todo world is (omega (arith, sum)) (works_on code class at (line_of i) (kind_of i) end work) has
      (works p class code (in_turn m (line_of i) (at + 1)) d world.known (line_of i) refl todo at (kind_of i) end work i (ItemAt.works has work) (promises.reads_all i stands) (promises.kinds i stands) m.stack
      (with_loops m end loops todo is.inside code_for))
      (goes_on left refl)
  item_as _ _ _ (ItemAt.label {at} {k} {l} {i} is_kind has point numbered) left n sum m d loops todo world is code_for goes_on =
      yields_as m d at k n left loops (Do i) todo world.known is (ap kind_yields is_kind) has (CodeFor.does (ItemAt.label is_kind has point numbered) code_for)
  item_as _ _ _ (ItemAt.await {at} {end} {k} {i} is_kind has point numbered blocks) left n sum m d loops todo world is code_for goes_on =
      yields_as m d at k n left loops (Do i) todo world.known is (ap kind_yields is_kind) has (CodeFor.does (ItemAt.await is_kind has point numbered blocks) code_for)

  loop_as : (at s line end : ℕ) (body : List Item) → LoopAt code class at s body line end → (left n : ℕ) → left + n ≡ max_turns → (m : Machine) (d : Data) (outer : List (List Val)) (elements : List Val) (todo : List Task)
      → IsWorld p class d (Loop s elements body line ∷ todo) → IsAt m at (outer ++ elements ∷ []) n → CodeFor code class end outer todo → ((l : ℕ) → left ≡ suc l → GoesOn l (n + 1))
      → As m d (run class left n d (Loop s elements body line ∷ todo))
  loop_as _ _ _ _ _ (LoopAt.loop {at} {end} {s} {line} {body} has next block back) zero n sum m d outer elements todo world is code_for goes_on =
      late_as m d at n (outer ++ elements ∷ []) (Loop s elements body line) todo world.known is (omega (arith, sum)) refl has
  loop_as _ _ _ _ _ (LoopAt.loop {at} {end} {s} {line} {body} has next block back) (suc left) n sum m d outer elements todo world is code_for goes_on =
      let stands = All-head (IsTask p class d.me) (Loop s elements body line) todo world.tasks in
      turn_as m d at n left (outer ++ elements ∷ []) (Loop s elements body line) todo world is (omega (arith, sum)) refl has
      (loops_on p class code (in_turn m line (at + 1)) d world.known at s line (end + 1) body outer elements (LoopAt.loop has next block back) is.inside
      (λ x xs same. promises.next_element s line x xs body (subst (λ l. IsTask p class d.me (Loop s l body line)) same stands)) m.stack todo code_for)
      (goes_on left refl)

  prepare_as : (at end : ℕ) (call : SetupCall) → Has code at (op.Turn call.line) → EnterAt code class (at + 1) call.args class.params class.setup end → (left n : ℕ) → left + n ≡ max_turns → (m : Machine) (d : Data)
      (loops : List (List Val)) (todo : List Task) → IsWorld p class d (Prepare call ∷ todo) → IsAt m at loops n → CodeFor code class end loops todo → ((l : ℕ) → left ≡ suc l → GoesOn l (n + 1))
      → As m d (run class left n d (Prepare call ∷ todo))
  prepare_as at end call has entry zero n sum m d loops todo world is code_for goes_on =
      late_as m d at n loops (Prepare call) todo world.known is (omega (arith, sum)) refl has
  prepare_as at end call has entry (suc left) n sum m d loops todo world is code_for goes_on =
      let stands = All-head (IsTask p class d.me) (Prepare call) todo world.tasks in
      turn_as m d at n left loops (Prepare call) todo world is (omega (arith, sum)) refl has
      (enters p class code (in_turn m call.line (at + 1)) d world.known call.line refl todo (at + 1) call.args class.params class.setup end entry
      (promises.setup_reads d.me call world.known.shaped.is_class stands) (promises.setup d.me call world.known.shaped.is_class stands) m.stack (with_loops m end loops todo is.inside code_for))
      (goes_on left refl)

  runs_as : (left n : ℕ) → left + n ≡ max_turns → (at : ℕ) (loops : List (List Val)) (todo : List Task) → CodeFor code class at loops todo → (m : Machine) (d : Data) → IsWorld p class d todo → IsAt m at loops n
      → As m d (run class left n d todo)
  runs_as left n sum _ _ _ (CodeFor.ends {at} has) m d world is =
      subst (As m d) (sym (run_end class left n d))
      (record { stop = stop.Ended; last = m; runs = stops p class code d world.known m m stop.Ended op.End (at_place m at op.End is.place has) tt refl; turns = is.taken; stops = refl })
  runs_as left n sum _ _ _ (CodeFor.jumps {at} {to} {loops} {todo} has code_for) m d world is =
      leads_as m (record m { place = to }) d d [] (run class left n d todo) (one p class code d world.known m _ d [] _ (at_place m at (op.Jump to) is.place has) tt refl)
      (runs_as left n sum to loops todo code_for (record m { place = to }) d world (record { place = refl; inside = is.inside; taken = is.taken }))
  runs_as zero n sum _ _ _ (CodeFor.does {at} {to} {loops} {i} {todo} x code_for) m d world is = item_as at i to x zero n sum m d loops todo world is code_for (λ l e. absurd (omega arith))
  runs_as (suc left) n sum _ _ _ (CodeFor.does {at} {to} {loops} {i} {todo} x code_for) m d world is =
      item_as at i to x (suc left) n sum m d loops todo world is code_for (λ l e m1 d1 todo1 world1 stands1. subst (λ k. As m1 d1 (run class k (n + 1) d1 todo1)) (omega arith)
      (runs_as left (n + 1) (omega (arith, sum)) m1.place m1.loops todo1 stands1.code_for m1 d1 world1 (record { place = refl; inside = refl; taken = stands1.same_turns })))
  runs_as zero n sum _ _ _ (CodeFor.loops {at} {to} {s} {line} {outer} {left = elements} {body} {todo} x code_for) m d world is =
      loop_as at s line to body x zero n sum m d outer elements todo world is code_for (λ l e. absurd (omega arith))
  runs_as (suc left) n sum _ _ _ (CodeFor.loops {at} {to} {s} {line} {outer} {left = elements} {body} {todo} x code_for) m d world is =
      loop_as at s line to body x (suc left) n sum m d outer elements todo world is code_for (λ l e m1 d1 todo1 world1 stands1. subst (λ k. As m1 d1 (run class k (n + 1) d1 todo1)) (omega arith)
      (runs_as left (n + 1) (omega (arith, sum)) m1.place m1.loops todo1 stands1.code_for m1 d1 world1 (record { place = refl; inside = refl; taken = stands1.same_turns })))
  runs_as zero n sum _ _ _ (CodeFor.prepares {at} {to} {loops} {call} {todo} has entry code_for) m d world is =
      prepare_as at to call has entry zero n sum m d loops todo world is code_for (λ l e. absurd (omega arith))
  runs_as (suc left) n sum _ _ _ (CodeFor.prepares {at} {to} {loops} {call} {todo} has entry code_for) m d world is =
      prepare_as at to call has entry (suc left) n sum m d loops todo world is code_for (λ l e m1 d1 todo1 world1 stands1. subst (λ k. As m1 d1 (run class k (n + 1) d1 todo1)) (omega arith)
      (runs_as left (n + 1) (omega (arith, sum)) m1.place m1.loops todo1 stands1.code_for m1 d1 world1 (record { place = refl; inside = refl; taken = stands1.same_turns })))

-- The machine runs as what it has to do.
pub ready_runs : (p : Program) (class : Class) (code : Code) (m : Machine) (d : Data) (todo : List Task) → m.turns ≤ max_turns → CanRun p class code m d todo → RunsAs p class code m d (run_to_yield class m.turns d todo)
ready_runs p class code m d todo early ready =
    runs_as p class code (promises_known p class d ready.accepted ready.knows) (max_turns - m.turns) m.turns (omega (arith, early)) m.place m.loops todo ready.code_for m d
    (record { known = record { accepted = ready.accepted; shaped = ready.knows }; tasks = ready.tasks }) (record { place = refl; inside = refl; taken = refl })

-- A stop is the same whatever is on the stack.
still_stops : (class : Class) (code : Code) (s : Stop) (m : Machine) (stack : List Val) (todo : List Task) (halt : Halt) → IsStop code class s m todo halt → IsStop code class s (record m { stack = stack }) todo halt
still_stops class code s m stack todo AtYield is = is
still_stops class code s m stack todo UsedUp is = is
still_stops class code s m stack todo (Faults kind line) is = is

-- What a call leaves where its run is that one and the stack is emptied after it.
pub is_run : (class : Class) (code : Code) (p : Program) (m m1 : Machine) (stack : List Val) (d : Data) (s : Stop) (stands : Data → Type 0) (old new : List Action) (ran : Ran) → stack ≡ [] → (as_it : RunsAs p class code m d ran)
    → (s ≡ as_it.stop) × (m1 ≡ as_it.last) × stands ran.data' × (new ≡ old ++ ran.actions) → IsRun class code s (record m1 { stack = stack }) stands old new ran
is_run class code p m m1 stack d s stands old new ran bare as_it left = record {
  stops = still_stops class code s m1 stack ran.todo ran.halt
      (subst (λ x. IsStop code class x m1 ran.todo ran.halt) (sym left.0) (subst (λ x. IsStop code class as_it.stop x ran.todo ran.halt) (sym left.1) as_it.stops));
  turns = ap (λ (x : Machine). x.turns) left.1 ∙ as_it.turns;
  no_values = bare;
  known = left.2;
  actions = left.3;
}
