-- The code after a turn does what the turn does.
use Rattle.std.proofs.Common.{◌≡◌, ℕ, ◌+◌, ◌≤◌, List, [], ◌∷◌, ◌++◌, map, Option, Some, None, Ok, Err, refl, sym, ◌∙◌, subst, arith, if◌then◌else◌}
use Rattle.std.specs.Prelude.{Bool, true, false, nat_le}
use Rattle.std.specs.List.{AllByRecursion}
use Rattle.std.proofs.lemmas.Bool.{leb-true}
use Rattle.da_values.specs.declared.val.Val.{Val}
use Rattle.da_values.specs.Value.{value_of}
use Rattle.da_values.specs.Views.{truth_of, elements_of}
use Rattle.da_lang.specs.declared.code.Instr.TheVariants as op
use Rattle.da_lang.specs.declared.event.Action.{Action}
use Rattle.da_lang.specs.declared.event.Action.TheVariants.{Out}
use Rattle.da_lang.specs.declared.event.FaultKind.{FaultKind}
use Rattle.da_lang.specs.declared.event.FaultKind.TheVariants.{Message}
use Rattle.da_lang.specs.declared.program.Alt.{Alt}
use Rattle.da_lang.specs.declared.program.Class.{Class}
use Rattle.da_lang.specs.declared.program.Item.{Item}
use Rattle.da_lang.specs.declared.program.ItemKind.{ItemKind}
use Rattle.da_lang.specs.declared.program.ItemKind.TheOpen.{ItemKind-F}
use Rattle.da_lang.specs.declared.program.ItemKind.TheViews.{out-RBranch}
use Rattle.da_lang.specs.declared.program.Program.{Program}
use Rattle.da_lang.specs.declared.program.RBranch.{RBranch}
use Rattle.da_lang.specs.declared.program.RExpr.{RExpr}
use Rattle.da_lang.specs.Arithmetic.{Outcome}
use Rattle.da_lang.specs.Evaluation.{Outcomes, eval, eval_all}
use Rattle.da_lang.specs.Queries.{least_row}
use Rattle.da_lang.specs.Shaped.{ShapedData}
use Rattle.da_lang.specs.Turns.{AfterTurn, bind_all, bind_found, choose, do_all, enter, kind_turn, loop_turn, max_packet, output, packet_len, quiet, recipients, send, send_if, sending, sent_to, slot_of_arg, value_of_arg, with_element, with_outcome, with_outcomes, without_element}
use Rattle.da_lang.specs.World.{Data, Task, Do, Loop, put_slot}
use Rattle.da_machine.specs.declared.code.Code.{Code}
use Rattle.da_machine.specs.declared.machine.Machine.{Machine}
use Rattle.da_machine.specs.declared.machine.Stop.TheVariants as stop
use Rattle.da_machine.specs.Acts.{moved}
use Rattle.da_machine.specs.CodeFor.{Has, BlockAt, BranchesAt, CodeFor, EnterAt, FoundAt, ItemAt, LoopAt, WorkAt}
use Rattle.da_machine.specs.Allowed.{TakesRow}
use Rattle.da_machine.specs.Conditions.{HasSome, IsKnown, IsSendable, Takes}
use Rattle.da_machine.specs.Promises.{AllRead, BindsRow, IsEntered, Promised, exprs_in}
use Rattle.da_machine.specs.RunsTo.{RunsTo}
use Rattle.da_machine.proofs.ExprCode.{all_long, expr_gives, exprs_give}
use Rattle.da_machine.proofs.Leading.{Fails, Gives, GivesAll, Leads, joined, one, rests, stops}
use Rattle.da_machine.proofs.Stacks.{below_last, innermost_last, top_last}
use Rattle.da_machine.proofs.StoreCode.{back_is, stores_lead}

module _ (class : Class) (code : Code) where
  -- the code of statements before what is to do
  pub block_for : (at : ℕ) (is : List Item) (end : ℕ) → BlockAt code class at is end → (loops : List (List Val)) (todo : List Task) → CodeFor code class end loops todo → CodeFor code class at loops (do_all is todo)
  block_for _ _ _ (BlockAt.empty {at}) loops todo code_for = code_for
  block_for _ _ _ (BlockAt.item {at} {to} {end} {i} {is} x xs) loops todo code_for = CodeFor.does x (block_for to is end xs loops todo code_for)

module _ (p : Program) (class : Class) (code : Code) where
  -- the code stands for what is to do, and so many turns were taken
  pub record Stands (m : Machine) (todo : List Task) (turns : ℕ) : Type 0 where
    pub code_for : CodeFor code class m.place m.loops todo
    pub same_turns : m.turns ≡ turns

  -- a run to a fault
  pub record Faulty (m : Machine) (d d1 : Data) (actions : List Action) (kind : FaultKind) (line : ℕ) : Type 0 where
    pub last : Machine
    pub runs : RunsTo p class code m d actions (stop.Fault kind line) last d1
    pub turns : last.turns ≡ m.turns

  -- the code leads to where it stands for what is left, or to the fault
  abbrev pub Does : Machine → Data → Data → List Task → List Action → Option (FaultKind × ℕ) → Type 0
  Does m d d1 todo actions None = (m1 : Machine) × Leads p class code m d m1 d1 actions × Stands m1 todo m.turns
  Does m d d1 todo actions (Some fault) = Faulty m d d1 actions fault.0 fault.1

  abbrev pub DoesTurn : Machine → Data → AfterTurn → Type 0
  DoesTurn m d after = Does m d after.data' after.todo after.actions after.fault

  pub does_later : (m0 m1 : Machine) (d d1 : Data) (todo : List Task) (actions : List Action) (fault : Option (FaultKind × ℕ)) → m1.turns ≡ m0.turns
      → Leads p class code m0 d m1 d [] → Does m1 d d1 todo actions fault → Does m0 d d1 todo actions fault
  does_later m0 m1 d d1 todo actions None same leads does =
      (does.0, joined p class code m0 m1 does.0 d d d1 actions leads does.1, record { code_for = does.2.code_for; same_turns = does.2.same_turns ∙ same })
  does_later m0 m1 d d1 todo actions (Some fault) same leads does = record { last = does.last; runs = leads.by actions _ _ _ does.runs; turns = does.turns ∙ same }

  pub turn_later : (m0 m1 : Machine) (d : Data) (after : AfterTurn) → m1.turns ≡ m0.turns → Leads p class code m0 d m1 d [] → DoesTurn m1 d after → DoesTurn m0 d after
  turn_later m0 m1 d after same leads does = does_later m0 m1 d after.data' after.todo after.actions after.fault same leads does

  -- the code is where it stands for what is left; it comes there
  here : (m : Machine) (d : Data) (todo : List Task) → CodeFor code class m.place m.loops todo → DoesTurn m d (quiet d todo)
  here m d todo code_for = (m, rests p class code m d, record { code_for = code_for; same_turns = refl })

  comes : (m m1 : Machine) (d d1 : Data) (actions : List Action) (todo : List Task) → m1.turns ≡ m.turns → Leads p class code m d m1 d1 actions → CodeFor code class m1.place m1.loops todo → Does m d d1 todo actions None
  comes m m1 d d1 actions todo same leads code_for = (m1, leads, record { code_for = code_for; same_turns = same })

  module _ (m : Machine) (d : Data) (known : IsKnown p class d) (line : ℕ) (on_line : m.line ≡ line) (todo : List Task) where
    faulty : (m0 : Machine) (kind : FaultKind) → m0.turns ≡ m.turns → Fails p class code m0 d m kind → Faulty m0 d d [] kind line
    faulty m0 kind same fails =
        record { last = fails.last; runs = subst (λ l. RunsTo p class code m0 d [] (stop.Fault kind l) fails.last d) on_line fails.runs; turns = fails.turns ∙ sym same }

    -- goes on with the value of an expression, or with the values of all
    with_given : (at mid : ℕ) (st0 st : List Val) (o : Outcome) (go : Val → AfterTurn) → Gives p class code (moved m at st0) m d mid st o
        → ((v : Val) → o ≡ Ok v → DoesTurn (moved m mid (st ++ v ∷ [])) d (go v)) → DoesTurn (moved m at st0) d (with_outcome class line d todo o go)
    with_given at mid st0 st (Err kind) go gives more = faulty (moved m at st0) kind refl gives
    with_given at mid st0 st (Ok v) go gives more = turn_later (moved m at st0) (moved m mid (st ++ v ∷ [])) d (go v) refl gives (more v refl)

    with_all_given : (at mid : ℕ) (st : List Val) (os : Outcomes) (go : List Val → AfterTurn) → GivesAll p class code (moved m at st) m d mid st os
        → ((vs : List Val) → os ≡ Ok vs → DoesTurn (moved m mid (st ++ vs)) d (go vs)) → DoesTurn (moved m at st) d (with_outcomes class line d todo os go)
    with_all_given at mid st (Err kind) go gives more = faulty (moved m at st) kind refl gives
    with_all_given at mid st (Ok vs) go gives more = turn_later (moved m at st) (moved m mid (st ++ vs)) d (go vs) refl gives (more vs refl)

    -- a message is sent, if it is small enough
    sends : (v w : Val) (small : Bool) (end : ℕ) (st : List Val) → nat_le (packet_len v) max_packet ≡ small → Has code end op.Send → (packet_len v ≤ max_packet → IsSendable p v (recipients w))
        → CodeFor code class (end + 1) m.loops todo → DoesTurn (moved m end ((st ++ v ∷ []) ++ w ∷ [])) d (send_if class line d todo small v (recipients w))
    sends v w true end st is has sendable code_for =
        comes _ (moved m (end + 1) st) d (sent_to v (recipients w) d) (sending d.me v (recipients w) d.clock) todo refl
        (one p class code d known _ _ _ _ _ has
        (rw (top_last (st ++ v ∷ []) w, below_last (st ++ v ∷ []) w, top_last st v, is) (sendable (leb-true (packet_len v) max_packet is)))
        (rw (top_last (st ++ v ∷ []) w, below_last (st ++ v ∷ []) w, top_last st v, below_last st v, is) refl)) code_for
    sends v w false end st is has sendable code_for =
        faulty _ Message refl (record {
          last = moved m end st;
          runs = stops p class code d known _ (moved m end st) (stop.Fault Message m.line) _ has
              (rw (top_last (st ++ v ∷ []) w, below_last (st ++ v ∷ []) w, top_last st v, is) tt)
              (rw (top_last (st ++ v ∷ []) w, below_last (st ++ v ∷ []) w, top_last st v, below_last st v, is) refl);
          turns = refl;
        })

    -- the row of a `some` is bound
    binds : (at : ℕ) (found : Option ℕ) (slots : List ℕ) (end : ℕ) → FoundAt code at found slots end
        → ((n : ℕ) → found ≡ Some n → HasSome class n × ((e : Data) → ShapedData p class e → TakesRow p class slots (least_row class.queries n e))) → (st : List Val)
        → Leads p class code (moved m at st) d (moved m end st) (bind_found class.queries found slots d) []
    binds _ _ _ _ (FoundAt.unbound {at} {slots}) promised st = rests p class code (moved m at st) d
    binds _ _ _ _ (FoundAt.bound {at} {n} {slots} has) promised st = let promise = promised n refl in one p class code d known _ _ _ [] _ has (promise.0, promise.1 d known.shaped) refl

    -- a condition decides whether the code goes on after the jump
    decides : (v : Val) (t : Bool) (at to : ℕ) (st : List Val) (then_do else_do : AfterTurn) → truth_of v ≡ t → Has code at (op.JumpUnless to)
        → DoesTurn (moved m (at + 1) st) d then_do → DoesTurn (moved m to st) d else_do → DoesTurn (moved m at (st ++ v ∷ [])) d (if t then then_do else else_do)
    decides v true at to st then_do else_do is has one_way other =
        turn_later _ (moved m (at + 1) st) d then_do refl (one p class code d known _ _ d [] _ has tt (rw (top_last st v, below_last st v, is) refl)) one_way
    decides v false at to st then_do else_do is has one_way other =
        turn_later _ (moved m to st) d else_do refl (one p class code d known _ _ d [] _ has tt (rw (top_last st v, below_last st v, is) refl)) other

    goes_round : (v : Val) (t : Bool) (at to : ℕ) (st : List Val) (again : List Task) → truth_of v ≡ t → Has code at (op.JumpUnless to)
        → CodeFor code class (at + 1) m.loops again → CodeFor code class to m.loops todo → DoesTurn (moved m at (st ++ v ∷ [])) d (quiet d (if t then again else todo))
    goes_round v true at to st again is has one_way other =
        turn_later _ (moved m (at + 1) st) d (quiet d again) refl (one p class code d known _ _ d [] _ has tt (rw (top_last st v, below_last st v, is) refl)) (here (moved m (at + 1) st) d again one_way)
    goes_round v false at to st again is has one_way other =
        turn_later _ (moved m to st) d (quiet d todo) refl (one p class code d known _ _ d [] _ has tt (rw (top_last st v, below_last st v, is) refl)) (here (moved m to st) d todo other)

    chooses : (exit at : ℕ) (bs : List RBranch) (other : List Item) → BranchesAt code class exit at bs other → AllRead class (map (λ b. (out-RBranch b).cond) bs) → AllByRecursion (BindsRow p class) bs
        → (st : List Val) → CodeFor code class exit m.loops todo → DoesTurn (moved m at st) d (choose class line d todo bs other)
    chooses _ _ _ _ (BranchesAt.otherwise {exit} {at} {other} x) read promised st code_for = here (moved m at st) d _ (block_for class code at other exit x m.loops todo code_for)
    chooses _ _ _ _ (BranchesAt.branch {exit} {at} {test} {to} {end} {b} {bs} {other} x jump found body leave others) read promised st code_for =
        with_given at test st st (eval class.queries (out-RBranch b).cond d) _ (expr_gives p class code d known m at _ test x read.0 st)
        (λ v is. decides v (truth_of v) test (end + 1) st (quiet (bind_found class.queries (out-RBranch b).found (out-RBranch b).binds d) (do_all (out-RBranch b).body todo)) (choose class line d todo bs other) refl jump
        (comes _ (moved m to st) d _ [] _ refl (binds (test + 1) (out-RBranch b).found (out-RBranch b).binds to found promised.0 st) (block_for class code to (out-RBranch b).body end body m.loops todo (CodeFor.jumps leave code_for)))
        (chooses exit (end + 1) bs other others read.1 promised.1 st code_for))

    pub enters : (at : ℕ) (args : List RExpr) (params : List ℕ) (body : List Item) (end : ℕ) → EnterAt code class at args params body end → AllRead class args → IsEntered p class args params
        → (st : List Val) → CodeFor code class end m.loops todo → DoesTurn (moved m at st) d (enter class line d todo args params body)
    enters _ _ _ _ _ (EnterAt.enter {at} {to} {into} {end} {args} {params} {body} xs stores block) read promised st code_for =
        with_all_given at to st (eval_all class.queries args d) _ (exprs_give p class code d known m at args to xs read st)
        (λ vs is. comes _ (moved m into st) d (bind_all params vs d) [] (do_all body todo) refl
        (subst (λ e. Leads p class code (moved m to (st ++ vs)) d (moved m into st) e []) (back_is params vs d promised.distinct)
        (stores_lead p class code m d known to params into stores vs st (all_long class.queries d args vs is ∙ promised.one_each) (promised.takes d vs known.shaped is)))
        (block_for class code into body end block m.loops todo code_for))

    pub works : (at : ℕ) (k : ItemKind-F ItemKind Alt Item RBranch) (end : ℕ) → WorkAt code class at line k end → (i : Item) → ItemAt code class at i end → AllRead class (exprs_in k) → Promised p class k
        → (st : List Val) → CodeFor code class end m.loops todo → DoesTurn (moved m (at + 1) st) d (kind_turn class line d todo (Do i) k)
    works _ _ _ (WorkAt.assign {at} {line} {end} {s} {e} x has) i self read promised st code_for =
        with_given (at + 1) end st st (eval class.queries e d) _ (expr_gives p class code d known m (at + 1) e end x read.0 st)
        (λ v is. comes _ (moved m (end + 1) st) d (put_slot d s v) [] todo refl
        (one p class code d known _ _ _ [] _ has (rw (top_last st v) (promised d v known.shaped is)) (rw (top_last st v, below_last st v) refl)) code_for)
    works _ _ _ (WorkAt.add {at} {line} {end} {s} {e} x has) i self read promised st code_for =
        with_given (at + 1) end st st (eval class.queries e d) _ (expr_gives p class code d known m (at + 1) e end x read.0 st)
        (λ v is. comes _ (moved m (end + 1) st) d (with_element s v d) [] todo refl
        (one p class code d known _ _ _ [] _ has (rw (top_last st v) (promised d v known.shaped is)) (rw (top_last st v, below_last st v) refl)) code_for)
    works _ _ _ (WorkAt.del {at} {line} {end} {s} {e} x has) i self read promised st code_for =
        with_given (at + 1) end st st (eval class.queries e d) _ (expr_gives p class code d known m (at + 1) e end x read.0 st)
        (λ v is. comes _ (moved m (end + 1) st) d (without_element s v d) [] todo refl
        (one p class code d known _ _ _ [] _ has (rw (top_last st v) (promised d v known.shaped is)) (rw (top_last st v, below_last st v) refl)) code_for)
    works _ _ _ (WorkAt.send {at} {line} {to} {end} {m = e} {e = e2} x y has) i self read promised st code_for =
        with_given (at + 1) to st st (eval class.queries e d) _ (expr_gives p class code d known m (at + 1) e to x read.0 st)
        (λ v is. with_given to end (st ++ v ∷ []) (st ++ v ∷ []) (eval class.queries e2 d) _ (expr_gives p class code d known m to e2 end y read.1.0 (st ++ v ∷ []))
        (λ w is2. sends v w (nat_le (packet_len v) max_packet) end st refl has (promised d v known.shaped is w is2) code_for))
    works _ _ _ (WorkAt.output {at} {line} {end} {e} x has) i self read promised st code_for =
        with_given (at + 1) end st st (eval class.queries e d) _ (expr_gives p class code d known m (at + 1) e end x read.0 st)
        (λ v is. comes _ (moved m (end + 1) st) d d (Out d.me (value_of v) ∷ []) todo refl
        (one p class code d known _ _ _ _ _ has (rw (top_last st v) (promised d v known.shaped is)) (rw (top_last st v, below_last st v) refl)) code_for)
    works _ _ _ (WorkAt.choice {at} {line} {end} {branches} {other} x) i self read promised st code_for = chooses end (at + 1) branches other x read promised st code_for
    works _ _ _ (WorkAt.while {at} {line} {to} {end} {e} {body} x jump block back) i self read promised st code_for =
        with_given (at + 1) to st st (eval class.queries e d) _ (expr_gives p class code d known m (at + 1) e to x read.0 st)
        (λ v is. goes_round v (truth_of v) to (end + 1) st (do_all body (Do i ∷ todo)) refl jump
        (block_for class code (to + 1) body end block m.loops (Do i ∷ todo) (CodeFor.jumps back (CodeFor.does self code_for))) code_for)
    works _ _ _ (WorkAt.for {at} {line} {to} {end} {s} {e} {body} x has rest) i self read promised st code_for =
        with_given (at + 1) to st st (eval class.queries e d) _ (expr_gives p class code d known m (at + 1) e to x read.0 st)
        (λ v is. comes _ (record m { place = to + 1; stack = st; loops = m.loops ++ elements_of v ∷ [] }) d d [] (Loop s (elements_of v) body line ∷ todo) refl
        (one p class code d known _ _ _ [] _ has tt (rw (top_last st v, below_last st v) refl)) (CodeFor.loops rest code_for))
    works _ _ _ (WorkAt.call {at} {line} {end} {args} {body} x) i self read promised st code_for =
        enters (at + 1) (map value_of_arg args) (map slot_of_arg args) body end x read promised st code_for
    works _ _ _ (WorkAt.pass {at} {line}) i self read promised st code_for = here (moved m (at + 1) st) d todo code_for

  -- the rest of a loop
  pub loops_on : (m : Machine) (d : Data) → IsKnown p class d → (at s line end : ℕ) (body : List Item) (outer : List (List Val)) (left : List Val) → LoopAt code class at s body line end
      → m.loops ≡ outer ++ left ∷ [] → ((x : Val) (xs : List Val) → left ≡ x ∷ xs → Takes p class s x) → (st : List Val) (todo : List Task) → CodeFor code class end outer todo
      → DoesTurn (moved m (at + 1) st) d (loop_turn class line d todo s left body)
  loops_on m d known _ _ _ _ _ outer [] (LoopAt.loop {at} {end} {s} {line} {body} turn has block back) is takes st todo code_for =
      comes _ (record m { place = end + 1; stack = st; loops = outer }) d d [] todo refl
      (one p class code d known _ _ _ [] _ has (rw (is, innermost_last outer []) tt) (rw (is, innermost_last outer [], below_last outer []) refl)) code_for
  loops_on m d known _ _ _ _ _ outer (x ∷ xs) (LoopAt.loop {at} {end} {s} {line} {body} turn has block back) is takes st todo code_for =
      let place : at + 2 ≡ at + 1 + 1 = omega arith in
      let again = block_for class code (at + 2) body end block (outer ++ xs ∷ []) (Loop s xs body line ∷ todo) (CodeFor.jumps back (CodeFor.loops (LoopAt.loop turn has block back) code_for)) in
      comes _ (record m { place = at + 1 + 1; stack = st; loops = outer ++ xs ∷ [] }) d (put_slot d s x) [] (do_all body (Loop s xs body line ∷ todo)) refl
      (one p class code d known _ _ _ [] _ has (rw (is, innermost_last outer (x ∷ xs)) (takes x xs refl)) (rw (is, innermost_last outer (x ∷ xs), below_last outer (x ∷ xs)) refl))
      (subst (λ to. CodeFor code class to (outer ++ xs ∷ []) (do_all body (Loop s xs body line ∷ todo))) place again)
