-- A handler that is open at one label alone, and an `await` whose time may run out. Process 1 of
--     message go(int)
--     class P extends process:
--         var x: int
--         def run():
--             send ('go', 4) to self
--             -- shut
--             x = 1
--             -- gate
--             await x > 3:
--                 output(x)
--             timeout:
--                 output(0)
--         receive ('go', n) at gate:
--             x = n
use Rattle.std.specs.Prelude.{◌≡◌, refl, ℕ, pos, true, List, [], ◌∷◌, Some, None, codes}
use Rattle.std.proofs.Common.{◌∙◌, ap, arith}
use Rattle.da_values.specs.declared.val.Val.{Val}
use Rattle.da_values.specs.declared.val.Val.TheVariants as val
use Rattle.da_values.specs.declared.value.Value.TheVariants as literal
use Rattle.da_values.specs.Value.{value_of}
use Rattle.da_lang.specs.declared.event.Action.TheVariants.{Took, Got, Sent, Out, End}
use Rattle.da_lang.specs.declared.program.Alt.{roll-Alt}
use Rattle.da_lang.specs.declared.program.Class.{Class}
use Rattle.da_lang.specs.declared.program.Handler.{Handler}
use Rattle.da_lang.specs.declared.program.Item.{Item, roll-Item}
use Rattle.da_lang.specs.declared.program.ItemKind.{ItemKind}
use Rattle.da_lang.specs.declared.program.ItemKind.TheVariants as it
use Rattle.da_lang.specs.declared.program.Program.{Program}
use Rattle.da_lang.specs.declared.program.RExpr.TheVariants as ex
use Rattle.da_lang.specs.declared.query.Cond.TheVariants as cond
use Rattle.da_lang.specs.declared.query.Operand.TheVariants as operand
use Rattle.da_lang.specs.declared.query.Pattern.TheVariants.{Any, Bind, Const, Tuple}
use Rattle.da_lang.specs.declared.query.Term.TheVariants as term
use Rattle.da_lang.specs.declared.tree.CmpOp.TheVariants.{Gt}
use Rattle.da_lang.specs.declared.ty.ChannelKind.TheVariants.{UnorderedUnreliable}
use Rattle.da_lang.proofs.HandlerLaws.{handle_none, handle_runs}
use Rattle.da_lang.proofs.MoveLaws.{step_at_label, step_delivers}
use Rattle.da_lang.proofs.RunLaws.{run_goes, run_to_yield_end, run_to_yield_yield}
use Rattle.da_lang.specs.Labels.{open_handlers, takes}
use Rattle.da_lang.specs.Runs.{UsedUp, ran_after, run_to_yield, stopped}
use Rattle.da_lang.specs.Steps.{Go, Take, TimeOut, Deliver, handle, handled, moved, proc_step}
use Rattle.da_lang.specs.Turns.{last_time, max_packet}
use Rattle.da_lang.specs.World.{Data, Task, Do, World, New, Waiting, Ended}
use Rattle.da_lang.proofs.Computing.{early, stepping, taking, turning}

abbrev num : ℕ → Val
num n = val.Int (pos n)

abbrev on : ℕ → ItemKind → Item
on line kind = roll-Item (record { line = line; kind = kind })

-- x is slot 1, and n is slot 2; the labels are 1 and 2
abbrev sends : Item
sends = on 5 (it.Send (ex.Tuple (ex.Const (literal.Text (codes "go")) ∷ ex.Const (literal.Int (pos 4)) ∷ [])) ex.Me)

abbrev shut : Item
shut = on 6 (it.Label 1)

abbrev sets : Item
sets = on 7 (it.Assign 1 (ex.Const (literal.Int (pos 1))))

abbrev gate : Item
gate = on 8 (it.Label 2)

abbrev waits : Item
waits = on 9 (it.Await
    (roll-Alt (record { cond = cond.Cmp Gt (operand.Term (term.Slot 1)) (operand.Term (term.Const (literal.Int (pos 3)))); found = None; binds = []; body = on 10 (it.Output (ex.Slot 1)) ∷ []; line = 9 }) ∷ [])
    (Some (on 12 (it.Output (ex.Const (literal.Int (pos 0)))) ∷ [])) (Some 2))

abbrev takes_n : Handler
takes_n = record { message = Tuple (Const (literal.Text (codes "go")) ∷ Bind ∷ []); from = Any; at = 2 ∷ []; binds = 2 ∷ []; body = on 14 (it.Assign 1 (ex.Slot 2)) ∷ []; line = 13 }

abbrev class : Class
class = record { name = []; slots = []; params = []; setup = []; run = sends ∷ shut ∷ sets ∷ gate ∷ waits ∷ []; handlers = takes_n ∷ []; queries = []; line = 2 }

abbrev program : Program
program = record { kind = UnorderedUnreliable; messages = []; classes = class ∷ []; procs = record { class = 0; setup = None } ∷ [] }

abbrev go : Val
go = val.Tuple (val.Text (codes "go") ∷ num 4 ∷ [])

-- with x and n, when the message is sent, and when it has come
abbrev new : Data
new = record { me = 1; slots = num 0 ∷ num 0 ∷ []; sent = []; received = []; clock = 0 }

abbrev here : ℕ → ℕ → Data
here x n = record { me = 1; slots = num x ∷ num n ∷ []; sent = record { message = go; peer = 1; time = 1 } ∷ []; received = []; clock = 1 }

abbrev came : ℕ → ℕ → Data
came x n = record (here x n) { clock = 2; received = record { message = go; peer = 1; time = 1 } ∷ [] }

abbrev at_shut : List Task
at_shut = Do shut ∷ Do sets ∷ Do gate ∷ Do waits ∷ []

abbrev at_gate : List Task
at_gate = Do gate ∷ Do waits ∷ []

abbrev at_await : List Task
at_await = Do waits ∷ []

abbrev at : Data → List Task → World
at d todo = record { data' = d; todo = todo; phase = Waiting }

abbrev ended : Data → World
ended d = record { data' = d; todo = []; phase = Ended }

-- THE FIRST MOVE sends the message, and stops at the label where no handler is open: the message has to wait
begins : proc_step program (record { data' = new; todo = []; phase = New }) Go
    ≡ Some (record { world = at (here 0 0) at_shut; actions = Took 1 0 ∷ Sent 1 1 1 (literal.Tuple (val.Text (codes "go") ∷ num 4 ∷ [])) ∷ [] })
unfolding last_time max_packet
begins =
    let told = Sent 1 1 1 (literal.Tuple (val.Text (codes "go") ∷ num 4 ∷ [])) ∷ [] in
    ap (λ ran. Some (moved 1 0 ran))
    (run_goes class 0 new (here 0 0) (Do sends) at_shut at_shut told (early 0 (omega arith)) (simp stepping) (simp stepping)
    ∙ ap (ran_after told) (run_to_yield_yield class 1 (here 0 0) (Do shut) (Do sets ∷ Do gate ∷ Do waits ∷ []) (simp stepping)))

shut_out : proc_step program (at (here 0 0) at_shut) (Deliver go 1 1) ≡ None
shut_out = simp taking

-- THE SECOND one goes on to the next label
goes_on : proc_step program (at (here 0 0) at_shut) Go ≡ Some (record { world = at (here 1 0) at_gate; actions = Took 1 0 ∷ [] })
goes_on =
    step_at_label program class (at (here 0 0) at_shut) refl shut (Do sets ∷ at_gate) 1 refl refl (simp stepping)
    ∙ ap (λ ran. Some (moved 1 0 ran))
    (run_goes class 1 (here 0 0) (here 1 0) (Do sets) at_gate at_gate [] (early 1 (omega arith)) (simp turning) (simp turning)
    ∙ run_to_yield_yield class 2 (here 1 0) (Do gate) at_await (simp turning))

-- THERE IT IS OPEN, and at the `await` after the label too: x becomes 4
body_runs : run_to_yield class 1 (came 1 4) (Do (on 14 (it.Assign 1 (ex.Slot 2))) ∷ []) ≡ stopped (came 4 4) [] 2 UsedUp
body_runs =
    run_goes class 1 (came 1 4) (came 4 4) (Do (on 14 (it.Assign 1 (ex.Slot 2)))) [] [] [] (early 1 (omega arith)) (simp turning) (simp turning)
    ∙ run_to_yield_end class 2 (came 4 4)

abbrev IsLetIn : List Task → Type 0
IsLetIn todo = proc_step program (at (here 1 0) todo) (Deliver go 1 1) ≡ Some (record { world = at (came 4 4) todo; actions = Got 1 1 1 (value_of go) ∷ [] })

let_in : (todo : List Task) → open_handlers class todo ≡ takes_n ∷ [] → takes class (at (here 1 0) todo) go 1 ≡ true → IsLetIn todo
unfolding last_time
let_in todo opened taken =
    step_delivers program class (at (here 1 0) todo) refl go 1 1 refl taken
    ∙ ap (λ hs. Some (handled todo 1 go 1 1 (handle class go 1 hs 0 (came 1 0)))) opened
    ∙ ap (λ ran. Some (handled todo 1 go 1 1 ran))
    (handle_runs class go 1 takes_n [] 0 (came 1 0) (num 4 ∷ []) _ (early 0 (omega arith)) (simp turning) body_runs
    ∙ handle_none class go 1 2 (came 4 4))

at_the_gate : IsLetIn at_gate
at_the_gate = let_in at_gate (simp taking) (simp taking)

at_the_await : IsLetIn at_await
at_the_await = let_in at_await (simp taking) (simp taking)

-- THE THIRD one takes the label off, with the message or without
abbrev GoesOn : Data → Type 0
GoesOn d = proc_step program (at d at_gate) Go ≡ Some (record { world = at d at_await; actions = Took 1 0 ∷ [] })

goes_on_without : GoesOn (here 1 0)
goes_on_without =
    step_at_label program class (at (here 1 0) at_gate) refl gate at_await 2 refl refl (simp stepping)
    ∙ ap (λ ran. Some (moved 1 0 ran)) (run_to_yield_yield class 1 (here 1 0) (Do waits) [] (simp turning))

goes_on_with : GoesOn (came 4 4)
goes_on_with =
    step_at_label program class (at (came 4 4) at_gate) refl gate at_await 2 refl refl (simp stepping)
    ∙ ap (λ ran. Some (moved 1 0 ran)) (run_to_yield_yield class 1 (came 4 4) (Do waits) [] (simp turning))

-- WITH IT the alternative may be taken, and the time does not run out
takes_first : proc_step program (at (came 4 4) at_await) (Take 1) ≡ Some (record { world = ended (came 4 4); actions = Took 1 1 ∷ Out 1 (literal.Int (pos 4)) ∷ End 1 ∷ [] })
takes_first =
    simp stepping (ap (λ ran. Some (moved 1 1 ran))
    (run_goes class 1 (came 4 4) (came 4 4) (Do (on 10 (it.Output (ex.Slot 1)))) [] [] (Out 1 (literal.Int (pos 4)) ∷ []) (early 1 (omega arith)) (simp stepping) (simp stepping)
    ∙ ap (ran_after (Out 1 (literal.Int (pos 4)) ∷ [])) (run_to_yield_end class 2 (came 4 4))))

times_out_not : proc_step program (at (came 4 4) at_await) TimeOut ≡ None
times_out_not = simp stepping

-- WITHOUT IT the time may run out: the number of that is 2, one more than there are alternatives
times_out : proc_step program (at (here 1 0) at_await) TimeOut ≡ Some (record { world = ended (here 1 0); actions = Took 1 2 ∷ Out 1 (literal.Int (pos 0)) ∷ End 1 ∷ [] })
times_out =
    simp stepping (ap (λ ran. Some (moved 1 2 ran))
    (run_goes class 1 (here 1 0) (here 1 0) (Do (on 12 (it.Output (ex.Const (literal.Int (pos 0)))))) [] [] (Out 1 (literal.Int (pos 0)) ∷ []) (early 1 (omega arith)) (simp stepping) (simp stepping)
    ∙ ap (ran_after (Out 1 (literal.Int (pos 0)) ∷ [])) (run_to_yield_end class 2 (here 1 0))))

takes_none : proc_step program (at (here 1 0) at_await) (Take 1) ≡ None
takes_none = simp stepping

-- at a label the time never runs out
no_timeout_at_label : proc_step program (at (here 1 0) at_gate) TimeOut ≡ None
no_timeout_at_label = simp stepping
