-- Messages that arrive at process 2, which waits: handlers that match, that do not, and that fail.
use Rattle.std.specs.Prelude.{◌≡◌, refl, ℕ, pos, true, List, [], ◌∷◌, Option, Some, None, codes}
use Rattle.std.proofs.Common.{◌∙◌, ap, arith}
use Rattle.da_values.specs.declared.val.Val.{Val}
use Rattle.da_values.specs.declared.val.Val.TheVariants as val
use Rattle.da_values.specs.declared.value.Value.TheVariants as literal
use Rattle.da_values.specs.Value.{value_of}
use Rattle.da_lang.specs.declared.event.Action.{Action}
use Rattle.da_lang.specs.declared.event.Action.TheVariants.{Got, Sent, Out, Fault}
use Rattle.da_lang.specs.declared.event.FaultKind.TheVariants.{Overflow, TooLong}
use Rattle.da_lang.specs.declared.program.ChainPart.{roll-ChainPart}
use Rattle.da_lang.specs.declared.program.Class.{Class}
use Rattle.da_lang.specs.declared.program.Handler.{Handler}
use Rattle.da_lang.specs.declared.program.Item.{Item, roll-Item}
use Rattle.da_lang.specs.declared.program.ItemKind.{ItemKind}
use Rattle.da_lang.specs.declared.program.ItemKind.TheVariants as it
use Rattle.da_lang.specs.declared.program.Program.{Program}
use Rattle.da_lang.specs.declared.program.RExpr.TheVariants as ex
use Rattle.da_lang.specs.declared.query.Pattern.TheVariants.{Any, Bind, Const, Equal, Tuple}
use Rattle.da_lang.specs.declared.query.Term.TheVariants as term
use Rattle.da_lang.specs.declared.tree.ArithOp.TheVariants.{Plus}
use Rattle.da_lang.specs.declared.ty.ChannelKind.TheVariants.{UnorderedUnreliable}
use Rattle.da_lang.proofs.HandlerLaws.{handle_late, handle_none, handle_passes, handle_runs}
use Rattle.da_lang.proofs.MoveLaws.{step_delivers}
use Rattle.da_lang.proofs.RunLaws.{run_fails, run_goes, run_to_yield_end}
use Rattle.da_lang.specs.Labels.{takes}
use Rattle.da_lang.specs.Runs.{Ran, Faults, UsedUp, ran_after, max_turns, run_to_yield, stopped}
use Rattle.da_lang.specs.Steps.{Deliver, Stepped, handle, handled, proc_step}
use Rattle.da_lang.specs.Turns.{last_time, max_packet}
use Rattle.da_lang.specs.World.{Entry, Data, Task, Do, World, put_slot, Waiting, Faulted}
use Rattle.da_lang.proofs.Computing.{early, taking, turning}

abbrev num : ℕ → Val
num n = val.Int (pos n)

abbrev greatest : ℕ
greatest = 9223372036854775807

abbrev on : ℕ → ItemKind → Item
on line kind = roll-Item (record { line = line; kind = kind })

abbrev go : Val
go = val.Tuple (val.Text (codes "go") ∷ num 1 ∷ [])

abbrev ok : Val
ok = val.Tuple (val.Text (codes "ok") ∷ num 1 ∷ [])

-- `send ('ok', n) to who` and `x = x + 1`; n, who and x are the slots 1, 2 and 3
abbrev replies : Item
replies = on 14 (it.Send (ex.Tuple (ex.Const (literal.Text (codes "ok")) ∷ ex.Slot 1 ∷ [])) (ex.Slot 2))

abbrev counts : Item
counts = on 15 (it.Assign 3 (ex.Chain (ex.Slot 3) (roll-ChainPart (record { op = Plus; operand = ex.Const (literal.Int (pos 1)) }) ∷ [])))

-- `receive ('go', n) from who`, and after it `receive ('go', =x)`, which prints x
abbrev at_go : Handler
at_go = record { message = Tuple (Const (literal.Text (codes "go")) ∷ Bind ∷ []); from = Bind; at = []; binds = 1 ∷ 2 ∷ []; body = replies ∷ counts ∷ []; line = 13 }

abbrev at_x : Handler
at_x = record { message = Tuple (Const (literal.Text (codes "go")) ∷ Equal (term.Slot 3) ∷ []); from = Any; at = []; binds = []; body = on 17 (it.Output (ex.Slot 3)) ∷ []; line = 16 }

abbrev class : Class
class = record { name = []; slots = []; params = []; setup = []; run = []; handlers = at_go ∷ at_x ∷ []; queries = []; line = 1 }

abbrev program : Program
program = record { kind = UnorderedUnreliable; messages = []; classes = class ∷ []; procs = record { class = 0; setup = None } ∷ record { class = 0; setup = None } ∷ [] }

abbrev todo : List Task
todo = Do (on 9 (it.Label 1)) ∷ []

-- the process at the time 1, with x; and when the message m of process 1 with the time 1 has come
abbrev before : ℕ → Data
before x = record { me = 2; slots = num 0 ∷ val.Proc 2 ∷ num x ∷ []; sent = []; received = []; clock = 1 }

abbrev entry : Val → ℕ → Entry
entry m time = record { message = m; peer = 1; time = time }

abbrev came : Val → ℕ → Data
came m x = record (before x) { clock = 2; received = entry m 1 ∷ [] }

abbrev bound : ℕ → Data
bound x = record (came go x) { slots = num 1 ∷ val.Proc 1 ∷ num x ∷ [] }

abbrev replied : ℕ → Data
replied x = record (bound x) { clock = 3; sent = entry ok 3 ∷ [] }

abbrev reply : List Action
reply = Sent 2 1 3 (literal.Tuple (val.Text (codes "ok") ∷ num 1 ∷ [])) ∷ []

abbrev steps : ℕ → Val → Option Stepped
steps x m = proc_step program (record { data' = before x; todo = todo; phase = Waiting }) (Deliver m 1 1)

-- THE STEP IS WHAT THE HANDLERS DO

abbrev waits : ℕ → World
waits x = record { data' = before x; todo = todo; phase = Waiting }

step_is : (x : ℕ) (m : Val) (ran : Ran) → takes class (waits x) m 1 ≡ true → handle class m 1 (at_go ∷ at_x ∷ []) 0 (came m x) ≡ ran → steps x m ≡ Some (handled todo 2 m 1 1 ran)
unfolding last_time
step_is x m ran taken is = step_delivers program class (waits x) refl m 1 1 refl taken ∙ ap (λ found. Some (handled todo 2 m 1 1 found)) is

-- a message that no handler matches costs two turns
other : Val
other = val.Tuple (val.Text (codes "no") ∷ num 1 ∷ [])

unmatched : (x : ℕ) → steps x other ≡ Some (record { world = record { data' = came other x; todo = todo; phase = Waiting }; actions = Got 2 1 1 (value_of other) ∷ [] })
unfolding other
unmatched x =
    step_is x other _ (simp taking)
    (handle_passes class other 1 at_go (at_x ∷ []) 0 (came other x) (early 0 (omega arith)) (simp turning)
    ∙ handle_passes class other 1 at_x [] 1 (came other x) (early 1 (omega arith)) (simp turning)
    ∙ handle_none class other 1 2 (came other x))

-- the first handler replies, and x becomes 1; the second one, which is tried then, matches
first_body : run_to_yield class 1 (bound 0) (Do replies ∷ Do counts ∷ []) ≡ record { data' = put_slot (replied 0) 3 (num 1); todo = []; actions = reply; turns = 3; halt = UsedUp }
unfolding last_time max_packet
first_body =
    run_goes class 1 (bound 0) (replied 0) (Do replies) (Do counts ∷ []) (Do counts ∷ []) reply (early 1 (omega arith)) (simp turning) (simp turning)
    ∙ ap (ran_after reply)
    (run_goes class 2 (replied 0) (put_slot (replied 0) 3 (num 1)) (Do counts) [] [] [] (early 2 (omega arith)) (simp turning) (simp turning)
    ∙ run_to_yield_end class 3 (put_slot (replied 0) 3 (num 1)))

abbrev seen : List Action
seen = Out 2 (literal.Int (pos 1)) ∷ []

second_body : run_to_yield class 4 (put_slot (replied 0) 3 (num 1)) (Do (on 17 (it.Output (ex.Slot 3))) ∷ []) ≡ record { data' = put_slot (replied 0) 3 (num 1); todo = []; actions = seen; turns = 5; halt = UsedUp }
second_body =
    run_goes class 4 (put_slot (replied 0) 3 (num 1)) (put_slot (replied 0) 3 (num 1)) (Do (on 17 (it.Output (ex.Slot 3)))) [] [] seen (early 4 (omega arith)) (simp turning) (simp turning)
    ∙ ap (ran_after seen) (run_to_yield_end class 5 (put_slot (replied 0) 3 (num 1)))

both_match : steps 0 go ≡ Some (record { world = record { data' = put_slot (replied 0) 3 (num 1); todo = todo; phase = Waiting }; actions = Got 2 1 1 (value_of go) ∷ Sent 2 1 3 (literal.Tuple (val.Text (codes "ok") ∷ num 1 ∷ [])) ∷ Out 2 (literal.Int (pos 1)) ∷ [] })
both_match =
    step_is 0 go _ (simp taking)
    (handle_runs class go 1 at_go (at_x ∷ []) 0 (came go 0) (num 1 ∷ val.Proc 1 ∷ []) _ (early 0 (omega arith)) (simp turning) first_body
    ∙ ap (ran_after reply) (handle_runs class go 1 at_x [] 3 (put_slot (replied 0) 3 (num 1)) [] _ (early 3 (omega arith)) (simp turning) second_body))

-- a fault of the first handler: what it did stands, the second one is not tried, and the process keeps what it had to do
failing_body : run_to_yield class 1 (bound greatest) (Do replies ∷ Do counts ∷ []) ≡ record { data' = replied greatest; todo = []; actions = reply; turns = 3; halt = Faults Overflow 15 }
unfolding last_time max_packet
failing_body =
    run_goes class 1 (bound greatest) (replied greatest) (Do replies) (Do counts ∷ []) (Do counts ∷ []) reply (early 1 (omega arith)) (simp turning) (simp turning)
    ∙ ap (ran_after reply) (run_fails class 2 (replied greatest) (replied greatest) (Do counts) [] [] [] Overflow 15 (early 2 (omega arith)) (simp turning) (simp turning))

fails : steps greatest go ≡ Some (record { world = record { data' = replied greatest; todo = todo; phase = Faulted }; actions = Got 2 1 1 (value_of go) ∷ Sent 2 1 3 (literal.Tuple (val.Text (codes "ok") ∷ num 1 ∷ [])) ∷ Fault 2 Overflow 15 ∷ [] })
fails = step_is greatest go _ (simp taking) (handle_runs class go 1 at_go (at_x ∷ []) 0 (came go greatest) (num 1 ∷ val.Proc 1 ∷ []) _ (early 0 (omega arith)) (simp turning) failing_body)

-- a handler that can no longer be tried
no_turn_left : (d : Data) → handle class go 1 (at_x ∷ []) max_turns d ≡ stopped d [] max_turns (Faults TooLong 16)
no_turn_left d = handle_late class go 1 at_x [] max_turns d (omega arith)

-- THE CLOCK rises above its own and the carried time, and stays at the greatest; here no handler is there
abbrev class_deaf : Class
class_deaf = record class { handlers = [] }

abbrev program_deaf : Program
program_deaf = record program { classes = class_deaf ∷ [] }

abbrev with_clock : ℕ → Data
with_clock time = record (before 0) { clock = time }

abbrev gets : ℕ → ℕ → Option Stepped
gets own carried = proc_step program_deaf (record { data' = with_clock own; todo = todo; phase = Waiting }) (Deliver go 1 carried)

abbrev got : ℕ → ℕ → Option Stepped
got carried own = Some (record { world = record { data' = record (with_clock own) { received = entry go carried ∷ [] }; todo = todo; phase = Waiting }; actions = Got 2 1 carried (value_of go) ∷ [] })

own_above_carried : gets 5 3 ≡ got 3 6
unfolding last_time
own_above_carried = refl

carried_above_own : gets 3 5 ≡ got 5 6
unfolding last_time
carried_above_own = refl

own_at_greatest : gets last_time 3 ≡ got 3 last_time
unfolding last_time
own_at_greatest = refl

carried_at_greatest : gets 3 last_time ≡ got last_time last_time
unfolding last_time
carried_at_greatest = refl
