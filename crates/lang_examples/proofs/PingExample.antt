-- Two processes that send each other a ping: all steps of process 1, and the delivery to process 2.
use Rattle.std.specs.Prelude.{◌≡◌, refl, ℕ, pos, false, List, [], ◌∷◌, Some, None, codes}
use Rattle.std.proofs.Common.{◌∙◌, ap, arith}
use Rattle.da_values.specs.declared.val.Val.{Val}
use Rattle.da_values.specs.declared.val.Val.TheVariants as val
use Rattle.da_values.specs.declared.value.Value.TheVariants as literal
use Rattle.da_lang.specs.declared.event.Action.{Action}
use Rattle.da_lang.specs.declared.event.Action.TheVariants.{Took, Got, Sent, Out, End}
use Rattle.da_lang.specs.declared.program.Alt.{roll-Alt}
use Rattle.da_lang.specs.declared.program.ChainPart.{roll-ChainPart}
use Rattle.da_lang.specs.declared.program.Class.{Class}
use Rattle.da_lang.specs.declared.program.Handler.{Handler}
use Rattle.da_lang.specs.declared.program.Item.{Item, roll-Item}
use Rattle.da_lang.specs.declared.program.ItemKind.{ItemKind}
use Rattle.da_lang.specs.declared.program.ItemKind.TheVariants as it
use Rattle.da_lang.specs.declared.program.Program.{Program}
use Rattle.da_lang.specs.declared.program.RExpr.{RExpr}
use Rattle.da_lang.specs.declared.program.RExpr.TheVariants as ex
use Rattle.da_lang.specs.declared.program.SetupCall.{SetupCall}
use Rattle.da_lang.specs.declared.query.Cond.{Cond}
use Rattle.da_lang.specs.declared.query.Cond.TheVariants as cond
use Rattle.da_lang.specs.declared.query.Operand.TheVariants as operand
use Rattle.da_lang.specs.declared.query.Pattern.TheVariants.{Any, Bind, Const, Tuple}
use Rattle.da_lang.specs.declared.query.Query.TheVariants as query
use Rattle.da_lang.specs.declared.query.RGen.{RGen}
use Rattle.da_lang.specs.declared.query.Source.TheVariants as source
use Rattle.da_lang.specs.declared.query.Term.TheVariants as term
use Rattle.da_lang.specs.declared.tree.ArithOp.TheVariants.{Plus}
use Rattle.da_lang.specs.declared.tree.CmpOp.TheVariants.{Gt}
use Rattle.da_lang.specs.declared.ty.ChannelKind.TheVariants.{UnorderedUnreliable}
use Rattle.da_lang.proofs.HandlerLaws.{handle_none, handle_passes, handle_runs}
use Rattle.da_lang.proofs.MoveLaws.{step_delivers}
use Rattle.da_lang.proofs.RunLaws.{run_goes, run_to_yield_end, run_to_yield_yield}
use Rattle.da_lang.specs.Runs.{ran_after}
use Rattle.da_lang.specs.Steps.{Go, Take, Deliver, handled, moved, proc_step}
use Rattle.da_lang.specs.Turns.{last_time, max_packet}
use Rattle.da_lang.specs.World.{Entry, Data, Task, Do, Prepare, World, put_slot, New, Waiting, Ended}
use Rattle.da_lang.proofs.Computing.{early, stepping, taking}

abbrev num : ℕ → Val
num n = val.Int (pos n)

abbrev message : List ℕ → ℕ → Val
message tag n = val.Tuple (val.Text tag ∷ num n ∷ [])

abbrev ping : Val
ping = message (codes "ping") 5

abbrev pong : Val
pong = message (codes "pong") 6

abbrev on : ℕ → ItemKind → Item
on line kind = roll-Item (record { line = line; kind = kind })

abbrev text : List ℕ → RExpr
text bytes = ex.Const (literal.Text bytes)

-- the slots are peer, other, n, k and who

abbrev keeps : Item
keeps = on 6 (it.Assign 1 (ex.Slot 2))

abbrev sends : Item
sends = on 8 (it.Send (ex.Tuple (text (codes "ping") ∷ ex.Const (literal.Int (pos 5)) ∷ [])) (ex.Slot 1))

-- `some ('pong', n) in received | n > 5`
abbrev pongs : List RGen
pongs = record { source = source.Received; message = Tuple (Const (literal.Text (codes "pong")) ∷ Bind ∷ []); peer = Any } ∷ []

abbrev over_5 : Cond
over_5 = cond.Cmp Gt (operand.Term (term.Part 1)) (operand.Term (term.Const (literal.Int (pos 5))))

abbrev awaits : Item
awaits = on 9 (it.Await (roll-Alt (record { cond = cond.Quant false pongs (Some over_5); found = Some 1; binds = 3 ∷ []; body = []; line = 9 }) ∷ []) None None)

abbrev prints : Item
prints = on 10 (it.Output (ex.Slot 3))

abbrev replies : Item
replies = on 12 (it.Send (ex.Tuple (text (codes "pong") ∷ ex.Chain (ex.Slot 4) (roll-ChainPart (record { op = Plus; operand = ex.Const (literal.Int (pos 1)) }) ∷ []) ∷ [])) (ex.Slot 5))

abbrev at_ping : Handler
at_ping = record { message = Tuple (Const (literal.Text (codes "ping")) ∷ Bind ∷ []); from = Bind; at = []; binds = 4 ∷ 5 ∷ []; body = replies ∷ []; line = 11 }

abbrev class : Class
class = record { name = codes "P"; slots = []; params = 2 ∷ []; setup = keeps ∷ []; run = sends ∷ awaits ∷ prints ∷ []; handlers = at_ping ∷ []; queries = query.Quant false pongs (Some over_5) ∷ []; line = 3 }

abbrev call : ℕ → ℕ → SetupCall
call peer line = record { args = ex.Const (literal.Proc peer) ∷ []; line = line }

abbrev program : Program
program = record { kind = UnorderedUnreliable; messages = []; classes = class ∷ []; procs = record { class = 0; setup = Some (call 2 16) } ∷ record { class = 0; setup = Some (call 1 17) } ∷ [] }

abbrev entry : Val → ℕ → ℕ → Entry
entry m peer time = record { message = m; peer = peer; time = time }

-- PROCESS 1

abbrev new : Data
new = record { me = 1; slots = val.Proc 1 ∷ val.Proc 1 ∷ num 0 ∷ num 0 ∷ val.Proc 1 ∷ []; sent = []; received = []; clock = 0 }

abbrev set_up : Data
set_up = put_slot new 2 (val.Proc 2)

abbrev knows : Data
knows = put_slot set_up 1 (val.Proc 2)

abbrev has_sent : Data
has_sent = record knows { sent = entry ping 2 1 ∷ []; clock = 1 }

abbrev to_wait : List Task
to_wait = Do awaits ∷ Do prints ∷ []

abbrev waits : Data → World
waits d = record { data' = d; todo = to_wait; phase = Waiting }

abbrev told : List Action
told = Sent 1 2 1 (literal.Tuple (val.Text (codes "ping") ∷ num 5 ∷ [])) ∷ []

begins : proc_step program (record { data' = new; todo = []; phase = New }) Go ≡ Some (record { world = record { data' = has_sent; todo = to_wait; phase = Waiting }; actions = Took 1 0 ∷ told })
unfolding last_time max_packet
begins =
    ap (λ ran. Some (moved 1 0 ran))
    (run_goes class 0 new set_up (Prepare (call 2 16)) (Do sends ∷ to_wait) (Do keeps ∷ Do sends ∷ to_wait) [] (early 0 (omega arith)) refl (simp stepping)
    ∙ run_goes class 1 set_up knows (Do keeps) (Do sends ∷ to_wait) (Do sends ∷ to_wait) [] (early 1 (omega arith)) (simp stepping) (simp stepping)
    ∙ run_goes class 2 knows has_sent (Do sends) to_wait to_wait told (early 2 (omega arith)) (simp stepping) (simp stepping)
    ∙ ap (ran_after told) (run_to_yield_yield class 3 has_sent (Do awaits) (Do prints ∷ []) (simp stepping)))

-- there is no pong yet
takes_none : proc_step program (record { data' = has_sent; todo = to_wait; phase = Waiting }) (Take 1) ≡ None
takes_none = simp stepping

abbrev has_pong : Data
has_pong = record has_sent { received = entry pong 2 3 ∷ []; clock = 4 }

-- no handler is for a pong
gets_pong : proc_step program (record { data' = has_sent; todo = to_wait; phase = Waiting }) (Deliver pong 2 3) ≡ Some (record { world = record { data' = has_pong; todo = to_wait; phase = Waiting }; actions = Got 1 2 3 (literal.Tuple (val.Text (codes "pong") ∷ num 6 ∷ [])) ∷ [] })
unfolding last_time
gets_pong =
    step_delivers program class (waits has_sent) refl pong 2 3 refl (simp taking)
    ∙ ap (λ ran. Some (handled to_wait 1 pong 2 3 ran))
    (handle_passes class pong 2 at_ping [] 0 has_pong (early 0 (omega arith)) (simp stepping) ∙ handle_none class pong 2 1 has_pong)
    ∙ simp stepping

abbrev has_read : Data
has_read = put_slot has_pong 3 (num 6)

takes : proc_step program (record { data' = has_pong; todo = to_wait; phase = Waiting }) (Take 1) ≡ Some (record { world = record { data' = has_read; todo = []; phase = Ended }; actions = Took 1 1 ∷ Out 1 (literal.Int (pos 6)) ∷ End 1 ∷ [] })
takes =
    simp stepping
    (ap (λ ran. Some (moved 1 1 ran))
    (run_goes class 1 has_read has_read (Do prints) [] [] (Out 1 (literal.Int (pos 6)) ∷ []) (early 1 (omega arith)) (simp stepping) (simp stepping)
    ∙ ap (ran_after (Out 1 (literal.Int (pos 6)) ∷ [])) (run_to_yield_end class 2 has_read)))

-- PROCESS 2, which has sent its own ping

abbrev second : Data
second = record { me = 2; slots = val.Proc 1 ∷ val.Proc 1 ∷ num 0 ∷ num 0 ∷ val.Proc 2 ∷ []; sent = entry ping 1 1 ∷ []; received = []; clock = 1 }

abbrev has_ping : Data
has_ping = record second { received = entry ping 1 1 ∷ []; clock = 2 }

abbrev bound : Data
bound = put_slot (put_slot has_ping 4 (num 5)) 5 (val.Proc 1)

abbrev has_replied : Data
has_replied = record bound { sent = entry ping 1 1 ∷ entry pong 1 3 ∷ []; clock = 3 }

abbrev reply : List Action
reply = Sent 2 1 3 (literal.Tuple (val.Text (codes "pong") ∷ num 6 ∷ [])) ∷ []

gets_ping : proc_step program (record { data' = second; todo = to_wait; phase = Waiting }) (Deliver ping 1 1) ≡ Some (record { world = record { data' = has_replied; todo = to_wait; phase = Waiting }; actions = Got 2 1 1 (literal.Tuple (val.Text (codes "ping") ∷ num 5 ∷ [])) ∷ reply })
unfolding last_time max_packet
gets_ping =
    step_delivers program class (waits second) refl ping 1 1 refl (simp taking)
    ∙ ap (λ ran. Some (handled to_wait 2 ping 1 1 ran))
    (handle_runs class ping 1 at_ping [] 0 has_ping (num 5 ∷ val.Proc 1 ∷ []) _ (early 0 (omega arith)) (simp stepping)
    (run_goes class 1 bound has_replied (Do replies) [] [] reply (early 1 (omega arith)) (simp stepping) (simp stepping)
    ∙ ap (ran_after reply) (run_to_yield_end class 2 has_replied)))
    ∙ simp stepping
