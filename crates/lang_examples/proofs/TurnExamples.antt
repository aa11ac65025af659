-- Each row of the table of statements, on line 9 of process 3 at the time 5. Its slots are 7, {1, 2}, the processes 1 and
-- 2, true, and 0.
use Rattle.std.specs.Prelude.{◌≡◌, refl, ℕ, pos, nat_le, Bool, true, false, List, [], ◌∷◌, Option, Some, None}
use Rattle.da_values.specs.declared.val.Val.{Val}
use Rattle.da_values.specs.declared.val.Val.TheVariants as val
use Rattle.da_values.specs.declared.value.Value.TheVariants as literal
use Rattle.da_lang.specs.declared.event.Action.TheVariants.{Sent, Out}
use Rattle.da_lang.specs.declared.event.FaultKind.{FaultKind}
use Rattle.da_lang.specs.declared.event.FaultKind.TheVariants.{Overflow, Divide, Message}
use Rattle.da_lang.specs.declared.program.Alt.{Alt}
use Rattle.da_lang.specs.declared.program.ChainPart.{roll-ChainPart}
use Rattle.da_lang.specs.declared.program.Class.{Class}
use Rattle.da_lang.specs.declared.program.Item.{Item, roll-Item}
use Rattle.da_lang.specs.declared.program.ItemKind.{ItemKind}
use Rattle.da_lang.specs.declared.program.ItemKind.TheVariants as it
use Rattle.da_lang.specs.declared.program.ItemKind.TheVariants.{outs-Assign, outs-Add, outs-Del, outs-Send, outs-Output, outs-If, outs-While, outs-For, outs-Call, outs-Await, outs-Label, outs-Pass}
use Rattle.da_lang.specs.declared.program.RBranch.{RBranch, roll-RBranch}
use Rattle.da_lang.specs.declared.program.RExpr.{RExpr}
use Rattle.da_lang.specs.declared.program.RExpr.TheVariants as ex
use Rattle.da_lang.specs.declared.query.Pattern.TheVariants.{Any, Bind}
use Rattle.da_lang.specs.declared.query.Query.{Query}
use Rattle.da_lang.specs.declared.query.Query.TheVariants as query
use Rattle.da_lang.specs.declared.query.Source.TheVariants as source
use Rattle.da_lang.specs.declared.tree.ArithOp.TheVariants.{Plus, Div}
use Rattle.da_lang.specs.Runs.{yields}
use Rattle.da_lang.specs.Turns.{AfterTurn, last_time, max_packet, packet_len, quiet, turn}
use Rattle.da_lang.specs.World.{Entry, Data, Task, Do, Loop, Prepare, put_slot}
use Rattle.da_lang.proofs.Computing.{turning}

abbrev num : ℕ → Val
num n = val.Int (pos n)

abbrev here : Data
here = record { me = 3; slots = num 7 ∷ val.Set (num 1 ∷ num 2 ∷ []) ∷ val.Set (val.Proc 1 ∷ val.Proc 2 ∷ []) ∷ val.Bool true ∷ num 0 ∷ []; sent = []; received = []; clock = 5 }

abbrev on : ItemKind → Item
on kind = roll-Item (record { line = 9; kind = kind })

abbrev int : ℕ → RExpr
int n = ex.Const (literal.Int (pos n))

abbrev truth : Bool → RExpr
truth b = ex.Const (literal.Bool b)

abbrev zero_divisor : RExpr
zero_divisor = ex.Chain (int 1) (roll-ChainPart (record { op = Div; operand = int 0 }) ∷ [])

abbrev too_large : RExpr
too_large = ex.Chain (int 9223372036854775807) (roll-ChainPart (record { op = Plus; operand = int 1 }) ∷ [])

abbrev body : List Item
body = on it.Pass ∷ on (it.Label 1) ∷ []

-- `some x in s` over slot 2
abbrev one_in : Query
one_in = query.Quant false (record { source = source.Slot 2; message = Bind; peer = Any } ∷ []) None

-- its `setup` has the parameters 1 and 5
abbrev class : Class
class = record { name = []; slots = []; params = 1 ∷ 5 ∷ []; setup = body; run = []; handlers = []; queries = one_in ∷ []; line = 1 }

module _ (todo : List Task) where
  abbrev takes : ItemKind → AfterTurn
  takes kind = turn class (Do (on kind)) here todo

  abbrev fails : FaultKind → ℕ → AfterTurn
  fails kind line = record { data' = here; todo = todo; actions = []; fault = Some (kind, line) }

  -- SETUP

  setup_binds : turn class (Prepare (record { args = ex.Slot 5 ∷ ex.Slot 1 ∷ []; line = 20 })) here todo ≡ quiet (put_slot (put_slot here 1 (num 0)) 5 (num 7)) (Do (on it.Pass) ∷ Do (on (it.Label 1)) ∷ todo)
  setup_binds = simp turning

  setup_fails : turn class (Prepare (record { args = ex.Slot 5 ∷ zero_divisor ∷ []; line = 20 })) here todo ≡ fails Divide 20
  setup_fails = simp turning

  -- SLOTS

  assigns : takes (it.Assign 1 (int 8)) ≡ quiet (put_slot here 1 (num 8)) todo
  assigns = simp turning

  assignment_fails : takes (it.Assign 1 too_large) ≡ fails Overflow 9
  assignment_fails = simp turning

  adds : takes (it.Add 2 (int 3)) ≡ quiet (put_slot here 2 (val.Set (num 1 ∷ num 2 ∷ num 3 ∷ []))) todo
  adds = simp turning

  adds_nothing : takes (it.Add 2 (int 2)) ≡ quiet here todo
  adds_nothing = simp turning

  deletes : takes (it.Del 2 (int 2)) ≡ quiet (put_slot here 2 (val.Set (num 1 ∷ []))) todo
  deletes = simp turning

  deletes_nothing : takes (it.Del 2 (int 3)) ≡ quiet here todo
  deletes_nothing = simp turning

  -- MESSAGES

  abbrev message : ℕ → ℕ → Entry
  message p time = record { message = num 8; peer = p; time = time }

  sends : takes (it.Send (int 8) ex.Me) ≡ record { data' = record here { clock = 6; sent = message 3 6 ∷ [] }; todo = todo; actions = Sent 3 3 6 (literal.Int (pos 8)) ∷ []; fault = None }
  unfolding last_time max_packet
  sends = simp turning

  sends_to_each : takes (it.Send (int 8) (ex.Slot 3)) ≡ record { data' = record here { clock = 7; sent = message 1 6 ∷ message 2 7 ∷ [] }; todo = todo; actions = Sent 3 1 6 (literal.Int (pos 8)) ∷ Sent 3 2 7 (literal.Int (pos 8)) ∷ []; fault = None }
  unfolding last_time max_packet
  sends_to_each = simp turning

  sends_to_none : takes (it.Send (int 8) (ex.SetOf [])) ≡ quiet here todo
  unfolding max_packet
  sends_to_none = simp turning

  -- a message that is too large is a fault, even if nobody is to get it
  too_large_for_none : (m : Val) → nat_le (packet_len m) max_packet ≡ false → turn class (Do (on (it.Send (ex.Slot 1) (ex.SetOf [])))) (put_slot here 1 m) todo ≡ record (fails Message 9) { data' = put_slot here 1 m }
  too_large_for_none m large = simp turning (rw large refl)

  -- the message is evaluated first, and the clock stays at its greatest value
  sending_fails : takes (it.Send zero_divisor too_large) ≡ fails Divide 9
  sending_fails = simp turning

  last_clock : turn class (Do (on (it.Send (int 8) ex.Me))) (record here { clock = last_time }) todo ≡ record { data' = record here { clock = last_time; sent = message 3 last_time ∷ [] }; todo = todo; actions = Sent 3 3 last_time (literal.Int (pos 8)) ∷ []; fault = None }
  unfolding last_time max_packet
  last_clock = simp turning

  -- OUTPUTS

  outputs : takes (it.Output (ex.Slot 1)) ≡ record { data' = here; todo = todo; actions = Out 3 (literal.Int (pos 7)) ∷ []; fault = None }
  outputs = simp turning

  output_fails : takes (it.Output zero_divisor) ≡ fails Divide 9
  output_fails = simp turning

  -- BRANCHES

  abbrev branch : RExpr → List Item → RBranch
  branch e items = roll-RBranch (record { cond = e; found = None; binds = []; body = items; line = 10 })

  first_branch : takes (it.If (branch (truth true) body ∷ branch zero_divisor [] ∷ []) []) ≡ quiet here (Do (on it.Pass) ∷ Do (on (it.Label 1)) ∷ todo)
  first_branch = simp turning

  second_branch : takes (it.If (branch (truth false) [] ∷ branch (ex.Slot 4) body ∷ []) []) ≡ quiet here (Do (on it.Pass) ∷ Do (on (it.Label 1)) ∷ todo)
  second_branch = simp turning

  else_block : takes (it.If (branch (truth false) [] ∷ []) body) ≡ quiet here (Do (on it.Pass) ∷ Do (on (it.Label 1)) ∷ todo)
  else_block = simp turning

  no_block : takes (it.If (branch (truth false) body ∷ []) []) ≡ quiet here todo
  no_block = simp turning

  -- a fault of a later condition too is on the line of the statement
  branch_fails : takes (it.If (branch (truth false) [] ∷ branch zero_divisor [] ∷ []) []) ≡ fails Divide 9
  branch_fails = simp turning

  -- the least row of the query is bound to slot 1
  least_row : takes (it.If (roll-RBranch (record { cond = ex.Ask 1; found = Some 1; binds = 1 ∷ []; body = body; line = 10 }) ∷ []) []) ≡ quiet (put_slot here 1 (num 1)) (Do (on it.Pass) ∷ Do (on (it.Label 1)) ∷ todo)
  least_row = simp turning

  -- LOOPS

  goes_round : takes (it.While (ex.Slot 4) body) ≡ quiet here (Do (on it.Pass) ∷ Do (on (it.Label 1)) ∷ Do (on (it.While (ex.Slot 4) body)) ∷ todo)
  goes_round = simp turning

  leaves : takes (it.While (truth false) body) ≡ quiet here todo
  leaves = simp turning

  while_fails : takes (it.While zero_divisor body) ≡ fails Divide 9
  while_fails = simp turning

  begins_loop : takes (it.For 1 (ex.Slot 2) body) ≡ quiet here (Loop 1 (num 1 ∷ num 2 ∷ []) body 9 ∷ todo)
  begins_loop = simp turning

  for_fails : takes (it.For 1 zero_divisor body) ≡ fails Divide 9
  for_fails = simp turning

  next_element : turn class (Loop 1 (num 1 ∷ num 2 ∷ []) body 9) here todo ≡ quiet (put_slot here 1 (num 1)) (Do (on it.Pass) ∷ Do (on (it.Label 1)) ∷ Loop 1 (num 2 ∷ []) body 9 ∷ todo)
  next_element = refl

  no_element : turn class (Loop 1 [] body 9) here todo ≡ quiet here todo
  no_element = refl

  -- CALLS, `pass`, AND YIELD POINTS

  -- all arguments are evaluated before the first parameter is bound
  calls : takes (it.Call (record { slot = 1; value = ex.Slot 5 } ∷ record { slot = 5; value = ex.Slot 1 } ∷ []) body) ≡ quiet (put_slot (put_slot here 1 (num 0)) 5 (num 7)) (Do (on it.Pass) ∷ Do (on (it.Label 1)) ∷ todo)
  calls = simp turning

  call_fails : takes (it.Call (record { slot = 1; value = int 8 } ∷ record { slot = 5; value = zero_divisor } ∷ []) body) ≡ fails Divide 9
  call_fails = simp turning

  passes : takes it.Pass ≡ quiet here todo
  passes = simp turning

label_yields : yields (Do (on (it.Label 1))) ≡ true
label_yields = simp turning

await_yields : (alts : List Alt) (timeout : Option (List Item)) (label : Option ℕ) → yields (Do (on (it.Await alts timeout label))) ≡ true
await_yields alts timeout label = simp turning

pass_does_not : yields (Do (on it.Pass)) ≡ false
pass_does_not = simp turning

loop_does_not : (left : List Val) → yields (Loop 1 left body 9) ≡ false
loop_does_not left = refl
