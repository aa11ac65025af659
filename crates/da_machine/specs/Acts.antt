-- What an instruction does to the machine, and to what the process knows.
use Rattle.std.specs.Prelude.{◌≡◌, ℕ, ◌+◌, ◌-◌, pos, nat_lt, nat_le, not, Bool, true, false, if◌then◌else◌, List, [], ◌∷◌, ◌++◌, length, take, drop, Option, Some, None, Result, Ok, Err}
use Rattle.da_values.specs.declared.val.Val.{Val, out-Val}
use Rattle.da_values.specs.declared.val.Val.TheOpen as layer
use Rattle.da_values.specs.declared.val.Val.TheOpen.{Val-F}
use Rattle.da_values.specs.declared.val.Val.TheVariants as val
use Rattle.da_values.specs.declared.value.Value.{Value}
use Rattle.da_values.specs.Order.{val_cmp}
use Rattle.da_values.specs.Sets.{canon, set_has}
use Rattle.da_values.specs.Value.{val_of, value_of}
use Rattle.da_values.specs.Views.{int_of, truth_of, elements_of}
use Rattle.da_lang.specs.declared.code.Instr.{Instr}
use Rattle.da_lang.specs.declared.code.Instr.TheVariants as op
use Rattle.da_lang.specs.declared.event.Action.{Action}
use Rattle.da_lang.specs.declared.event.Action.TheVariants.{Out}
use Rattle.da_lang.specs.declared.event.FaultKind.{FaultKind}
use Rattle.da_lang.specs.declared.event.FaultKind.TheVariants.{Message, TooLong}
use Rattle.da_lang.specs.declared.query.Query.{Query}
use Rattle.da_lang.specs.Arithmetic.{Outcome, arithmetic, range}
use Rattle.da_lang.specs.Evaluation.{asked}
use Rattle.da_lang.specs.Queries.{compares, query_value, least_row}
use Rattle.da_lang.specs.Runs.{max_turns}
use Rattle.da_lang.specs.Turns.{bind_row, sent_to, sending, recipients, packet_len, max_packet, with_element, without_element}
use Rattle.da_lang.specs.World.{Data, nothing, slot_of, put_slot}
use Rattle.da_machine.specs.declared.machine.Machine.{Machine}
use Rattle.da_machine.specs.declared.machine.Stop.{Stop}
use Rattle.da_machine.specs.declared.machine.Stop.TheVariants as stop

-- the last value, or nothing
abbrev pub top : List Val → Val
top [] = nothing
top (v ∷ []) = v
top (v ∷ w ∷ vs) = top (w ∷ vs)

-- all but the last
abbrev pub below : {A : Type 0} → List A → List A
below [] = []
below (x ∷ []) = []
below (x ∷ y ∷ xs) = x ∷ below (y ∷ xs)

-- what is left to the innermost loop, which is the last
abbrev pub innermost : List (List Val) → List Val
innermost [] = []
innermost (left ∷ []) = left
innermost (left ∷ other ∷ loops) = innermost (other ∷ loops)

-- the last n values, and those before them
abbrev pub upper : ℕ → List Val → List Val
upper n vs = drop (length vs - n) vs

abbrev pub lower : ℕ → List Val → List Val
lower n vs = take (length vs - n) vs

-- an instruction leads to a machine, to what the process then knows, and to actions; or the machine halts
pub data Act : Type 0 where
  Goes : Machine → Data → List Action → Act
  Halts : Stop → Machine → Act

-- the machine at a place with a stack
abbrev pub moved : Machine → ℕ → List Val → Machine
moved m place stack = record m { place = place; stack = stack }

-- the machine after the instruction, with this stack; with this value upon it
abbrev pub next : Machine → List Val → Machine
next m stack = moved m (m.place + 1) stack

abbrev pub pushed : Machine → List Val → Val → Machine
pushed m stack v = next m (stack ++ v ∷ [])

-- a value comes upon the stack, or its fault halts the machine
abbrev pub push_outcome : Machine → Data → List Val → Outcome → Act
push_outcome m d stack (Err kind) = Halts (stop.Fault kind m.line) (record m { stack = stack })
push_outcome m d stack (Ok v) = Goes (pushed m stack v) d []

-- the turn is one of those that the event may take
abbrev pub turn_if : Machine → Data → ℕ → Bool → Act
turn_if m d line true = Goes (record m { place = m.place + 1; turns = m.turns + 1; line = line }) d []
turn_if m d line false = Halts (stop.Fault TooLong line) m

-- the next element goes into the slot, or the loop is left
abbrev pub next_element : Machine → Data → ℕ → ℕ → List Val → Act
next_element m d s done [] = Goes (record m { place = done; loops = below m.loops }) d []
next_element m d s done (x ∷ xs) = Goes (record m { place = m.place + 1; loops = below m.loops ++ xs ∷ [] }) (put_slot d s x) []

-- the message is sent, if it is small enough
abbrev pub send_act : Machine → Data → List Val → Val → List ℕ → Bool → Act
send_act m d stack v ps true = Goes (next m stack) (sent_to v ps d) (sending d.me v ps d.clock)
send_act m d stack v ps false = Halts (stop.Fault Message m.line) (record m { stack = stack })

-- an instruction in a class with these queries; the end of the code ends the run
module _ (queries : List Query) where
  abbrev pub act : Option Instr → Machine → Data → Act
  act None m d = Halts stop.Ended m
  act (Some (op.Turn line)) m d = turn_if m d line (nat_lt m.turns max_turns)
  act (Some (op.Push v)) m d = Goes (pushed m m.stack (val_of v)) d []
  act (Some op.Me) m d = Goes (pushed m m.stack (val.Proc d.me)) d []
  act (Some (op.Slot s)) m d = Goes (pushed m m.stack (slot_of d s)) d []
  act (Some op.Clock) m d = Goes (pushed m m.stack (val.Int (pos d.clock))) d []
  act (Some (op.Ask n)) m d = push_outcome m d m.stack (asked (query_value queries n d))
  act (Some (op.Pack n)) m d = Goes (pushed m (lower n m.stack) (val.Tuple (upper n m.stack))) d []
  act (Some (op.Collect n)) m d = Goes (pushed m (lower n m.stack) (val.Set (canon val_cmp (upper n m.stack)))) d []
  act (Some op.Range) m d = push_outcome m d (below (below m.stack)) (range (int_of (top (below m.stack))) (int_of (top m.stack)))
  act (Some (op.Arith o)) m d = push_outcome m d (below (below m.stack)) (arithmetic o (top (below m.stack)) (top m.stack))
  act (Some (op.Cmp o)) m d =
      Goes (pushed m (below (below m.stack)) (val.Bool (compares o (val_cmp (top (below m.stack)) (top m.stack))))) d []
  act (Some op.Member) m d =
      Goes (pushed m (below (below m.stack)) (val.Bool (set_has val_cmp (elements_of (top m.stack)) (top (below m.stack))))) d []
  act (Some op.Not) m d = Goes (pushed m (below m.stack) (val.Bool (not (truth_of (top m.stack))))) d []
  act (Some (op.Jump to)) m d = Goes (record m { place = to }) d []
  act (Some (op.JumpIf to)) m d = Goes (moved m (if truth_of (top m.stack) then to else m.place + 1) (below m.stack)) d []
  act (Some (op.JumpUnless to)) m d = Goes (moved m (if truth_of (top m.stack) then m.place + 1 else to) (below m.stack)) d []
  act (Some (op.SetSlot s)) m d = Goes (next m (below m.stack)) (put_slot d s (top m.stack)) []
  act (Some (op.Add s)) m d = Goes (next m (below m.stack)) (with_element s (top m.stack) d) []
  act (Some (op.Del s)) m d = Goes (next m (below m.stack)) (without_element s (top m.stack) d) []
  act (Some op.Send) m d =
      send_act m d (below (below m.stack)) (top (below m.stack)) (recipients (top m.stack)) (nat_le (packet_len (top (below m.stack))) max_packet)
  act (Some op.Output) m d = Goes (next m (below m.stack)) d (Out d.me (value_of (top m.stack)) ∷ [])
  act (Some op.Take) m d = Goes (record m { place = m.place + 1; stack = below m.stack; loops = m.loops ++ elements_of (top m.stack) ∷ [] }) d []
  act (Some (op.Next s done)) m d = next_element m d s done (innermost m.loops)
  act (Some (op.Found n slots)) m d = Goes (next m m.stack) (bind_row slots (least_row queries n d) d) []
  act (Some (op.Yield k)) m d = Halts (stop.Yield k) m
  act (Some op.End) m d = Halts stop.Ended m

-- the outcome that a kept value or a fault is
abbrev pub outcome_of : Result Value FaultKind → Outcome
outcome_of (Ok v) = Ok (val_of v)
outcome_of (Err kind) = Err kind

-- the next element is taken from the innermost loop, or that is over and left
abbrev pub IsTaken : Machine → Machine → Option Val → Type 0
IsTaken old new None = (innermost old.loops ≡ []) × (new ≡ record old { loops = below old.loops })
IsTaken old new (Some x) = (xs : List Val) × (innermost old.loops ≡ x ∷ xs) × (new ≡ record old { loops = below old.loops ++ xs ∷ [] })

-- whether a value is a set
abbrev pub is_set_in : Val-F Val → Bool
is_set_in (layer.Set elements) = true
is_set_in _ = false

abbrev pub is_set : Val → Bool
is_set v = is_set_in (out-Val v)

-- whether a truth value is the given one
abbrev pub same : Bool → Bool → Bool
same true b = b
same false b = not b
