-- Each instruction leaves fewer that the event may still take.
use Rattle.std.proofs.Common.{◌≡◌, ℕ, zero, suc, ◌+◌, ◌-◌, ◌*◌, ◌<◌, ◌≤◌, ◌⊎◌, inl, inr, List, [], ◌∷◌, length, Some, None, Ok, Err, refl, sym, ap, subst, arith, if◌then◌else◌}
use Rattle.std.specs.Prelude.{Bool, true, false, slice_get, nat_lt, nat_le}
use Rattle.std.proofs.lemmas.Bool.{ltb-true}
use Rattle.da_values.specs.declared.val.Val.{Val}
use Rattle.da_values.specs.Views.{int_of, truth_of}
use Rattle.da_lang.specs.declared.code.Instr.{Instr}
use Rattle.da_lang.specs.declared.code.Instr.TheVariants as op
use Rattle.da_lang.specs.declared.event.Action.{Action}
use Rattle.da_lang.specs.declared.query.Query.{Query}
use Rattle.da_lang.specs.Arithmetic.{Outcome, arithmetic, range}
use Rattle.da_lang.specs.Evaluation.{asked}
use Rattle.da_lang.specs.Queries.{query_value}
use Rattle.da_lang.specs.Runs.{max_turns}
use Rattle.da_lang.specs.Turns.{packet_len, max_packet, recipients}
use Rattle.da_lang.specs.World.{Data}
use Rattle.da_machine.specs.declared.code.Code.{Code}
use Rattle.da_machine.specs.declared.machine.Machine.{Machine}
use Rattle.da_machine.specs.Acts.{Act, Goes, Halts, act, below, innermost, moved, next_element, push_outcome, send_act, top, turn_if}
use Rattle.da_machine.specs.Forward.{IsForward, LeadsOn, instrs_left, is_turn, way}
use Rattle.da_machine.specs.RunsTo.{IsAct}

-- where an instruction leads: a turn is taken, or the place is after it, or at the next turn
abbrev Steps : Code → Machine → Machine → Bool → Type 0
Steps code m m1 true = (m1.turns ≡ m.turns + 1) × (m.turns < max_turns)
Steps code m m1 false = (m1.turns ≡ m.turns) × ((m.place < m1.place) ⊎ (is_turn (slice_get code.instrs m1.place) ≡ true))

abbrev Advances : Code → Machine → Bool → Act → Type 0
Advances code m turn (Goes m1 d now) = Steps code m m1 turn
Advances code m turn (Halts s m1) = Unit {0}

module _ (code : Code) (m : Machine) (d : Data) where
  on_turn : (line : ℕ) (b : Bool) → nat_lt m.turns max_turns ≡ b → Advances code m true (turn_if m d line b)
  on_turn line true is = (refl, ltb-true m.turns max_turns is)
  on_turn line false is = tt

  on_outcome : (st : List Val) (o : Outcome) → Advances code m false (push_outcome m d st o)
  on_outcome st (Ok v) = (refl, inl (omega arith))
  on_outcome st (Err kind) = tt

  on_jump_if : (b : Bool) (to : ℕ) (st : List Val) → m.place < to → Advances code m false (Goes (moved m (if b then to else m.place + 1) st) d [])
  on_jump_if true to st ahead = (refl, inl ahead)
  on_jump_if false to st ahead = (refl, inl (omega arith))

  on_jump_unless : (b : Bool) (to : ℕ) (st : List Val) → m.place < to → Advances code m false (Goes (moved m (if b then m.place + 1 else to) st) d [])
  on_jump_unless true to st ahead = (refl, inl (omega arith))
  on_jump_unless false to st ahead = (refl, inl ahead)

  on_next : (s done : ℕ) (left : List Val) → m.place < done → Advances code m false (next_element m d s done left)
  on_next s done [] ahead = (refl, inl ahead)
  on_next s done (x ∷ xs) ahead = (refl, inl (omega arith))

  on_send : (st : List Val) (v : Val) (ps : List ℕ) (b : Bool) → Advances code m false (send_act m d st v ps b)
  on_send st v ps true = (refl, inl (omega arith))
  on_send st v ps false = tt

  advances : (queries : List Query) (i : Instr) → LeadsOn code m.place i → Advances code m (is_turn (Some i)) (act queries (Some i) m d)
  advances queries (op.Turn line) leads = on_turn line (nat_lt m.turns max_turns) refl
  advances queries (op.Push v) leads = (refl, inl (omega arith))
  advances queries op.Me leads = (refl, inl (omega arith))
  advances queries (op.Slot s) leads = (refl, inl (omega arith))
  advances queries op.Clock leads = (refl, inl (omega arith))
  advances queries (op.Ask n) leads = on_outcome m.stack (asked (query_value queries n d))
  advances queries (op.Pack n) leads = (refl, inl (omega arith))
  advances queries (op.Collect n) leads = (refl, inl (omega arith))
  advances queries op.Range leads = on_outcome (below (below m.stack)) (range (int_of (top (below m.stack))) (int_of (top m.stack)))
  advances queries (op.Arith o) leads = on_outcome (below (below m.stack)) (arithmetic o (top (below m.stack)) (top m.stack))
  advances queries (op.Cmp o) leads = (refl, inl (omega arith))
  advances queries op.Member leads = (refl, inl (omega arith))
  advances queries op.Not leads = (refl, inl (omega arith))
  advances queries (op.Jump to) leads = (refl, leads)
  advances queries (op.JumpIf to) leads = on_jump_if (truth_of (top m.stack)) to (below m.stack) leads
  advances queries (op.JumpUnless to) leads = on_jump_unless (truth_of (top m.stack)) to (below m.stack) leads
  advances queries (op.SetSlot s) leads = (refl, inl (omega arith))
  advances queries (op.Add s) leads = (refl, inl (omega arith))
  advances queries (op.Del s) leads = (refl, inl (omega arith))
  advances queries op.Send leads = on_send (below (below m.stack)) (top (below m.stack)) (recipients (top m.stack)) (nat_le (packet_len (top (below m.stack))) max_packet)
  advances queries op.Output leads = (refl, inl (omega arith))
  advances queries op.Take leads = (refl, inl (omega arith))
  advances queries (op.Next s done) leads = on_next s done (innermost m.loops) leads
  advances queries (op.Found n slots) leads = (refl, inl (omega arith))
  advances queries (op.Yield k) leads = tt
  advances queries op.End leads = tt

way_most : (code : Code) (at : ℕ) (b : Bool) → way code at b ≤ length code.instrs + 1
way_most code at true = omega arith
way_most code at false = omega arith

way_less : (code : Code) (at to : ℕ) (b : Bool) → at < length code.instrs → (at < to) ⊎ (b ≡ true) → way code to b < way code at false
way_less code at to true inside ahead = omega arith
way_less code at to false inside (inl ahead) = omega arith
way_less code at to false inside (inr turn) = absurd (cc)

-- a turn outweighs the whole code
turn_outweighs : (left size rest : ℕ) → 0 < left → rest ≤ size + 1 → (left - 1) * (size + 2) + rest < left * (size + 2) + 0
turn_outweighs zero size rest some most = absurd (omega arith)
turn_outweighs (suc left) size rest some most =
    let product : suc left * (size + 2) ≡ (size + 2) + left * (size + 2) = grind arith in let fewer : suc left - 1 ≡ left = omega arith in rw (product, fewer) (omega arith)

steps_less : (code : Code) (m m1 : Machine) (turn : Bool) → is_turn (slice_get code.instrs m.place) ≡ turn → m.place < length code.instrs → Steps code m m1 turn
    → instrs_left code m1.turns m1.place < instrs_left code m.turns m.place
steps_less code m m1 true is inside steps =
    let most = way_most code m1.place (is_turn (slice_get code.instrs m1.place)) in
    let less = turn_outweighs (max_turns - m.turns) (length code.instrs) (way code m1.place (is_turn (slice_get code.instrs m1.place))) (omega (arith, steps.1)) most in
    let left : max_turns - m1.turns ≡ max_turns - m.turns - 1 = omega (arith, steps.0) in
    rw (is, left) less
steps_less code m m1 false is inside steps =
    let less = way_less code m.place m1.place (is_turn (slice_get code.instrs m1.place)) inside steps.1 in
    rw (is, steps.0) (omega (arith, less))

act_less : (code : Code) (m : Machine) (turn : Bool) (done : Act) (m1 : Machine) (stands : Data → Type 0) (d : Data) (old new : List Action) → is_turn (slice_get code.instrs m.place) ≡ turn → m.place < length code.instrs
    → Advances code m turn done → IsAct done None m1 stands d old new → instrs_left code m1.turns m1.place < instrs_left code m.turns m.place
act_less code m turn (Goes m2 d2 now) m1 stands d old new is inside advances acted =
    subst (λ (x : Machine). instrs_left code x.turns x.place < instrs_left code m.turns m.place) (sym acted.1) (steps_less code m m2 turn is inside advances)
act_less code m turn (Halts s m2) m1 stands d old new is inside advances acted = absurd (let e = acted.0 in cc)

-- an instruction that goes on
pub goes_less : (code : Code) (queries : List Query) (m : Machine) (d : Data) (i : Instr) (m1 : Machine) (stands : Data → Type 0) (old new : List Action) → IsForward code → slice_get code.instrs m.place ≡ Some i
    → m.place < length code.instrs → IsAct (act queries (Some i) m d) None m1 stands d old new → instrs_left code m1.turns m1.place < instrs_left code m.turns m.place
goes_less code queries m d i m1 stands old new forward there inside acted =
    act_less code m (is_turn (Some i)) (act queries (Some i) m d) m1 stands d old new (ap is_turn there) inside (advances code m d queries i (forward.leads m.place i there)) acted
