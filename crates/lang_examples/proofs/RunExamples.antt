-- Runs that end, wait, fault, and go on for too long; and a message that is too large.
use Rattle.std.specs.Prelude.{◌≡◌, refl, ℕ, zero, suc, ◌+◌, ◌*◌, pos, true, nat_le, List, [], ◌∷◌, replicate, None, codes}
use Rattle.std.proofs.Common.{◌∙◌, ap, sym, arith}
use Rattle.std.proofs.lemmas.List.{length-replicate}
use Rattle.da_values.specs.declared.val.Val.{Val}
use Rattle.da_values.specs.declared.val.Val.TheVariants as val
use Rattle.da_values.specs.declared.value.Value.TheVariants as literal
use Rattle.da_values.specs.Value.{value_of}
use Rattle.da_lang.specs.declared.event.Action.TheVariants.{Sent, Out}
use Rattle.da_lang.specs.declared.event.FaultKind.TheVariants.{Divide, Message, TooLong}
use Rattle.da_lang.specs.declared.program.ChainPart.{roll-ChainPart}
use Rattle.da_lang.specs.declared.program.Class.{Class}
use Rattle.da_lang.specs.declared.program.Item.{roll-Item}
use Rattle.da_lang.specs.declared.program.ItemKind.{ItemKind}
use Rattle.da_lang.specs.declared.program.ItemKind.TheVariants as it
use Rattle.da_lang.specs.declared.program.RExpr.{RExpr}
use Rattle.da_lang.specs.declared.program.RExpr.TheVariants as ex
use Rattle.da_lang.specs.declared.tree.ArithOp.TheVariants.{Div}
use Rattle.da_lang.specs.Arithmetic.{numbers_from}
use Rattle.da_lang.proofs.RunLaws.{run_fails, run_goes, run_to_yield_end, run_to_yield_late, run_to_yield_yield}
use Rattle.da_lang.specs.Runs.{ran_after, AtYield, UsedUp, Faults, max_turns, run, run_to_yield, stopped}
use Rattle.da_lang.specs.Turns.{failed, last_time, max_packet, packet_len, send, send_if}
use Rattle.da_lang.specs.World.{Data, Task, Do, put_slot}
use Rattle.da_lang.proofs.Computing.{early, turning}
use Rattle.da_lang.proofs.LengthLaws.{sum-numbers_from, encoded_len-Tuple, encoded_len-Set, encoded_len-Text}

abbrev num : ℕ → Val
num n = val.Int (pos n)

abbrev here : Data
here = record { me = 1; slots = num 0 ∷ []; sent = []; received = []; clock = 0 }

abbrev class : Class
class = record { name = []; slots = []; params = []; setup = []; run = []; handlers = []; queries = []; line = 1 }

abbrev on : ℕ → ItemKind → Task
on line kind = Do (roll-Item (record { line = line; kind = kind }))

abbrev int : ℕ → RExpr
int n = ex.Const (literal.Int (pos n))

abbrev zero_divisor : RExpr
zero_divisor = ex.Chain (int 1) (roll-ChainPart (record { op = Div; operand = int 0 }) ∷ [])

-- `output(7)`
prints : run_to_yield class 0 here (on 3 (it.Output (int 7)) ∷ []) ≡ record { data' = here; todo = []; actions = Out 1 (literal.Int (pos 7)) ∷ []; turns = 1; halt = UsedUp }
prints = run_goes class 0 here here (on 3 (it.Output (int 7))) [] [] (Out 1 (literal.Int (pos 7)) ∷ []) (early 0 (omega arith)) (simp turning) (simp turning) ∙ ap (ran_after (Out 1 (literal.Int (pos 7)) ∷ [])) (run_to_yield_end class 1 here)

waits : (rest : List Task) → run_to_yield class 5 here (on 3 it.Pass ∷ on 4 (it.Label 1) ∷ rest) ≡ stopped here (on 4 (it.Label 1) ∷ rest) 6 AtYield
waits rest = run_goes class 5 here here (on 3 it.Pass) (on 4 (it.Label 1) ∷ rest) (on 4 (it.Label 1) ∷ rest) [] (early 5 (omega arith)) (simp turning) (simp turning) ∙ run_to_yield_yield class 6 here (on 4 (it.Label 1)) rest (simp turning)

-- what was done before a fault stands
faults : (rest : List Task) → run_to_yield class 0 here (on 3 (it.Assign 1 (int 8)) ∷ on 4 (it.Output zero_divisor) ∷ rest) ≡ stopped (put_slot here 1 (num 8)) rest 2 (Faults Divide 4)
faults rest =
    run_goes class 0 here (put_slot here 1 (num 8)) (on 3 (it.Assign 1 (int 8))) (on 4 (it.Output zero_divisor) ∷ rest) (on 4 (it.Output zero_divisor) ∷ rest) [] (early 0 (omega arith)) (simp turning) (simp turning)
    ∙ run_fails class 1 (put_slot here 1 (num 8)) (put_slot here 1 (num 8)) (on 4 (it.Output zero_divisor)) rest rest [] Divide 4 (early 1 (omega arith)) (simp turning) (simp turning)

-- after the last turn nothing more is taken, but a yield point is reached
late : (rest : List Task) → run_to_yield class max_turns here (on 3 (it.Output zero_divisor) ∷ rest) ≡ stopped here (on 3 (it.Output zero_divisor) ∷ rest) max_turns (Faults TooLong 3)
late rest = run_to_yield_late class max_turns here (on 3 (it.Output zero_divisor)) rest (omega arith) (simp turning)

in_time : (rest : List Task) → run_to_yield class max_turns here (on 3 (it.Label 1) ∷ rest) ≡ stopped here (on 3 (it.Label 1) ∷ rest) max_turns AtYield
in_time rest = run_to_yield_yield class max_turns here (on 3 (it.Label 1)) rest (simp turning)

-- `while true:` on line 3, and `pass` on line 4: two turns for each time round
abbrev forever : Task
forever = on 3 (it.While (ex.Const (literal.Bool true)) (roll-Item (record { line = 4; kind = it.Pass }) ∷ []))

once_round : (left n : ℕ) → run class (suc (suc left)) n here (forever ∷ []) ≡ run class left (n + 1 + 1) here (forever ∷ [])
unfolding run
once_round left n = simp turning

no_turn_left : (n : ℕ) → run class zero n here (forever ∷ []) ≡ stopped here (forever ∷ []) n (Faults TooLong 3)
unfolding run
no_turn_left n = simp turning

abbrev twice : ℕ → ℕ
twice zero = zero
twice (suc k) = suc (suc (twice k))

twice-is : (k : ℕ) → twice k ≡ 2 * k
twice-is zero = refl
twice-is (suc k) = ap (λ n. suc (suc n)) (twice-is k) ∙ omega arith

round_and_round : (k n : ℕ) → run class (twice k) n here (forever ∷ []) ≡ stopped here (forever ∷ []) (n + 2 * k) (Faults TooLong 3)
round_and_round zero n = no_turn_left n ∙ ap (λ m. stopped here (forever ∷ []) m (Faults TooLong 3)) (omega arith)
round_and_round (suc k) n = once_round (twice k) n ∙ round_and_round k (n + 1 + 1) ∙ ap (λ m. stopped here (forever ∷ []) m (Faults TooLong 3)) (omega arith)

-- so it ends in the fault on line 3
for_too_long : run_to_yield class 0 here (forever ∷ []) ≡ stopped here (forever ∷ []) 1000000 (Faults TooLong 3)
unfolding max_turns
for_too_long = ap (λ left. run class left 0 here (forever ∷ [])) (sym (twice-is 500000)) ∙ round_and_round 500000 0

-- a message `big` of a set of numbers: 6664 of them are too many
abbrev big : ℕ → Val
big n = val.Tuple (val.Text (codes "big") ∷ val.Set (numbers_from (pos 0) n) ∷ [])

big_len : (n : ℕ) → packet_len (big n) ≡ 26 + 9 * n
big_len n = simp (encoded_len-Tuple, encoded_len-Set, encoded_len-Text) (rw (sum-numbers_from n (pos 0)) (omega arith))

too_large : send class 4 here [] (big 6664) (1 ∷ []) ≡ failed class 4 here [] Message
unfolding max_packet
too_large = ap (λ len. send_if class 4 here [] (nat_le len max_packet) (big 6664) (1 ∷ [])) (big_len 6664)

small_enough : packet_len (big 6663) ≡ 59993
small_enough = big_len 6663

-- a message of one text: with 59978 bytes it makes a packet of exactly 60000, which is sent; one byte more is too many
abbrev note : ℕ → Val
note n = val.Tuple (val.Text (codes "t") ∷ val.Text (replicate n 97) ∷ [])

note_len : (n : ℕ) → packet_len (note n) ≡ 22 + n
note_len n = simp (encoded_len-Tuple, encoded_len-Text) (rw (length-replicate {A = ℕ} n 97) (omega arith))

largest : send class 4 here [] (note 59978) (1 ∷ []) ≡ record { data' = record here { clock = 1; sent = record { message = note 59978; peer = 1; time = 1 } ∷ [] }; todo = []; actions = Sent 1 1 1 (value_of (note 59978)) ∷ []; fault = None }
unfolding max_packet last_time
largest = ap (λ len. send_if class 4 here [] (nat_le len max_packet) (note 59978) (1 ∷ [])) (note_len 59978)

one_byte_more : send class 4 here [] (note 59979) (1 ∷ []) ≡ failed class 4 here [] Message
unfolding max_packet
one_byte_more = ap (λ len. send_if class 4 here [] (nat_le len max_packet) (note 59979) (1 ∷ [])) (note_len 59979)

-- to nobody it is too many as well
one_byte_more_for_none : send class 4 here [] (note 59979) [] ≡ failed class 4 here [] Message
unfolding max_packet
one_byte_more_for_none = ap (λ len. send_if class 4 here [] (nat_le len max_packet) (note 59979) []) (note_len 59979)
