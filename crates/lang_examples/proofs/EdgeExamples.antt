-- Moves from a label, and deliveries, that take as many turns as one event may, and one more. x is counted down to 0 by
-- `while x > 0` with `x = x - 1` on the lines 5 and 6, two turns each time round.
use Rattle.std.specs.Prelude.{◌≡◌, refl, ℕ, pos, List, [], ◌∷◌, Some, None}
use Rattle.std.proofs.Common.{◌∙◌, ap, arith}
use Rattle.da_values.specs.declared.val.Val.{Val}
use Rattle.da_values.specs.declared.val.Val.TheVariants as val
use Rattle.da_values.specs.Value.{value_of}
use Rattle.da_lang.specs.declared.event.Action.TheVariants.{Took, Got, End, Fault}
use Rattle.da_lang.specs.declared.event.FaultKind.TheVariants.{TooLong}
use Rattle.da_lang.specs.declared.program.Class.{Class}
use Rattle.da_lang.specs.declared.program.Handler.{Handler}
use Rattle.da_lang.specs.declared.program.Item.{Item, roll-Item}
use Rattle.da_lang.specs.declared.program.ItemKind.TheVariants as it
use Rattle.da_lang.specs.declared.program.Program.{Program}
use Rattle.da_lang.specs.declared.query.Pattern.TheVariants.{Any}
use Rattle.da_lang.specs.declared.ty.ChannelKind.TheVariants.{UnorderedUnreliable}
use Rattle.da_lang.proofs.HandlerLaws.{handle_late, handle_none, handle_runs}
use Rattle.da_lang.proofs.MoveLaws.{step_at_label, step_delivers}
use Rattle.da_lang.proofs.RunLaws.{run_goes, run_to_yield_end, run_to_yield_late}
use Rattle.da_lang.specs.Runs.{UsedUp, max_turns, run_to_yield, stopped}
use Rattle.da_lang.specs.Steps.{Go, Deliver, handled, moved, proc_step}
use Rattle.da_lang.specs.Turns.{last_time}
use Rattle.da_lang.specs.World.{Data, Task, Do, World, Waiting, Ended, Faulted}
use Rattle.da_lang.proofs.Computing.{stepping, taking, turning}
use Rattle.lang_examples.proofs.CountExample.{begin, begins, here, leaves, round, round_item, rounds}

-- two handlers for every message: the first counts x down, the second does nothing
abbrev counts : Handler
counts = record { message = Any; from = Any; at = []; binds = []; body = round_item ∷ []; line = 8 }

abbrev passes : Handler
passes = record { message = Any; from = Any; at = []; binds = []; body = roll-Item (record { line = 10; kind = it.Pass }) ∷ []; line = 9 }

abbrev class : Class
class = record { name = []; slots = []; params = []; setup = []; run = []; handlers = counts ∷ passes ∷ []; queries = []; line = 1 }

abbrev program : Program
program = record { kind = UnorderedUnreliable; messages = []; classes = class ∷ []; procs = record { class = 0; setup = None } ∷ [] }

abbrev start : Data
start = record { me = 1; slots = []; sent = []; received = []; clock = 0 }

abbrev label : Item
label = roll-Item (record { line = 3; kind = it.Label 1 })

abbrev at_label : ℕ → List Task → World
at_label x todo = record { data' = here start x; todo = Do label ∷ todo; phase = Waiting }

-- A MOVE FROM A LABEL: the label is one turn, 499999 times round are 999998, and the last test is one

in_time : proc_step program (at_label 499999 (round ∷ [])) Go ≡ Some (record { world = record { data' = here start 0; todo = []; phase = Ended }; actions = Took 1 0 ∷ End 1 ∷ [] })
unfolding max_turns
in_time =
    step_at_label program class (at_label 499999 (round ∷ [])) refl label (round ∷ []) 1 refl refl (simp stepping)
    ∙ ap (λ ran. Some (moved 1 0 ran))
    (rounds class start 0 499999 1 (omega arith) (omega arith)
    ∙ run_goes class 999999 (here start 0) (here start 0) round [] [] [] (omega arith) (simp turning) (leaves class start)
    ∙ run_to_yield_end class 1000000 (here start 0))

-- with `x = 499999` on line 4 before it there is no turn left for the last test
too_long : proc_step program (at_label 0 (begin 499999 ∷ round ∷ [])) Go ≡ Some (record { world = record { data' = here start 0; todo = round ∷ []; phase = Faulted }; actions = Took 1 0 ∷ Fault 1 TooLong 5 ∷ [] })
unfolding max_turns
too_long =
    step_at_label program class (at_label 0 (begin 499999 ∷ round ∷ [])) refl label (begin 499999 ∷ round ∷ []) 1 refl refl (simp stepping)
    ∙ ap (λ ran. Some (moved 1 0 ran))
    (run_goes class 1 (here start 0) (here start 499999) (begin 499999) (round ∷ []) (round ∷ []) [] (omega arith) (simp turning) (begins class start 499999 (round ∷ []))
    ∙ rounds class start 0 499999 2 (omega arith) (omega arith)
    ∙ run_to_yield_late class 1000000 (here start 0) round [] (omega arith) (simp turning))

-- A DELIVERY: the first handler takes all turns, so the second one is too late at its own line

abbrev one : Val
one = val.Int (pos 1)

abbrev came : Data
came = record start { clock = 2; received = record { message = one; peer = 1; time = 1 } ∷ [] }

abbrev waits : ℕ → World
waits x = record { data' = here start x; todo = Do label ∷ []; phase = Waiting }

all_turns : run_to_yield class 1 (here came 499999) (round ∷ []) ≡ stopped (here came 0) [] 1000000 UsedUp
unfolding max_turns
all_turns =
    rounds class came 0 499999 1 (omega arith) (omega arith)
    ∙ run_goes class 999999 (here came 0) (here came 0) round [] [] [] (omega arith) (simp turning) (leaves class came)
    ∙ run_to_yield_end class 1000000 (here came 0)

second_too_late : proc_step program (waits 499999) (Deliver one 1 1) ≡ Some (record { world = record { data' = here came 0; todo = Do label ∷ []; phase = Faulted }; actions = Got 1 1 1 (value_of one) ∷ Fault 1 TooLong 9 ∷ [] })
unfolding max_turns last_time
second_too_late =
    step_delivers program class (waits 499999) refl one 1 1 refl (simp taking)
    ∙ ap (λ ran. Some (handled (Do label ∷ []) 1 one 1 1 ran))
    (handle_runs class one 1 counts (passes ∷ []) 0 (here came 499999) [] _ (omega arith) (simp turning) all_turns
    ∙ handle_late class one 1 passes [] 1000000 (here came 0) (omega arith))

-- with two turns less for the first one, the second one takes the last two
two_turns_left : run_to_yield class 1 (here came 499998) (round ∷ []) ≡ stopped (here came 0) [] 999998 UsedUp
unfolding max_turns
two_turns_left =
    rounds class came 0 499998 1 (omega arith) (omega arith)
    ∙ run_goes class 999997 (here came 0) (here came 0) round [] [] [] (omega arith) (simp turning) (leaves class came)
    ∙ run_to_yield_end class 999998 (here came 0)

last_two : run_to_yield class 999999 (here came 0) (Do (roll-Item (record { line = 10; kind = it.Pass })) ∷ []) ≡ stopped (here came 0) [] 1000000 UsedUp
unfolding max_turns
last_two =
    run_goes class 999999 (here came 0) (here came 0) (Do (roll-Item (record { line = 10; kind = it.Pass }))) [] [] [] (omega arith) (simp turning) (simp turning)
    ∙ run_to_yield_end class 1000000 (here came 0)

second_in_time : proc_step program (waits 499998) (Deliver one 1 1) ≡ Some (record { world = record { data' = here came 0; todo = Do label ∷ []; phase = Waiting }; actions = Got 1 1 1 (value_of one) ∷ [] })
unfolding max_turns last_time
second_in_time =
    step_delivers program class (waits 499998) refl one 1 1 refl (simp taking)
    ∙ ap (λ ran. Some (handled (Do label ∷ []) 1 one 1 1 ran))
    (handle_runs class one 1 counts (passes ∷ []) 0 (here came 499998) [] _ (omega arith) (simp turning) two_turns_left
    ∙ handle_runs class one 1 passes [] 999998 (here came 0) [] _ (omega arith) (simp turning) last_two
    ∙ handle_none class one 1 1000000 (here came 0))
