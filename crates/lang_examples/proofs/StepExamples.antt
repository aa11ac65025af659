-- Steps that are allowed and steps that are not, of process 1 of small programs.
use Rattle.std.specs.Prelude.{◌≡◌, refl, ℕ, pos, Bool, true, false, List, [], ◌∷◌, Option, Some, None, codes}
use Rattle.std.proofs.Common.{◌∙◌, ap, arith}
use Rattle.da_values.specs.declared.val.Val.{Val}
use Rattle.da_values.specs.declared.val.Val.TheVariants as val
use Rattle.da_values.specs.declared.value.Value.TheVariants as literal
use Rattle.da_lang.specs.declared.event.Action.TheVariants.{Took, Out, End, Fault}
use Rattle.da_lang.specs.declared.event.FaultKind.TheVariants.{Divide}
use Rattle.da_lang.specs.declared.program.Alt.{Alt, roll-Alt}
use Rattle.da_lang.specs.declared.program.ChainPart.{roll-ChainPart}
use Rattle.da_lang.specs.declared.program.Class.{Class}
use Rattle.da_lang.specs.declared.program.Handler.{Handler}
use Rattle.da_lang.specs.declared.program.Item.{Item, roll-Item}
use Rattle.da_lang.specs.declared.program.ItemKind.{ItemKind}
use Rattle.da_lang.specs.declared.program.ItemKind.TheVariants as it
use Rattle.da_lang.specs.declared.program.Program.{Program}
use Rattle.da_lang.specs.declared.program.RExpr.{RExpr}
use Rattle.da_lang.specs.declared.program.RExpr.TheVariants as ex
use Rattle.da_lang.specs.declared.query.Cond.{Cond}
use Rattle.da_lang.specs.declared.query.Cond.TheVariants as cond
use Rattle.da_lang.specs.declared.query.Pattern.TheVariants.{Any, Bind, Const, Tuple}
use Rattle.da_lang.specs.declared.query.RGen.{RGen}
use Rattle.da_lang.specs.declared.query.Query.TheVariants as query
use Rattle.da_lang.specs.declared.query.Source.TheVariants as source
use Rattle.da_lang.specs.declared.query.Term.TheVariants as term
use Rattle.da_lang.specs.declared.tree.ArithOp.TheVariants.{Div}
use Rattle.da_lang.specs.declared.ty.ChannelKind.TheVariants.{UnorderedUnreliable}
use Rattle.da_lang.proofs.RunLaws.{run_fails, run_goes, run_to_yield_end, run_to_yield_yield}
use Rattle.da_lang.specs.Runs.{ran_after}
use Rattle.da_lang.specs.Steps.{Step, Go, Take, Deliver, Stepped, moved, proc_step}
use Rattle.da_lang.specs.World.{Data, Task, Do, Prepare, World, Phase, New, Waiting, Ended, Faulted}
use Rattle.da_lang.proofs.Computing.{early, stepping}

abbrev num : ℕ → Val
num n = val.Int (pos n)

abbrev on : ℕ → ItemKind → Item
on line kind = roll-Item (record { line = line; kind = kind })

abbrev int : ℕ → RExpr
int n = ex.Const (literal.Int (pos n))

abbrev constant : Bool → Cond
constant b = cond.Truth (term.Const (literal.Bool b))

abbrev way : Bool → ℕ → Alt
way b n = roll-Alt (record { cond = constant b; found = None; binds = []; body = on 5 (it.Output (int n)) ∷ []; line = 4 })

abbrev alt : Bool → Alt
alt b = way b 7

-- an `await` with a true and a false alternative, and one with three
abbrev two_ways : Item
two_ways = on 4 (it.Await (alt true ∷ alt false ∷ []) None None)

abbrev three_ways : Item
three_ways = on 4 (it.Await (way true 7 ∷ way false 8 ∷ way true 9 ∷ []) None None)

-- `('ping', k)` from `who`: both are bound, and k goes back to the sender
abbrev answers : Handler
answers = record { message = Tuple (Const (literal.Text (codes "ping")) ∷ Bind ∷ []); from = Bind; at = []; binds = 1 ∷ 2 ∷ []; body = on 9 (it.Output (ex.Slot 1)) ∷ []; line = 8 }

abbrev class : Class
class = record { name = []; slots = []; params = []; setup = []; run = on 3 (it.Label 1) ∷ two_ways ∷ []; handlers = answers ∷ []; queries = []; line = 1 }

abbrev program : Program
program = record { kind = UnorderedUnreliable; messages = []; classes = class ∷ []; procs = record { class = 0; setup = None } ∷ [] }

abbrev here : Data
here = record { me = 1; slots = num 0 ∷ val.Proc 1 ∷ []; sent = []; received = []; clock = 5 }

abbrev at : Phase → List Task → World
at phase todo = record { data' = here; todo = todo; phase = phase }

abbrev steps : World → Step → Option Stepped
steps w s = proc_step program w s

abbrev ping : Val
ping = val.Tuple (val.Text (codes "ping") ∷ num 6 ∷ [])

-- A NEW PROCESS begins, and the run stops at the label; nothing else is allowed

begins : steps (at New []) Go ≡ Some (record { world = at Waiting (Do (on 3 (it.Label 1)) ∷ Do two_ways ∷ []); actions = Took 1 0 ∷ [] })
begins = ap (λ ran. Some (moved 1 0 ran)) (run_to_yield_yield class 0 here (Do (on 3 (it.Label 1))) (Do two_ways ∷ []) (simp stepping))

new_takes_none : steps (at New []) (Take 1) ≡ None
new_takes_none = refl

new_gets_none : steps (at New []) (Deliver ping 2 3) ≡ None
new_gets_none = refl

-- AT A LABEL it goes on, here to the `await`

goes_on : steps (at Waiting (Do (on 3 (it.Label 1)) ∷ Do two_ways ∷ [])) Go ≡ Some (record { world = at Waiting (Do two_ways ∷ []); actions = Took 1 0 ∷ [] })
goes_on = simp stepping (ap (λ ran. Some (moved 1 0 ran)) (run_to_yield_yield class 1 here (Do two_ways) [] (simp stepping)))

label_takes_none : steps (at Waiting (Do (on 3 (it.Label 1)) ∷ [])) (Take 1) ≡ None
label_takes_none = simp stepping

-- AT AN `await` it takes what is there and true

await_goes_not : steps (at Waiting (Do two_ways ∷ [])) Go ≡ None
await_goes_not = simp stepping

takes : steps (at Waiting (Do two_ways ∷ [])) (Take 1) ≡ Some (record { world = at Ended []; actions = Took 1 1 ∷ Out 1 (literal.Int (pos 7)) ∷ End 1 ∷ [] })
takes = simp stepping (ap (λ ran. Some (moved 1 1 ran)) (run_goes class 1 here here (Do (on 5 (it.Output (int 7)))) [] [] (Out 1 (literal.Int (pos 7)) ∷ []) (early 1 (omega arith)) (simp stepping) (simp stepping) ∙ ap (ran_after (Out 1 (literal.Int (pos 7)) ∷ [])) (run_to_yield_end class 2 here)))

takes_no_false_one : steps (at Waiting (Do two_ways ∷ [])) (Take 2) ≡ None
takes_no_false_one = simp stepping

takes_no_third_one : steps (at Waiting (Do two_ways ∷ [])) (Take 3) ≡ None
takes_no_third_one = simp stepping

-- of three, the third one is taken although the first one is true too
takes_third : steps (at Waiting (Do three_ways ∷ [])) (Take 3) ≡ Some (record { world = at Ended []; actions = Took 1 3 ∷ Out 1 (literal.Int (pos 9)) ∷ End 1 ∷ [] })
takes_third = simp stepping (ap (λ ran. Some (moved 1 3 ran)) (run_goes class 1 here here (Do (on 5 (it.Output (int 9)))) [] [] (Out 1 (literal.Int (pos 9)) ∷ []) (early 1 (omega arith)) (simp stepping) (simp stepping) ∙ ap (ran_after (Out 1 (literal.Int (pos 9)) ∷ [])) (run_to_yield_end class 2 here)))

takes_no_second_of_three : steps (at Waiting (Do three_ways ∷ [])) (Take 2) ≡ None
takes_no_second_of_three = simp stepping

takes_no_0 : steps (at Waiting (Do two_ways ∷ [])) (Take 0) ≡ None
takes_no_0 = simp stepping

-- AN ENDED OR FAULTED PROCESS takes no step

ended_goes_not : (todo : List Task) → steps (at Ended todo) Go ≡ None
ended_goes_not todo = refl

ended_takes_none : (todo : List Task) (k : ℕ) → steps (at Ended todo) (Take k) ≡ None
ended_takes_none todo k = refl

ended_gets_none : (todo : List Task) (m : Val) (p time : ℕ) → steps (at Ended todo) (Deliver m p time) ≡ None
ended_gets_none todo m p time = refl

faulted_goes_not : (todo : List Task) → steps (at Faulted todo) Go ≡ None
faulted_goes_not todo = refl

faulted_takes_none : (todo : List Task) (k : ℕ) → steps (at Faulted todo) (Take k) ≡ None
faulted_takes_none todo k = refl

faulted_gets_none : (todo : List Task) (m : Val) (p time : ℕ) → steps (at Faulted todo) (Deliver m p time) ≡ None
faulted_gets_none todo m p time = refl

-- A FAULT OF THE FIRST TURN of a move: `output(1 // 0)` on line 3 is gone, and what stands after it is kept

abbrev divides : Item
divides = on 3 (it.Output (ex.Chain (int 1) (roll-ChainPart (record { op = Div; operand = int 0 }) ∷ [])))

abbrev class_divides : Class
class_divides = record class { run = divides ∷ two_ways ∷ [] }

abbrev program_divides : Program
program_divides = record program { classes = class_divides ∷ [] }

fails_at_once : proc_step program_divides (at New []) Go ≡ Some (record { world = at Faulted (Do two_ways ∷ []); actions = Took 1 0 ∷ Fault 1 Divide 3 ∷ [] })
fails_at_once = ap (λ ran. Some (moved 1 0 ran)) (run_fails class_divides 0 here here (Do divides) (Do two_ways ∷ []) (Do two_ways ∷ []) [] Divide 3 (early 0 (omega arith)) (simp stepping) (simp stepping))

-- A PROCESS THAT IS SET UP, and an `await` that binds: its line of `setup` gives 5 to slot 1; the `some` is over slot 2
-- and binds slot 3

abbrev one_in : List RGen
one_in = record { source = source.Slot 2; message = Bind; peer = Any } ∷ []

abbrev binding : Item
binding = on 6 (it.Await (roll-Alt (record { cond = cond.Quant false one_in None; found = Some 1; binds = 3 ∷ []; body = on 6 (it.Output (ex.Slot 3)) ∷ []; line = 6 }) ∷ []) None None)

abbrev class2 : Class
class2 = record { name = []; slots = []; params = 1 ∷ []; setup = []; run = binding ∷ []; handlers = []; queries = query.Quant false one_in None ∷ []; line = 1 }

abbrev program2 : Program
program2 = record { kind = UnorderedUnreliable; messages = []; classes = class2 ∷ []; procs = record { class = 0; setup = Some (record { args = int 5 ∷ []; line = 20 }) } ∷ [] }

abbrev with_slots : ℕ → ℕ → Data
with_slots first third = record { me = 1; slots = num first ∷ val.Set (num 2 ∷ num 4 ∷ []) ∷ num third ∷ []; sent = []; received = []; clock = 0 }

-- the first turn is that of the setup entry
sets_up : proc_step program2 (record { data' = with_slots 0 0; todo = []; phase = New }) Go ≡ Some (record { world = record { data' = with_slots 5 0; todo = Do binding ∷ []; phase = Waiting }; actions = Took 1 0 ∷ [] })
sets_up =
    ap (λ ran. Some (moved 1 0 ran))
    (run_goes class2 0 (with_slots 0 0) (with_slots 5 0) (Prepare (record { args = int 5 ∷ []; line = 20 })) (Do binding ∷ []) (Do binding ∷ []) [] (early 0 (omega arith)) refl (simp stepping)
    ∙ run_to_yield_yield class2 1 (with_slots 5 0) (Do binding) [] (simp stepping))

-- the least row is bound before the block runs
binds_least : proc_step program2 (record { data' = with_slots 5 0; todo = Do binding ∷ []; phase = Waiting }) (Take 1) ≡ Some (record { world = record { data' = with_slots 5 2; todo = []; phase = Ended }; actions = Took 1 1 ∷ Out 1 (literal.Int (pos 2)) ∷ End 1 ∷ [] })
binds_least =
    simp stepping
    (ap (λ ran. Some (moved 1 1 ran))
    (run_goes class2 1 (with_slots 5 2) (with_slots 5 2) (Do (on 6 (it.Output (ex.Slot 3)))) [] [] (Out 1 (literal.Int (pos 2)) ∷ []) (early 1 (omega arith)) (simp stepping) (simp stepping)
    ∙ ap (ran_after (Out 1 (literal.Int (pos 2)) ∷ [])) (run_to_yield_end class2 2 (with_slots 5 2))))

-- with no element there is no row
binds_none : proc_step program2 (record { data' = record (with_slots 5 0) { slots = num 5 ∷ val.Set [] ∷ num 0 ∷ [] }; todo = Do binding ∷ []; phase = Waiting }) (Take 1) ≡ None
binds_none = simp stepping
