-- The events that may be picked in some states.
use Rattle.std.specs.Prelude.{◌≡◌, refl, pos, Bool, true, false, List, [], ◌∷◌, Option, Some, None, codes}
use Rattle.da_values.specs.declared.value.Value.TheVariants as literal
use Rattle.da_lang.specs.declared.event.Event.TheVariants.{Deliver, Move, Take, Timeout}
use Rattle.da_lang.specs.declared.program.Alt.{Alt, roll-Alt}
use Rattle.da_lang.specs.declared.program.Handler.{Handler}
use Rattle.da_lang.specs.declared.program.Item.{Item, roll-Item}
use Rattle.da_lang.specs.declared.program.ItemKind.TheVariants as it
use Rattle.da_lang.specs.declared.program.Program.{Program}
use Rattle.da_lang.specs.declared.query.Cond.TheVariants as cond
use Rattle.da_lang.specs.declared.query.Pattern.TheVariants.{Any, Const, Tuple}
use Rattle.da_lang.specs.declared.query.Term.TheVariants as term
use Rattle.da_lang.specs.declared.ty.ChannelKind.{ChannelKind}
use Rattle.da_lang.specs.declared.ty.ChannelKind.TheVariants.{FifoReliable, UnorderedUnreliable}
use Rattle.da_lang.specs.World.{Do, World, Waiting, Ended}
use Rattle.da_lang.proofs.Computing.{stepping, taking}
use Rattle.da_system.specs.Channels.{MessageInFlight}
use Rattle.da_system.specs.Choices.{choices}
use Rattle.da_system.specs.StressRun.{next_number}
use Rattle.da_system.specs.SystemStep.{start}
use Rattle.da_system.proofs.SystemExamples.{both, class, knows, message, program, second, system}

-- both processes wait at a label, and two messages are in flight: moves come first, and then the deliveries
unordered_choices : choices (program UnorderedUnreliable) (system UnorderedUnreliable both (second Waiting (knows [] 0))) ≡ Move 1 ∷ Move 2 ∷ Deliver 1 2 1 ∷ Deliver 1 2 2 ∷ []
unordered_choices = simp stepping

-- of a fifo channel only the first message
fifo_choices : choices (program FifoReliable) (system FifoReliable both (second Waiting (knows [] 0))) ≡ Move 1 ∷ Move 2 ∷ Deliver 1 2 1 ∷ []
fifo_choices = simp stepping

-- nothing is delivered to a process that has ended, and it does not move
few_choices : choices (program UnorderedUnreliable) (system UnorderedUnreliable both (second Ended (knows [] 0))) ≡ Move 1 ∷ []
few_choices = simp stepping

-- of five messages the first four
abbrev five : List MessageInFlight
five = message 7 1 ∷ message 8 2 ∷ message 9 3 ∷ message 10 4 ∷ message 11 5 ∷ []

four_of_five : choices (program UnorderedUnreliable) (system UnorderedUnreliable five (second Waiting (knows [] 0))) ≡ Move 1 ∷ Move 2 ∷ Deliver 1 2 1 ∷ Deliver 1 2 2 ∷ Deliver 1 2 3 ∷ Deliver 1 2 4 ∷ []
four_of_five = simp stepping

-- a new process begins
new_choices : choices (program UnorderedUnreliable) (start (program UnorderedUnreliable)) ≡ Move 1 ∷ Move 2 ∷ []
new_choices = refl

-- at an `await` the alternatives that are true, before the deliveries
abbrev way : Bool → Alt
way b = roll-Alt (record { cond = cond.Truth (term.Const (literal.Bool b)); found = None; binds = []; body = []; line = 4 })

abbrev awaits : List Alt → Option (List Item) → World
awaits alts timeout = record { data' = knows [] 0; todo = Do (roll-Item (record { line = 4; kind = it.Await alts timeout None })) ∷ []; phase = Waiting }

await_choices : choices (program FifoReliable) (system FifoReliable both (awaits (way true ∷ way false ∷ way true ∷ []) (Some []))) ≡ Move 1 ∷ Take 2 1 ∷ Take 2 3 ∷ Deliver 1 2 1 ∷ []
await_choices = simp stepping

-- the timeout after the moves, where no alternative is true and there is a block for it
timeout_choices : choices (program FifoReliable) (system FifoReliable both (awaits (way false ∷ way false ∷ []) (Some []))) ≡ Move 1 ∷ Timeout 2 ∷ Deliver 1 2 1 ∷ []
timeout_choices = simp stepping

no_timeout_choices : choices (program FifoReliable) (system FifoReliable both (awaits (way false ∷ way false ∷ []) None)) ≡ Move 1 ∷ Deliver 1 2 1 ∷ []
no_timeout_choices = simp stepping

-- a message that only a handler of another label may match does not arrive, and another one after it does
abbrev shut_out : ChannelKind → Program
shut_out kind =
    let seven : Handler = record { message = Tuple (Const (literal.Text (codes "note")) ∷ Const (literal.Int (pos 7)) ∷ []); from = Any; at = 2 ∷ []; binds = []; body = []; line = 5 } in
    record (program kind) { classes = record class { handlers = seven ∷ [] } ∷ [] }

later_choices : choices (shut_out UnorderedUnreliable) (system UnorderedUnreliable both (second Waiting (knows [] 0))) ≡ Move 1 ∷ Move 2 ∷ Deliver 1 2 2 ∷ []
later_choices = simp taking

-- in a fifo channel it has to wait
blocked_choices : choices (shut_out FifoReliable) (system FifoReliable both (second Waiting (knows [] 0))) ≡ Move 1 ∷ Move 2 ∷ []
blocked_choices = simp taking

-- the first number after 1
number_after_1 : next_number 1 ≡ 25214903928
number_after_1 = refl
