-- What stands for the types of slots and of messages, as code has it.
use Rattle.std.specs.Prelude.{ℕ, List, [], ◌∷◌, Option, Some, None, find, bytes_eq}
use Rattle.da_lang.specs.World.{at_number}
use Rattle.type_demands.specs.declared.demand.Demand.TheVariants as d
use Rattle.type_demands.specs.declared.known.Known.{Known}
use Rattle.type_demands.specs.declared.known.MessageScheme.{MessageScheme}
use Rattle.type_demands.specs.declared.known.SlotScheme.{SlotScheme}
use Rattle.type_demands.specs.declared.known.SlotScheme.TheVariants as slot
use Rattle.type_demands.specs.Syms.{Sym, Context, plain, never}

abbrev pub slot_sym : ℕ → Option SlotScheme → Sym
slot_sym number None = never
slot_sym number (Some slot.Untyped) = never
slot_sym number (Some (slot.Declared scheme)) = plain scheme
slot_sym number (Some (slot.Bound scheme)) = record { demands = d.Uses number ∷ []; scheme = scheme }

abbrev pub whole_sym : Option MessageScheme → Sym
whole_sym None = never
whole_sym (Some message) = plain message.whole

abbrev pub slot_in : List SlotScheme → ℕ → Sym
slot_in slots number = slot_sym number (at_number slots number)

abbrev pub message_in : List MessageScheme → List ℕ → Sym
message_in messages tag = whole_sym (find (λ m. bytes_eq m.tag tag) messages)

abbrev pub context_of : Known → Context
context_of known = record { slot = slot_in known.slots.now; message = message_in known.messages.now }
