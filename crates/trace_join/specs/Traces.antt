-- What each process tells of itself, in order: its trace.
use Rattle.std.specs.Prelude.{ℕ, ◌==◌, Bool, false, if◌then◌else◌, List, [], ◌∷◌, Option, Some, None}
use Rattle.std.specs.List.{filter, flat_map}
use Rattle.da_values.specs.Value.{val_of}
use Rattle.da_lang.specs.declared.event.Action.{Action}
use Rattle.da_lang.specs.declared.event.Action.TheVariants.{Sent, Got}
use Rattle.da_system.specs.Channels.{MessageInFlight}
use Rattle.sched_text.specs.TraceText.{teller}

-- whether process p is the one that tells an action, if one does
abbrev pub is_teller : ℕ → Option ℕ → Bool
is_teller p None = false
is_teller p (Some q) = q == p

-- what process p tells
abbrev pub part : ℕ → List Action → List Action
part p actions = filter (λ (a : Action). is_teller p (teller a)) actions

-- the message that an action sends to process q, and those that actions send to it
abbrev pub message_to : ℕ → Action → List MessageInFlight
message_to q (Sent p to time m) = if to == q then record { message = val_of m; time = time } ∷ [] else []
message_to q _ = []

abbrev pub messages_to : ℕ → List Action → List MessageInFlight
messages_to q actions = flat_map (message_to q) actions

-- the message that an action gets from process p, and those that actions get from it
abbrev pub message_from : ℕ → Action → List MessageInFlight
message_from p (Got q from time m) = if from == p then record { message = val_of m; time = time } ∷ [] else []
message_from p _ = []

abbrev pub messages_from : ℕ → List Action → List MessageInFlight
messages_from p actions = flat_map (message_from p) actions
