-- Messages that a trace gets more than once.
use Rattle.std.specs.Prelude.{◌≡◌, ◌↔◌, ℕ, ◌+◌, ◌*◌, Bool, List, [], ◌∷◌, length, slice_get, Option, Some, None, IsTrue}
use Rattle.std.specs.BTreeSet.{BTreeSet, contains}
use Rattle.std.specs.Ordering.{nat_cmp}
use Rattle.da_values.specs.declared.value.Value.{Value}
use Rattle.da_values.specs.Sets.{Has}
use Rattle.da_values.specs.Value.{val_of}
use Rattle.da_lang.specs.declared.event.Action.{Action}
use Rattle.da_lang.specs.declared.event.Action.TheVariants.{Got}
use Rattle.da_system.specs.Channels.{MessageInFlight}
use Rattle.trace_join.specs.Traces.{messages_from}

-- the message in flight with this value and time
abbrev pub message_at : Value → ℕ → MessageInFlight
message_at m time = record { message = val_of m; time = time }

-- the action gets a message that the actions after it get, too
abbrev pub IsGotAgain : Action → (behind : List Action) → Type 0
IsGotAgain (Got q from time m) behind = Has (messages_from from behind) (message_at m time)
IsGotAgain _ behind = ⊥

-- for each action of a trace, by how many stand after it, whether that is so
abbrev pub TellRepeats : List Action → List Bool → Type 0
TellRepeats [] repeats = Unit {0}
TellRepeats (a ∷ behind) repeats = ((b : Bool) → slice_get repeats (length behind) ≡ Some b → (IsTrue b ↔ IsGotAgain a behind)) × TellRepeats behind repeats

-- a number for the messages that a process sends at a time, and that of what an action gets
abbrev pub key_of : (from time : ℕ) → ℕ
key_of from time = time * 65536 + from

abbrev pub got_key : Action → Option ℕ
got_key (Got q from time m) = Some (key_of from time)
got_key _ = None

-- the set has the number of what an action gets, if it gets something, and those of what all actions get
abbrev pub HasKey : BTreeSet ℕ → Option ℕ → Type 0
HasKey keys None = Unit {0}
HasKey keys (Some k) = IsTrue (contains nat_cmp keys k)

abbrev pub HasKeys : BTreeSet ℕ → List Action → Type 0
HasKeys keys [] = Unit {0}
HasKeys keys (a ∷ actions) = HasKey keys (got_key a) × HasKeys keys actions

-- no number is lost
abbrev pub KeepsKeys : BTreeSet ℕ → BTreeSet ℕ → Type 0
KeepsKeys old new = (k : ℕ) → IsTrue (contains nat_cmp old k) → IsTrue (contains nat_cmp new k)
