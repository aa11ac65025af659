-- What is sent and what is told of it are the same.
use Rattle.std.specs.Prelude.{◌≡◌, refl, ℕ, List, [], ◌∷◌, ◌++◌, map}
use Rattle.std.proofs.Common.{◌∙◌, ap, sym, append_assoc, append-nil}
use Rattle.da_values.specs.declared.val.Val.{Val}
use Rattle.da_values.specs.Value.{value_of}
use Rattle.da_lang.specs.declared.event.Action.{Action}
use Rattle.da_lang.specs.declared.event.Action.TheVariants.{Sent}
use Rattle.da_lang.specs.Turns.{later, sending, sent_at, sent_to}
use Rattle.da_lang.specs.World.{Entry, Data}

-- the entries of a message to these processes, from this clock on
abbrev pub entries : Val → List ℕ → ℕ → List Entry
entries m [] clock = []
entries m (p ∷ ps) clock = record { message = m; peer = p; time = later clock } ∷ entries m ps (later clock)

abbrev pub told : ℕ → Entry → Action
told me e = Sent me e.peer e.time (value_of e.message)

-- the history grows by one entry for each process
pub sent_to-sent : (m : Val) (ps : List ℕ) (d : Data) → (sent_to m ps d).sent ≡ d.sent ++ entries m ps d.clock
sent_to-sent m [] d = sym (append-nil d.sent)
sent_to-sent m (p ∷ ps) d =
    sent_to-sent m ps (sent_at m p (later d.clock) d)
    ∙ append_assoc d.sent (record { message = m; peer = p; time = later d.clock } ∷ []) (entries m ps (later d.clock))

-- and each is told
pub sending-entries : (me : ℕ) (m : Val) (ps : List ℕ) (clock : ℕ) → sending me m ps clock ≡ map (told me) (entries m ps clock)
sending-entries me m [] clock = refl
sending-entries me m (p ∷ ps) clock = ap (λ others. Sent me p (later clock) (value_of m) ∷ others) (sending-entries me m ps (later clock))

-- nothing else changes but the clock
pub sent_to-slots : (m : Val) (ps : List ℕ) (d : Data) → (sent_to m ps d).slots ≡ d.slots
sent_to-slots m [] d = refl
sent_to-slots m (p ∷ ps) d = sent_to-slots m ps (sent_at m p (later d.clock) d)

pub sent_to-received : (m : Val) (ps : List ℕ) (d : Data) → (sent_to m ps d).received ≡ d.received
sent_to-received m [] d = refl
sent_to-received m (p ∷ ps) d = sent_to-received m ps (sent_at m p (later d.clock) d)
