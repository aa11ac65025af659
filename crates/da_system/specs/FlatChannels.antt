-- The channels as one list: those of the first sender, then those of the second, and so on, each in the order of the
-- recipients. So the channel from p to q is the one at this place, counted from 0, where there are so many processes.
use Rattle.std.specs.Prelude.{◌≡◌, ℕ, ◌+◌, ◌*◌, ◌-◌, List, [], ◌∷◌, ◌++◌, length, slice_get, slice_set}
use Rattle.da_lang.specs.declared.program.Program.{Program}
use Rattle.da_lang.specs.Shaped.{IsProcess}
use Rattle.da_system.specs.Channels.{Channels, MessageInFlight, channel, or_empty, with_channel}

abbrev pub flat : Channels → List (List MessageInFlight)
flat [] = []
flat (row ∷ rows) = row ++ flat rows

abbrev pub place_of : ℕ → ℕ → ℕ → ℕ
place_of count p q = (p - 1) * count + (q - 1)

-- the channel of each two processes stands there, and with other messages it is another member of the list
pub record StandFlat (program : Program) (channels : Channels) : Type 0 where
  pub at_place : (p q : ℕ) → IsProcess program p → IsProcess program q → or_empty (slice_get (flat channels) (place_of (length program.procs) p q)) ≡ channel channels p q
  pub changed : (p q : ℕ) (messages : List MessageInFlight) → IsProcess program p → IsProcess program q
      → flat (with_channel channels p q messages) ≡ slice_set (flat channels) (place_of (length program.procs) p q) messages
