-- The queues of all channels in code, as contracts see them.
use Rattle.std.specs.Prelude.{ℕ, List}
use Rattle.da_system.specs.declared.queue.InFlight.{InFlight}

-- those of so many processes, in one list
pub record Queued : Type 0 where
  pub count : ℕ
  pub queues : List (List InFlight)
