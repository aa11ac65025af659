-- What statements can do to what a process knows.
use Rattle.std.specs.Prelude.{ℕ}
use Rattle.da_values.specs.declared.val.Val.{Val}
use Rattle.da_lang.specs.Turns.{later, sent_at}
use Rattle.da_lang.specs.World.{Data, put_slot}

-- slots get values and messages are sent, any number of times; nothing else changes
pub data Changes (d : Data) : Data → Type 0 where
  none : Changes d d
  puts : (d2 : Data) (s : ℕ) (v : Val) → Changes d d2 → Changes d (put_slot d2 s v)
  sends : (d2 : Data) (m : Val) (p : ℕ) → Changes d d2 → Changes d (sent_at m p (later d2.clock) d2)
