-- The number and the slots of a process, where code lends them.
use Rattle.std.specs.Prelude.{◌≡◌, []}
use Rattle.da_lang.specs.World.{Data}
use Rattle.row_terms.specs.declared.locals.Locals.{Locals}

-- a process of this number with these slots and nothing else: neither histories nor a clock
abbrev pub data_of : Locals → Data
data_of locals = record { me = locals.me; slots = locals.slots.now; sent = []; received = []; clock = 0 }

-- a process has this number and these slots
pub record IsAt (locals : Locals) (d : Data) : Type 0 where
  pub me : d.me ≡ locals.me
  pub slots : d.slots ≡ locals.slots.now
