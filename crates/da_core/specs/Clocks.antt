-- Clocks that are set back to 0.
use Rattle.da_lang.specs.World.{Data, World}
use Rattle.da_core.specs.declared.process.Core.{Core}

abbrev pub at_zero : Data → Data
at_zero d = record d { clock = 0 }

abbrev pub without_clock : World → World
without_clock w = record w { data' = at_zero w.data' }

abbrev pub back_to_zero : Core → Core
back_to_zero core = record core { known = record core.known { clock = 0 } }
