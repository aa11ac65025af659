-- What a person may ask of a process of a system, if it is there.
use Rattle.std.specs.Prelude.{ℕ, List, [], Option, Some, None}
use Rattle.da_values.specs.declared.val.Val.{Val}
use Rattle.da_lang.specs.declared.event.Action.{Action}
use Rattle.da_lang.specs.declared.program.Program.{Program}
use Rattle.da_lang.specs.World.{World, class_of}
use Rattle.da_core.specs.Told.{answers_of}

-- its slots
abbrev pub slots_at : Option World → List Val
slots_at None = []
slots_at (Some w) = w.data'.slots

-- the answers of its queries
abbrev pub answers_at : Program → ℕ → Option World → List Action
answers_at program p None = []
answers_at program p (Some w) = answers_of p (class_of program p) w.data'
