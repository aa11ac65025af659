-- What is shown of accepted programs, where it is used here.
use Rattle.std.specs.Prelude.{◌≡◌, ℕ, Some}
use Rattle.da_lang.specs.declared.program.Class.{Class}
use Rattle.da_lang.specs.declared.program.Program.{Program}
use Rattle.da_lang.specs.Accepted.{IsAccepted}
use Rattle.da_lang.specs.Shaped.{IsProcess}
use Rattle.da_lang.specs.World.{class_of}
use Rattle.da_types.proofs.shaped.Known.{IsWholeProgram}
use Rattle.da_types.proofs.shaped.KeptShaped.{accepted_is_whole}
use Rattle.da_types.proofs.sound.AcceptedLaws.{is_sound}
pub use Rattle.da_types.proofs.sound.AcceptedShaped.{keeps_shaped}
pub use Rattle.da_types.proofs.totality.Worlds.{class_has}

-- each process is of a class that is there
pub has_class : (p : Program) (me : ℕ) → IsAccepted p → IsProcess p me → (class : Class) × (class_of p me ≡ Some class)
has_class p me accepted there = (is_sound p accepted).placed me there

-- it is typed as a whole, and its constants are there
pub is_whole : (p : Program) → IsAccepted p → IsWholeProgram p
is_whole p accepted = accepted_is_whole p accepted (is_sound p accepted).constants
