-- The rows that a process in code keeps are those that its class says.
use Rattle.std.specs.Prelude.{◌≡◌, ℕ, List, Some, map, length, sum}
use Rattle.std.proofs.Common.{◌∙◌}
use Rattle.da_lang.specs.declared.program.Class.{Class}
use Rattle.da_lang.specs.declared.program.Program.{Program}
use Rattle.da_lang.specs.declared.query.Node.{Node}
use Rattle.da_lang.specs.Accepted.{IsAccepted}
use Rattle.da_lang.specs.Live.{kept}
use Rattle.da_lang.specs.World.{Data, class_of}
use Rattle.da_types.proofs.sound.AcceptedLaws.{is_typed}
use Rattle.da_types.proofs.totality.Worlds.{class_has}
use Rattle.quant_norm.proofs.LiveLaw.{typed_kept}
use Rattle.row_pool.specs.Cells.{Cells}
use Rattle.delta_rules.specs.Keeping.{Keeps, all_live}
use Rattle.da_core.specs.declared.known.Known.{Known}
use Rattle.da_core.specs.Known.{Knows}
use Rattle.da_core.proofs.KnownLaws.{kept_is}

-- of the class of some process of an accepted program
pub rows_are : (known : Known) (p : Program) (me : ℕ) (class : Class) (d : Data) → IsAccepted p → class_of p me ≡ Some class → Knows known p class d → (n : ℕ)
    → ((pool : Cells) (nodes : List Node) (e : Data) → Keeps known.answers pool nodes e → n ≡ sum (map length (all_live e nodes))) → n ≡ kept class d
rows_are known p me class d accepted classed knows n told =
    kept_is known n told p class d knows ∙ typed_kept p class (is_typed p accepted) (class_has p me class classed) d
