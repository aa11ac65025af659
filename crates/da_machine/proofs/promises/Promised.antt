-- All that types promise of a class holds of each class of an accepted program.
use Rattle.std.specs.Prelude.{List, ◌∷◌}
use Rattle.std.proofs.Common.{sym, subst}
use Rattle.std.proofs.lemmas.List.Elements.{All-head, All-tail}
use Rattle.da_values.specs.Sets.{Has}
use Rattle.da_lang.specs.declared.program.Class.{Class}
use Rattle.da_lang.specs.declared.program.Program.{Program}
use Rattle.da_lang.specs.Accepted.{IsAccepted}
use Rattle.da_lang.specs.Shaped.{IsTask, ShapedData, ShapedTasks}
use Rattle.da_lang.specs.Turns.{turn}
use Rattle.da_lang.specs.World.{Data, Task}
use Rattle.da_types.specs.Sound.{IsSound}
use Rattle.da_types.proofs.shaped.Known.{IsWholeProgram}
use Rattle.da_types.proofs.shaped.KeptShaped.{accepted_is_whole}
use Rattle.da_types.proofs.sound.AcceptedLaws.{is_sound}
use Rattle.da_types.proofs.sound.AcceptedShaped.{keeps_shaped}
use Rattle.da_types.proofs.totality.Worlds.{class_has}
use Rattle.da_machine.specs.Promises.{Promises}
use Rattle.da_machine.proofs.promises.Setups.{setup_line_enters, setup_line_reads}
use Rattle.da_machine.proofs.promises.Statements.{loop_takes, statement_promises, statement_reads}

-- a turn leaves a world as types say
turn_keeps : (p : Program) (class : Class) → IsAccepted p → (t : Task) (d : Data) (todo : List Task) → ShapedData p class d → ShapedTasks p class d.me (t ∷ todo)
    → ShapedData p class (turn class t d todo).data' × ShapedTasks p class (turn class t d todo).data'.me (turn class t d todo).todo
turn_keeps p class accepted t d todo knows tasks =
    let left = (keeps_shaped p accepted).turns class t d todo knows (All-head (IsTask p class d.me) t todo tasks) (All-tail (IsTask p class d.me) t todo tasks) in
    (left.knows, subst (λ me. ShapedTasks p class me (turn class t d todo).todo) (sym left.same) left.tasks)

promised : (p : Program) (class : Class) → IsAccepted p → IsSound p → IsWholeProgram p → Has p.classes class → Promises p class
promised p class accepted sound whole among = record {
  keeps = turn_keeps p class accepted;
  reads_all = statement_reads p class whole among;
  kinds = statement_promises p class whole among (sound.classes class among);
  next_element = loop_takes p class whole among;
  setup_reads = setup_line_reads p class whole sound;
  setup = setup_line_enters p class whole sound;
}

-- WHAT TYPES PROMISE HOLDS OF EACH CLASS OF AN ACCEPTED PROGRAM
pub promises_of : (p : Program) (class : Class) → IsAccepted p → Has p.classes class → Promises p class
promises_of p class accepted among = let sound = is_sound p accepted in promised p class accepted sound (accepted_is_whole p accepted sound.constants) among

-- of the class of a process of which something may be known
pub promises_known : (p : Program) (class : Class) (d : Data) → IsAccepted p → ShapedData p class d → Promises p class
promises_known p class d accepted knows = promises_of p class accepted (class_has p d.me class knows.is_class)
