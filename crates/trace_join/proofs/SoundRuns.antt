-- The states of a run of an accepted program are sound.
use Rattle.std.specs.Prelude.{◌≡◌, Option, Some, IfSome}
use Rattle.std.proofs.Common.{subst}
use Rattle.da_lang.specs.declared.event.Event.{Event}
use Rattle.da_lang.specs.declared.program.Program.{Program}
use Rattle.da_lang.specs.Accepted.{IsAccepted}
use Rattle.da_system.specs.SoundState.{IsSoundState, LeadsOn}
use Rattle.da_system.specs.SystemStep.{AfterEvent, SystemState, start, sys_step}
use Rattle.da_system.proofs.AcceptedStates.{sound_start, sound_steps}

pub sound_opening : (program : Program) → IsAccepted program → IsSoundState program (start program)
sound_opening program accepted = sound_start program accepted

pub sound_then : (program : Program) → IsAccepted program → (s : SystemState) (e : Event) (after : AfterEvent) → IsSoundState program s
    → sys_step program s e ≡ Some after → IsSoundState program after.state
sound_then program accepted s e after sound is = (subst (λ (o : Option AfterEvent). IfSome o (LeadsOn program s e)) is
    (sound_steps program accepted s e sound)).sound
