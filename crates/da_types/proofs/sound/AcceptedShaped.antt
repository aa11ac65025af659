-- The worlds of an accepted program stay shaped, and its `setup` and its handlers end.
use Rattle.da_lang.specs.declared.program.Program.{Program}
use Rattle.da_lang.specs.Accepted.{IsAccepted}
use Rattle.da_types.specs.KeepsShaped.{EndsWithoutYield, KeepsShaped}
use Rattle.da_types.proofs.shaped.HandlersEnd.{ends_without_yield}
use Rattle.da_types.proofs.shaped.KeptShaped.{accepted_is_whole, whole_keeps_shaped}
use Rattle.da_types.proofs.sound.AcceptedLaws.{is_sound}

pub keeps_shaped : (q : Program) → IsAccepted q → KeepsShaped q
keeps_shaped q is = whole_keeps_shaped q (accepted_is_whole q is (is_sound q is).constants)

pub ends : (q : Program) → IsAccepted q → EndsWithoutYield q
ends q is = ends_without_yield q is
