use Rattle.std.proofs.Common.{subst}
use Rattle.da_lang.specs.Accepted.{IsAccepted}
use Rattle.da_types.proofs.sound.AcceptedLaws.{is_sound, is_total, is_typed}
use Rattle.da_types.proofs.sound.AcceptedShaped.{ends, keeps_shaped}
use Rattle.da_types.proofs.top.Typed.program.Goals as goal

pub returns-clause-typed : goal.returns-clause-typed
returns-clause-typed c = is_typed _ (subst IsAccepted c.self.view_is c.self.invariant)

pub returns-clause-total : goal.returns-clause-total
returns-clause-total c = is_total _ (subst IsAccepted c.self.view_is c.self.invariant)

pub returns-clause-sound : goal.returns-clause-sound
returns-clause-sound c = is_sound _ (subst IsAccepted c.self.view_is c.self.invariant)

pub returns-clause-shaped : goal.returns-clause-shaped
returns-clause-shaped c = keeps_shaped _ (subst IsAccepted c.self.view_is c.self.invariant)

pub returns-clause-ends : goal.returns-clause-ends
returns-clause-ends c = ends _ (subst IsAccepted c.self.view_is c.self.invariant)
