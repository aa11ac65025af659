use Rattle.std.proofs.Common.{sym}
use Rattle.da_lang.specs.Steps.{move_step}
use Rattle.da_system.proofs.StepLemmas.{may_as, no_core, not_enabled}
use Rattle.da_system.proofs.network.Network.may_move.Goals as goal

pub returns-in-None : goal.returns-in-None
returns-in-None c = λ s stands. not_enabled (no_core c.args.self.now s stands c.args.p (move_step c.args.k) (sym c.in-None.ensures))

pub returns-in-Some : goal.returns-in-Some
returns-in-Some c = λ s stands. may_as c.args.self.now s stands s.channels c.args.p (move_step c.args.k) _ (sym c.in-Some.ensures) c.can_move.result c.can_move.ensures.allowed
