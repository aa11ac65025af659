use Rattle.std.proofs.Common.{sym}
use Rattle.da_lang.specs.Steps.{TimeOut}
use Rattle.da_system.proofs.StepLemmas.{may_as, no_core, not_enabled}
use Rattle.da_system.proofs.network.Network.may_time_out.Goals as goal

pub returns-in-None : goal.returns-in-None
returns-in-None c = λ s stands. not_enabled (no_core c.args.self.now s stands c.args.p TimeOut (sym c.in-None.ensures))

pub returns-in-Some : goal.returns-in-Some
returns-in-Some c = λ s stands. may_as c.args.self.now s stands s.channels c.args.p TimeOut _ (sym c.in-Some.ensures) c.can_timeout.result c.can_timeout.ensures.allowed
