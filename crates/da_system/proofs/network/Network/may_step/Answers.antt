use Rattle.std.proofs.Common.{sym}
use Rattle.da_system.specs.Network.{program_of}
use Rattle.da_system.proofs.PostLemmas.{enabled_by}
use Rattle.da_system.proofs.StepLemmas.{keeps_as, shows_as}
use Rattle.da_system.proofs.network.Network.may_step.Goals as goal

pub returns-in-Show : goal.returns-in-Show
returns-in-Show c = enabled_by (program_of c.args.self.now) c.args.self.now _ _ c.in-Show.is _ (λ s stands. shows_as c.args.self.now s stands c.in-Show.p c.has_process.result (sym c.has_process.ensures))

pub returns-in-Stat : goal.returns-in-Stat
returns-in-Stat c = enabled_by (program_of c.args.self.now) c.args.self.now _ _ c.in-Stat.is _ (λ s stands. keeps_as c.args.self.now s stands c.in-Stat.p c.has_process-in-Stat.result (sym c.has_process-in-Stat.ensures))
