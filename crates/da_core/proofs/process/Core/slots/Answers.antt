use Rattle.std.proofs.Common.{◌≡◌}
use Rattle.std.proofs.lemmas.Result.{IfOk-weaker}
use Rattle.da_core.specs.Known.{Each}
use Rattle.da_core.specs.StandsFor.{Whichever, program_of}
use Rattle.da_core.proofs.process.Core.slots.Goals as goal

pub returns : goal.returns
returns c =
    IfOk-weaker c.slot_values.result (λ values. Each c.args.self.now.known (λ p class d. values ≡ d.slots)) (λ values. Whichever c.args.self.now (λ w. values ≡ w.data'.slots))
    (λ values each w s. each (program_of c.args.self.now) s.class w.data' s.stands) c.slot_values.ensures
