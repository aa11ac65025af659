use Rattle.std.proofs.Common.{◌≡◌}
use Rattle.std.proofs.lemmas.Result.{IfOk-weaker}
use Rattle.da_system.specs.State.{Whichever, program_of}
use Rattle.schedule_walk.specs.Allowed.{ListsAllowed, allowed}
use Rattle.schedule_walk.proofs.AllowedLaws.{lists_allowed}
use Rattle.schedule_walk.proofs.allowed.allowed_events.Goals as goal

pub returns : goal.returns
returns c =
    IfOk-weaker c.collect.result (λ events. Whichever c.args.system.now (λ s. events ≡ allowed (program_of c.args.system.now) s))
    (λ events. Whichever c.args.system.now (λ s. ListsAllowed (program_of c.args.system.now) s events))
    (λ events are s stands. lists_allowed (program_of c.args.system.now) s stands.runs.sound events (are s stands)) c.collect.ensures
