use Rattle.std.proofs.Common.{◌≡◌}
use Rattle.std.proofs.lemmas.Result.{IfOk-weaker}
use Rattle.da_system.specs.State.{Whichever, program_of}
use Rattle.schedule_walk.specs.Allowed.{allowed_with}
use Rattle.schedule_pick.specs.Budgets.{ListsPickable}
use Rattle.schedule_pick.proofs.PickLemmas.{lists_pickable}
use Rattle.schedule_pick.proofs.budget.pickable_events.Goals as goal

pub returns : goal.returns
returns c =
    IfOk-weaker c.allowed_with.result (λ events. Whichever c.args.system.now (λ s. events ≡ allowed_with c.may_lose-losses.result c.may_repeat-repetitions.result (program_of c.args.system.now) s))
    (λ events. Whichever c.args.system.now (λ s. ListsPickable (program_of c.args.system.now) s c.args.budget events))
    (λ events are s stands. lists_pickable (program_of c.args.system.now) s stands.runs.sound c.args.budget _ _ c.may_lose-losses.ensures c.may_repeat-repetitions.ensures events (are s stands)) c.allowed_with.ensures
