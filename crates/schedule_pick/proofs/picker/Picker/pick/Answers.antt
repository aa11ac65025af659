use Rattle.std.proofs.Common.{◌∙◌, ap}
use Rattle.schedule_pick.specs.Picked.{picked, picker_after}
use Rattle.schedule_pick.proofs.picker.Picker.pick.Goals as goal

pub returns-clause-picked : goal.returns-clause-picked
returns-clause-picked c = λ s stands. c.in_ok-found.ensures.picked ∙ ap (picked c.args.self.now) (c.as_slice.ensures ∙ (c.in_ok-events.ensures s stands).are)

pub returns-clause-after : goal.returns-clause-after
returns-clause-after c = λ s stands e is. c.in_ok-found.ensures.after e is ∙ ap (λ events. picker_after c.args.self.now events e) (c.as_slice.ensures ∙ (c.in_ok-events.ensures s stands).are)
