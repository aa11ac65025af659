use Rattle.std.proofs.Common.{◌∙◌, ap}
use Rattle.std.specs.Prelude.{◌==◌}
use Rattle.std.specs.List.{list_any}
use Rattle.schedule_pick.proofs.picker.Picker.falls_here.Goals as goal

pub returns : goal.returns
returns c = c.has_place.ensures ∙ ap (list_any (λ place. place == c.args.self.now.place)) c.as_slice.ensures
