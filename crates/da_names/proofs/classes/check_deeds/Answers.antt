use Rattle.std.proofs.Common.{◌≡◌, ◌∙◌, ap}
use Rattle.da_calls.specs.CallGraph.{class_in}
use Rattle.da_names.specs.ClassRules.{bodies_in, deed_refusals, deeds_by}
use Rattle.da_names.specs.DeedView.{deeds_in}
use Rattle.da_bodies.specs.Telling.{telling}
use Rattle.da_names.proofs.ClassSteps.{three_steps}
use Rattle.da_bodies.proofs.ListSteps.{on_same}
use Rattle.da_names.proofs.classes.check_deeds.Goals as goal

pub returns : goal.returns
unfolding deed_refusals
returns c =
    let first = c.args.least.now in
    let bs = bodies_in c.args.bodies.now in
    let ds = deeds_in c.as_slice-deeds.result.now in
    let here : ds ≡ deeds_by bs = ap deeds_in c.as_slice-deeds.ensures ∙ c.in_ok-list.ensures in
    on_same c.tell_labels.result c.tell_labels.new.least _ _ c.tell_labels.ensures
    (three_steps first c.tell_unknown.new.least c.tell_misfits.new.least _ _ _ c.tell_unknown.ensures c.tell_misfits.ensures
    ∙ ap (λ es. telling first (deed_refusals (class_in c.args.graph.now) es bs)) here)
