use Rattle.da_bodies.specs.BodyView.{told_body}
use Rattle.da_names.specs.ClassRules.{body_refusals}
use Rattle.da_names.proofs.ClassSteps.{five_steps}
use Rattle.da_bodies.proofs.ListSteps.{on_same}
use Rattle.da_names.proofs.classes.check_one.Goals as goal

pub returns-clause-told : goal.returns-clause-told
unfolding body_refusals told_body
returns-clause-told c =
    on_same c.tell_early_in.result c.tell_early_in.new.least _ _ c.tell_early_in.ensures
    (five_steps c.args.least.now c.check_body.new.least c.tell_named.new.least c.tell_params.new.least c.tell_yields_in.new.least _ _ _ _ _
    c.in_ok-check_body.ensures.told c.in_ok-tell_named.ensures c.in_ok-tell_params.ensures c.in_ok-tell_yields_in.ensures)
