use Rattle.std.proofs.Common.{◌∙◌, ap, ◌++◌}
use Rattle.da_bodies.specs.BodyView.{handler_variables_at, sender_variables_at}
use Rattle.da_bodies.specs.Repeats.{declared_in}
use Rattle.da_bodies.specs.Variables.{variables_at}
use Rattle.da_bodies.proofs.bodies.handler_variables.Goals as goal

pub returns : goal.returns
unfolding handler_variables_at
returns c =
    let line = c.args.line in
    c.in_ok-put_sender.ensures
    ∙ ap (λ ds. ds ++ sender_variables_at line c.args.from.now) (c.in_ok-put_variables.ensures ∙ ap (λ ds. declared_in ds ++ variables_at line c.args.message.now) c.new-variables.ensures)
