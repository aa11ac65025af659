use Rattle.std.proofs.Common.{◌∙◌, ap, map}
use Rattle.da_lang.specs.ClassParts.{Declared, variables}
use Rattle.da_lang.specs.ExprNames.{ClassVariable}
use Rattle.da_bodies.specs.Repeats.{declared_in}
use Rattle.da_bodies.specs.Told.{entered_each}
use Rattle.da_names.proofs.ClassSteps.{names_at}
use Rattle.da_bodies.proofs.ListSteps.{on_same}
use Rattle.da_bodies.proofs.VariablesAt.{names_declared}
use Rattle.da_names.proofs.classes.enter_variables.Goals as goal

pub returns-clause-entered : goal.returns-clause-entered
returns-clause-entered c =
    on_same c.enter_all.result c.enter_all.new.names _ _ c.enter_all.ensures
    (ap (λ ns. entered_each ClassVariable ns c.args.names.now)
    (names_declared c.as_slice-2.result.now
    ∙ ap (map (λ (d : Declared). d.0)) (ap declared_in c.as_slice-2.ensures ∙ c.in_ok-variables.ensures)
    ∙ names_at (variables c.args.class.now)))
