use Rattle.std.proofs.Common.{◌≡◌, ◌∙◌, ap, map, ◌++◌, List}
use Rattle.da_lang.specs.ClassParts as parts
use Rattle.da_lang.specs.ExprNames.{Local}
use Rattle.da_bodies.specs.Repeats.{declared_in}
use Rattle.da_bodies.specs.declared.repeats.Declared.{Declared}
use Rattle.da_bodies.specs.Told.{entered_each}
use Rattle.da_bodies.specs.Variables.{found_at}
use Rattle.da_bodies.proofs.ListSteps.{on_same}
use Rattle.da_bodies.proofs.VariablesAt.{names-found_at, names_declared}
use Rattle.da_bodies.proofs.variables.enter_found.Goals as goal

pub returns : goal.returns
returns c =
    let line = c.args.line in
    let x = c.args.cond.now in
    let found : declared_in c.put_found.new.out ≡ found_at line x = c.in_ok-put_found.ensures ∙ ap (λ ds. declared_in ds ++ found_at line x) c.new-found.ensures in
    on_same c.enter_all.result c.enter_all.new.names _ _ c.enter_all.ensures
    (ap (λ (ds : List Declared). entered_each Local (map (λ d. d.name.now) ds) c.args.names.now) c.as_slice.ensures
    ∙ ap (λ ns. entered_each Local ns c.args.names.now) (names_declared c.put_found.new.out ∙ ap (map (λ (d : parts.Declared). d.0)) found ∙ names-found_at line x))
