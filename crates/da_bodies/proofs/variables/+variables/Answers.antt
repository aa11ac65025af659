use Rattle.std.proofs.Common.{◌∙◌, sym, ap, ℕ, List, ◌∷◌, []}
use Rattle.da_lang.specs.ClassParts.{Declared}
use Rattle.da_bodies.specs.Repeats.{declared_of}
use Rattle.da_bodies.specs.Variables.{variables_at}
use Rattle.da_bodies.proofs.ListSteps.{appended}
use Rattle.da_bodies.proofs.VariablesAt.{variables-Name}
use Rattle.da_bodies.proofs.variables.+variables.Goals as goal

pub put_variables-returns-in-Name : goal.put_variables-returns-in-Name
put_variables-returns-in-Name t c =
    let one : List ℕ → List Declared = λ name. (name, c.args.line) ∷ [] in
    appended declared_of c.push.result c.args.out.now c.push.new.self _ (variables_at c.args.line c.args.pattern.now) c.push.ensures.ok
    (ap one c.as_slice.ensures ∙ sym (ap (variables_at c.args.line) c.in-Name.is ∙ variables-Name c.args.line c.in-Name.name))
