use Rattle.type_choice.proofs.ForceLaws.{set_forces, open_forces}
use Rattle.type_choice.proofs.forcing.equation.Goals as goal

pub returns-in-Set-clause-forces : goal.returns-in-Set-clause-forces
returns-in-Set-clause-forces c =
    λ first second e. set_forces c.args.forms.now c.args.adds.now c.args.proc c.args.set c.args.number c.requires.table c.requires.both c.requires.number c.root-end.result c.in-Set.element first second _ c.root-end.ensures.is c.form_at.ensures c.in-Set.is e

pub returns-else-is_apart-clause-forces : goal.returns-else-is_apart-clause-forces
returns-else-is_apart-clause-forces c =
    let (i, k, there, meets) = c.is_apart.ensures.meets c.if-is_apart.false in
    λ first second e. open_forces c.args.forms.now c.args.adds.now c.args.proc c.args.set c.args.number c.requires.table c.requires.both c.requires.number c.root-end.result i k first second c.root-end.ensures.is there meets e
