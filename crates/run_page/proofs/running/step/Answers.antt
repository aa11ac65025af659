use Rattle.std.proofs.Common.{◌++◌, ◌∙◌, ap, rules}
use Rattle.run_page.proofs.running.step.Goals as goal

pub returns-in-Ok-clause-stepped : goal.returns-in-Ok-clause-stepped
returns-in-Ok-clause-stepped c = λ s stands.
    let did = c.in-Ok.ensures.steps s stands in
    record { after = did.after; is = did.is; stands = did.stands; told = did.added ∙ ap (λ before. before ++ did.after.actions) c.new-actions.ensures }

pub returns-in-Err-Forbidden-clause-stepped : goal.returns-in-Err-Forbidden-clause-stepped
returns-in-Err-Forbidden-clause-stepped c = λ s stands. (c.in-Err-Forbidden.ensures.forbidden (search rules) s stands, ((c.in-Err-Forbidden.ensures.same (search rules)).0 s).0 stands)
