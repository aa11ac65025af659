use Rattle.std.proofs.Common.{length}
use Rattle.std.proofs.lemmas.Bool.{lt-ltb}
use Rattle.std.proofs.lemmas.Result.{err_from_is_err_and}
use Rattle.query_plan.specs.Questions.{norm_class}
use Rattle.da_core.specs.PlanLimit.{most_nodes}
use Rattle.da_core.proofs.compiled.class_code.Goals as goal

pub returns-in_err-plan-clause-many : goal.returns-in_err-plan-clause-many
returns-in_err-plan-clause-many c =
    let p = err_from_is_err_and c.from_residual.result c.from_residual.ensures.1 in
    rw (p.1, p.2) (λ line is class there.
    let told = c.in_err-plan.ensures.many line is class there in
    (told.0, lt-ltb most_nodes (length (norm_class class).nodes) told.1))
