use Rattle.std.proofs.Common.{◌∙◌, ap, ◌∷◌, List, ℕ}
use Rattle.da_lang.specs.declared.tree.Param.{Param}
use Rattle.da_lang.specs.ExprNames.{Local}
use Rattle.da_bodies.proofs.ListSteps.{entered_more}
use Rattle.da_bodies.proofs.bodies.enter_params.Goals as goal

pub loop-param-preserved : goal.loop-param-preserved
loop-param-preserved c =
    let l = c.loop-param in
    let name : Param → List ℕ = λ p. p.name in
    entered_more Local name c.args.names.now l.names c.enter.new.self c.args.params.now l.param-index c.param-item.result c.loop-param-test.true l.invariant
    (c.in_ok-enter.ensures ∙ ap (λ n. (n, Local) ∷ l.names) (c.as_slice.ensures ∙ ap name c.param-item.is))
