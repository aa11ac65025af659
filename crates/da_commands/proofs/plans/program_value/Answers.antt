use Rattle.std.proofs.Common.{ap, ◌∙◌, arith}
use Rattle.serde_json.proofs.Views.{view-Array}
use Rattle.da_core.specs.Compiled.{program_of}
use Rattle.da_commands.proofs.PlanLemmas.{class_shown, classes_more, classes_all}
use Rattle.da_commands.proofs.plans.program_value.Goals as goal

pub loop-place-preserved : goal.loop-place-preserved
loop-place-preserved c =
    let all = c.as_slice-classes.ensures ∙ ap (λ p. p.classes) c.program.ensures in
    let shown = class_shown (program_of c.args.compiled.now) _ _ c.index-classes-place.result _ _ _ all c.index-classes-place.is c.loop-place-test.true c.plan.ensures c.as_slice.ensures c.in_ok-value.ensures in
    classes_more _ _ c.index-classes-place.result _ _ _ c.index-classes-place.is c.loop-place-test.true shown c.loop-place.invariant c.in_ok-put_value.ensures

pub returns : goal.returns
returns c =
    let all = c.as_slice-classes.ensures ∙ ap (λ p. p.classes) c.program.ensures in
    view-Array c.loop-place.values
    ∙ classes_all (program_of c.args.compiled.now) _ _ _ all (omega (arith, c.loop-place-test.false)) c.loop-place.invariant
