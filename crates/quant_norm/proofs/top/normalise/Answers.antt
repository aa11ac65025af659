use Rattle.std.proofs.Common.{◌≡◌, ◌∙◌, ◌<◌, ap, get_or, length, subst, sym}
use Rattle.std.proofs.lemmas.Result.{IfOk-weaker}
use Rattle.da_lang.specs.Live.{live}
use Rattle.da_values.specs.Sets.{IsAlike}
use Rattle.query_plan.specs.PlanLive.{plan_live}
use Rattle.query_plan.specs.Questions.{norm_class}
use Rattle.query_plan.specs.Told.{IsPlanOf}
use Rattle.quant_norm.specs.SetSlots.{SparesSets}
use Rattle.quant_norm.proofs.FilterLaw.{filters_each}
use Rattle.quant_norm.proofs.LiveLaw.{typed_live}
use Rattle.quant_norm.proofs.SetSlotLaw.{typed_spares}
use Rattle.quant_norm.proofs.TopSteps.{plan_answered, fault_answered, law_answered}
use Rattle.quant_norm.proofs.top.normalise.Goals as goal

pub returns-clause-made : goal.returns-clause-made
returns-clause-made c =
    let its = c.index-as_slice-class.result in
    let inside = subst (λ p. c.args.class < length p.classes) (sym c.program-program.ensures.same) c.requires.exists in
    let is = c.index-as_slice-class.is ∙ ap (λ classes. get_or classes c.args.class its) c.as_slice.ensures in
    plan_answered c.args.t.now c.program-program.result.now c.args.class its c.program-program.ensures.same inside is (λ z plan. plan ≡ norm_class z) c.normal_form.result c.normal_form.ensures.made

pub returns-clause-told : goal.returns-clause-told
returns-clause-told c =
    let its = c.index-as_slice-class.result in
    let inside = subst (λ p. c.args.class < length p.classes) (sym c.program-program.ensures.same) c.requires.exists in
    let is = c.index-as_slice-class.is ∙ ap (λ classes. get_or classes c.args.class its) c.as_slice.ensures in
    plan_answered c.args.t.now c.program-program.result.now c.args.class its c.program-program.ensures.same inside is IsPlanOf c.normal_form.result c.normal_form.ensures.told

pub returns-clause-many : goal.returns-clause-many
returns-clause-many c =
    let its = c.index-as_slice-class.result in
    let inside = subst (λ p. c.args.class < length p.classes) (sym c.program-program.ensures.same) c.requires.exists in
    let is = c.index-as_slice-class.is ∙ ap (λ classes. get_or classes c.args.class its) c.as_slice.ensures in
    fault_answered c.args.t.now c.program-program.result.now c.args.class its c.program-program.ensures.same inside is c.normal_form.result c.normal_form.ensures.many

pub returns-clause-filters : goal.returns-clause-filters
returns-clause-filters c = IfOk-weaker c.normal_form.result _ _ (λ plan made. filters_each plan.nodes) c.normal_form.ensures.made

pub returns-clause-sets : goal.returns-clause-sets
returns-clause-sets c =
    let p = c.args.t.now in
    let its = c.index-as_slice-class.result in
    let inside = subst (λ p. c.args.class < length p.classes) (sym c.program-program.ensures.same) c.requires.exists in
    let is = c.index-as_slice-class.is ∙ ap (λ classes. get_or classes c.args.class its) c.as_slice.ensures in
    law_answered p c.program-program.result.now c.args.class its c.program-program.ensures.same inside is (λ class plan. SparesSets p class plan.nodes)
    (λ class there. typed_spares p class c.program-program.ensures.typed there) c.normal_form.result c.normal_form.ensures.made

pub returns-clause-live : goal.returns-clause-live
returns-clause-live c =
    let p = c.args.t.now in
    let its = c.index-as_slice-class.result in
    let inside = subst (λ p. c.args.class < length p.classes) (sym c.program-program.ensures.same) c.requires.exists in
    let is = c.index-as_slice-class.is ∙ ap (λ classes. get_or classes c.args.class its) c.as_slice.ensures in
    law_answered p c.program-program.result.now c.args.class its c.program-program.ensures.same inside is (λ class plan. IsAlike (plan_live plan.nodes) (live class))
    (λ class there. typed_live p class c.program-program.ensures.typed there) c.normal_form.result c.normal_form.ensures.made
