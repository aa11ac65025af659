use Rattle.std.proofs.Common.{◌∙◌, [], ap, flat_map, refl, sym}
use Rattle.std.proofs.lemmas.List.{take_all}
use Rattle.std.proofs.lemmas.List.Folds.{flat_map-map}
use Rattle.da_lang.specs.ClassParts as parts
use Rattle.da_lang.specs.Deeds.{deeds}
use Rattle.da_bodies.specs.BodyView.{body_view}
use Rattle.da_names.specs.ClassRules.{bodies_in}
use Rattle.da_bodies.specs.declared.bodies.Body.{Body}
use Rattle.da_names.specs.DeedView.{deeds_in}
use Rattle.da_names.proofs.DeedRules.{deeds_in-nil}
use Rattle.da_bodies.proofs.ListSteps.{flat_more}
use Rattle.da_names.proofs.classes.deeds_of_bodies.Goals as goal

pub loop-body-init : goal.loop-body-init
loop-body-init c = ap deeds_in c.new-list.ensures ∙ deeds_in-nil

pub loop-body-preserved : goal.loop-body-preserved
loop-body-preserved c =
    let l = c.loop-body in
    flat_more (λ (b : Body). deeds b.stmts.now) [] (deeds_in l.list) (deeds_in c.put_body.new.out) c.args.bodies.now l.body-index c.body-item.result (deeds c.body-item.result.stmts.now) c.loop-body-test.true c.body-item.is l.invariant c.in_ok-put_body.ensures refl

pub returns : goal.returns
unfolding bodies_in
returns c =
    let l = c.loop-body in
    l.invariant ∙ ap (flat_map (λ (b : Body). deeds b.stmts.now)) (take_all l.body-index c.args.bodies.now c.loop-body-test.false) ∙ sym (flat_map-map (λ (b : parts.Body). deeds b.stmts) body_view c.args.bodies.now)
