use Rattle.std.proofs.Common.{◌∙◌, ap, flat_map, refl, sym}
use Rattle.std.proofs.lemmas.List.{take_all}
use Rattle.std.proofs.lemmas.List.Folds.{flat_map-map}
use Rattle.da_bodies.specs.BodyView.{body_view}
use Rattle.da_calls.specs.CallGraph.{class_in}
use Rattle.da_names.specs.ClassRules.{bodies_in, body_refusals}
use Rattle.da_bodies.specs.declared.bodies.Body.{Body}
use Rattle.da_bodies.specs.Telling.{telling}
use Rattle.da_names.proofs.ClassSteps.{told_more}
use Rattle.da_bodies.proofs.TellingLaws.{telling-nil}
use Rattle.da_names.proofs.classes.check_bodies.Goals as goal

pub loop-body-init : goal.loop-body-init
loop-body-init c = record {
  told = sym (telling-nil c.args.least.now);
  same = refl;
}

pub loop-body-preserved : goal.loop-body-preserved
loop-body-preserved c =
    let l = c.loop-body in
    let x = c.body-item.result in
    record {
      told = told_more (λ (b : Body). body_refusals (class_in c.args.graph.now) c.args.names.now (body_view b)) c.args.least.now l.least c.check_one.new.least c.args.bodies.now l.body-index x c.loop-body-test.true c.body-item.is l.invariant.told
          (c.in_ok-check_one.ensures.told ∙ ap (λ s. telling l.least (body_refusals (class_in c.args.graph.now) s (body_view x))) l.invariant.same);
      same = c.in_ok-check_one.ensures.same ∙ l.invariant.same;
    }

pub returns-clause-told : goal.returns-clause-told
unfolding bodies_in
returns-clause-told c =
    let l = c.loop-body in
    let rules = body_refusals (class_in c.args.graph.now) c.args.names.now in
    l.invariant.told
    ∙ ap (λ bs. telling c.args.least.now (flat_map (λ (b : Body). rules (body_view b)) bs)) (take_all l.body-index c.args.bodies.now c.loop-body-test.false)
    ∙ ap (telling c.args.least.now) (sym (flat_map-map rules body_view c.args.bodies.now))

pub returns-clause-same : goal.returns-clause-same
returns-clause-same c = c.loop-body.invariant.same
