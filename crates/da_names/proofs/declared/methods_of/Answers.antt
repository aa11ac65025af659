use Rattle.std.proofs.Common.{◌∙◌, ap, filter_map}
use Rattle.std.proofs.lemmas.List.{take_all}
use Rattle.da_lang.specs.NameRules.{named_body}
use Rattle.da_bodies.specs.BodyView.{body_view}
use Rattle.da_names.specs.ClassRules.{bodies_in}
use Rattle.da_bodies.specs.declared.bodies.Body.{Body}
use Rattle.da_bodies.specs.Repeats.{declared_of}
use Rattle.da_names.proofs.ClassSteps.{kept_none, kept_some, filter_map-map}
use Rattle.da_names.proofs.declared.methods_of.Goals as goal
use Rattle.da_names.proofs.declared.methods_of.Goals.{in-Some+in_ok-push, in_default}

pub loop-body-preserved : goal.loop-body-preserved
loop-body-preserved c =
    let l = c.loop-body in
    elim c.match-method_in.branch [
      | in-Some+in_ok-push w ↦ kept_some declared_of (λ (b : Body). named_body (body_view b)) l.list _ _ l.body-index c.body-item.result w.in-Some.method c.loop-body-test.true c.body-item.is l.invariant w.in-Some.ensures (w.list-is ∙ w.in_ok-push.ensures.ok)
      | in_default w ↦ kept_none declared_of (λ (b : Body). named_body (body_view b)) l.list _ _ l.body-index c.body-item.result c.loop-body-test.true c.body-item.is l.invariant w.in_default.ensures w.list-is
    ]

pub returns : goal.returns
unfolding bodies_in
returns c =
    let l = c.loop-body in
    l.invariant ∙ ap (filter_map (λ (b : Body). named_body (body_view b))) (take_all l.body-index c.args.bodies.now c.loop-body-test.false) ∙ filter_map-map named_body body_view c.args.bodies.now
