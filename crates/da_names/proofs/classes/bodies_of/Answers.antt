use Rattle.std.proofs.Common.{◌∙◌, ap, map}
use Rattle.da_lang.specs.ClassParts.{body_in}
use Rattle.da_bodies.specs.BodyView.{body_view}
use Rattle.da_names.specs.ClassRules.{bodies_in}
use Rattle.da_names.proofs.ClassSteps.{kept_none, kept_some}
use Rattle.da_names.proofs.classes.bodies_of.Goals as goal
use Rattle.da_names.proofs.classes.bodies_of.Goals.{in-Some+in_ok-push, in_default}

pub loop-member-init : goal.loop-member-init
unfolding bodies_in
loop-member-init c = ap (map body_view) c.new-list.ensures

pub loop-member-preserved : goal.loop-member-preserved
unfolding bodies_in
loop-member-preserved c =
    let l = c.loop-member in
    elim c.match-body_of.branch [
      | in-Some+in_ok-push w ↦ kept_some body_view body_in l.list _ _ l.member-index c.member-item.result w.in-Some.body c.loop-member-test.true c.member-item.is l.invariant w.in-Some.ensures (w.list-is ∙ w.in_ok-push.ensures.ok)
      | in_default w ↦ kept_none body_view body_in l.list _ _ l.member-index c.member-item.result c.loop-member-test.true c.member-item.is l.invariant w.in_default.ensures w.list-is
    ]
