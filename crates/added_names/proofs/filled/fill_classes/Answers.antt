use Rattle.std.proofs.Common.{refl, []}
use Rattle.added_names.specs.Filled.{class_filled, class_left, left_of}
use Rattle.added_names.proofs.FillLaws.{filling_begins, filling_more, filling_ends}
use Rattle.added_names.proofs.filled.fill_classes.Goals as goal

pub loop-at-init : goal.loop-at-init
loop-at-init c = filling_begins class_filled class_left c.args.classes.now (left_of c.args.rest.now) [] _ _ c.new-filled.ensures refl

pub loop-at-preserved : goal.loop-at-preserved
loop-at-preserved c =
    let l = c.loop-at in
    filling_more class_filled class_left c.args.classes.now (left_of c.args.rest.now) [] l.at c.index-classes-at.result _ _ _ _ _ c.loop-at-test.true c.index-classes-at.is l.invariant c.in_ok-push.ensures.ok c.in_ok-fill_class.ensures.filled c.in_ok-fill_class.ensures.left

pub returns : goal.returns
returns c =
    let l = c.loop-at in
    filling_ends class_filled class_left c.args.classes.now (left_of c.args.rest.now) [] l.at _ _ c.loop-at-test.false l.invariant
