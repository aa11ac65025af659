use Rattle.std.proofs.Common.{refl, []}
use Rattle.added_names.specs.Filled.{param_filled, param_left, left_of}
use Rattle.added_names.proofs.FillLaws.{filling_begins, filling_more, filling_ends, filling_leaves}
use Rattle.added_names.proofs.filled.fill_params.Goals as goal

pub loop-at-init : goal.loop-at-init
loop-at-init c = filling_begins (param_filled c.args.class c.args.member) (param_left c.args.class c.args.member) c.args.params.now (left_of c.args.rest.now) [] _ _ c.new-filled.ensures refl

pub loop-at-preserved : goal.loop-at-preserved
loop-at-preserved c =
    let l = c.loop-at in
    filling_more (param_filled c.args.class c.args.member) (param_left c.args.class c.args.member) c.args.params.now (left_of c.args.rest.now) [] l.at c.index-params-at.result _ _ _ _ _ c.loop-at-test.true c.index-params-at.is l.invariant c.in_ok-push.ensures.ok c.in_ok-fill_param.ensures.filled c.in_ok-fill_param.ensures.left

pub returns-clause-filled : goal.returns-clause-filled
returns-clause-filled c =
    let l = c.loop-at in
    filling_ends (param_filled c.args.class c.args.member) (param_left c.args.class c.args.member) c.args.params.now (left_of c.args.rest.now) [] l.at _ _ c.loop-at-test.false l.invariant

pub returns-clause-left : goal.returns-clause-left
returns-clause-left c =
    let l = c.loop-at in
    filling_leaves (param_filled c.args.class c.args.member) (param_left c.args.class c.args.member) c.args.params.now (left_of c.args.rest.now) [] l.at _ _ c.loop-at-test.false l.invariant
