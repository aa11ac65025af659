use Rattle.std.proofs.Common.{refl}
use Rattle.added_names.specs.Filled.{member_filled, member_left, left_of}
use Rattle.added_names.proofs.FillLaws.{filling_begins, filling_more, filling_ends, filling_leaves}
use Rattle.added_names.proofs.filled.fill_members.Goals as goal

pub loop-at-init : goal.loop-at-init
loop-at-init c = filling_begins (member_filled c.args.class) (member_left c.args.class) c.args.members.now (left_of c.args.rest.now) c.args.out.now _ _ refl refl

pub loop-at-preserved : goal.loop-at-preserved
loop-at-preserved c =
    let l = c.loop-at in
    filling_more (member_filled c.args.class) (member_left c.args.class) c.args.members.now (left_of c.args.rest.now) c.args.out.now l.at c.index-members-at.result _ _ _ _ _ c.loop-at-test.true c.index-members-at.is l.invariant c.in_ok-push.ensures.ok c.in_ok-fill_member.ensures.filled c.in_ok-fill_member.ensures.left

pub returns-clause-filled : goal.returns-clause-filled
returns-clause-filled c =
    let l = c.loop-at in
    filling_ends (member_filled c.args.class) (member_left c.args.class) c.args.members.now (left_of c.args.rest.now) c.args.out.now l.at _ _ c.loop-at-test.false l.invariant

pub returns-clause-left : goal.returns-clause-left
returns-clause-left c =
    let l = c.loop-at in
    filling_leaves (member_filled c.args.class) (member_left c.args.class) c.args.members.now (left_of c.args.rest.now) c.args.out.now l.at _ _ c.loop-at-test.false l.invariant
