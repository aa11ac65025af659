use Rattle.std.proofs.Common.{◌≡◌, length, arith}
use Rattle.da_parse.specs.Loose.{given_member, open_members}
use Rattle.da_parse.proofs.GivenTypes.{given_none, given_on, all_given, given_size, put_size, in_member, members_noted}
use Rattle.da_parse.proofs.loose.give_members.Goals as goal

pub loop-at-init : goal.loop-at-init
loop-at-init c = given_none given_member (open_members c.args.class) c.args.members.now c.args.untyped.now

pub replace-member-requires : goal.replace-member-requires
replace-member-requires c = let size : length c.loop-at.members ≡ length c.args.members.now = given_size _ _ _ _ _ _ _ c.loop-at.invariant in omega arith

pub set-requires : goal.set-requires
set-requires c =
    let size : length c.loop-at.members ≡ length c.args.members.now = given_size _ _ _ _ _ _ _ c.loop-at.invariant in
    let same : length c.replace-member.new.self ≡ length c.loop-at.members = put_size _ _ _ _ c.replace-member.ensures.put in omega arith

pub loop-at-preserved : goal.loop-at-preserved
loop-at-preserved c =
    given_on given_member (open_members c.args.class) (in_member c.args.class) (members_noted c.args.class) _ _ _ _ _ c.loop-at.invariant _ _ _ _ _ _ c.replace-member.ensures.value c.replace-member.ensures.put c.in_ok-given.ensures.member c.set.ensures c.in_ok-given.ensures.noted

pub returns-clause-members : goal.returns-clause-members
returns-clause-members c =
    let end : c.loop-at.at ≡ length c.args.members.now = omega arith in
    (all_given given_member (open_members c.args.class) (in_member c.args.class) (members_noted c.args.class) _ _ _ _ _ c.loop-at.invariant end).0

pub returns-clause-noted : goal.returns-clause-noted
returns-clause-noted c =
    let end : c.loop-at.at ≡ length c.args.members.now = omega arith in
    (all_given given_member (open_members c.args.class) (in_member c.args.class) (members_noted c.args.class) _ _ _ _ _ c.loop-at.invariant end).1
