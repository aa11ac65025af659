use Rattle.std.proofs.Common.{◌≡◌, ◌∙◌, ap, sym}
use Rattle.std.specs.Prelude.{◌||◌}
use Rattle.da_lang.specs.declared.tree.ClassTree.{ClassTree}
use Rattle.da_limits.specs.LimitWalk.{member_many}
use Rattle.da_limits.proofs.ClassLimits.{known_at, members_step, members_end, many_step, many_end}
use Rattle.da_limits.proofs.walk.tell_members.Goals as goal
use Rattle.da_limits.proofs.walk.tell_members.Goals.{then-many, else-many}

pub tell_member-requires-clause-known : goal.tell_member-requires-clause-known
tell_member-requires-clause-known c =
    known_at c.args.graph.now.class.now c.as_slice-members.result.now _ c.member-item.result (c.as_slice-members.ensures ∙ ap (λ (k : ClassTree). k.members) c.class.ensures) c.loop-member-test.true c.member-item.is

pub loop-member-preserved : goal.loop-member-preserved
loop-member-preserved c =
    let either : c.if-many.many ≡ (c.loop-member.many || c.in_ok-here.here) =
    elim c.if-many.branch [
      | then-many w ↦ w.many-is ∙ w.if-many.true ∙ ap (λ b. b || c.in_ok-here.here) (sym w.if-many.true)
      | else-many w ↦ w.many-is ∙ ap (λ b. b || c.in_ok-here.here) (sym w.if-many.false)
    ] in
    record {
      told = members_step c.args.graph.now.class.now _ _ c.member-item.result _ _ _ c.loop-member-test.true c.member-item.is c.loop-member.invariant.told c.in_ok-here.ensures.told;
      many = many_step (member_many c.args.graph.now.class.now) _ _ c.member-item.result c.loop-member.many c.in_ok-here.here _ _ c.loop-member-test.true c.member-item.is c.loop-member.invariant.many c.in_ok-here.ensures.many either;
    }

pub returns-clause-told : goal.returns-clause-told
returns-clause-told c = members_end _ _ _ _ _ c.loop-member-test.false c.loop-member.invariant.told

pub returns-clause-many : goal.returns-clause-many
returns-clause-many c = many_end _ _ _ _ _ c.loop-member-test.false c.loop-member.invariant.many
