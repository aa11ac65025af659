use Rattle.std.proofs.Common.{refl}
use Rattle.da_scope.proofs.MethodLaws.{places_step}
use Rattle.da_scope.proofs.methods.places_of.Goals as goal

pub loop-member-preserved : goal.loop-member-preserved
loop-member-preserved c = λ q. places_step c.args.members.now c.loop-member.rest.now c.in-Some.earlier.now c.in-Some.member.now _ q _ _ c.in-Some.ensures.cases.0 refl (c.loop-member.invariant q) (c.in_ok-set_member.ensures q)
