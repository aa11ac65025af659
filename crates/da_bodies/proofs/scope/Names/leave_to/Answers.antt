use Rattle.std.proofs.Common.{arith, subst, length, length-append, ◌∷◌, [], ap, ◌∙◌, ◌≡◌, ◌+◌}
use Rattle.da_bodies.specs.ScopeView.{IsIndexed}
use Rattle.da_bodies.proofs.ScopeLaws.{indexed_shrunk, last_present, left_on}
use Rattle.da_bodies.proofs.scope.Names.leave_to.Goals as goal

pub reset_role-requires : goal.reset_role-requires
reset_role-requires c = last_present c.loop-self.self-inside.roles c.pop.new.self c.in-Some.entry (subst (IsIndexed c.loop-self.self-inside.roles) c.in-Some.ensures c.loop-self.invariant.indexed)

pub loop-self-preserved-in-Some : goal.loop-self-preserved-in-Some
loop-self-preserved-in-Some c =
    let count : length c.loop-self.self-inside.entries ≡ length c.pop.new.self + 1 = ap length c.in-Some.ensures ∙ length-append c.pop.new.self (c.in-Some.entry ∷ []) in
    record {
      indexed = indexed_shrunk c.loop-self.self-inside.roles c.reset_role.new.roles c.pop.new.self c.in-Some.entry (subst (IsIndexed c.loop-self.self-inside.roles) c.in-Some.ensures c.loop-self.invariant.indexed) c.reset_role.ensures;
      left = left_on c.self.inside.entries c.loop-self.self-inside.entries c.pop.new.self c.in-Some.entry c.in-Some.ensures c.loop-self.invariant.fewer c.loop-self.invariant.left;
      fewer = omega arith;
      not_too_few = omega arith;
    }
