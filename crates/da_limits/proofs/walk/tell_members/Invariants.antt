use Rattle.std.proofs.Common.{◌≡◌, drop}
use Rattle.std.specs.List.{list_any}
use Rattle.std.specs.Prelude.{◌||◌}
use Rattle.da_limits.specs.LimitWalk.{member_many, members_told}
use Rattle.da_limits.proofs.walk.tell_members.Given as goal

abbrev pub invariant-loop-member : goal.invariant-loop-member
invariant-loop-member l = record {
  told : members_told l.graph.class.now (drop l.member-index l.members) l.least ≡ members_told l.graph.class.now l.graph.class.now.members l.initial.least;
  many : (l.many || list_any (member_many l.graph.class.now) (drop l.member-index l.members)) ≡ list_any (member_many l.graph.class.now) l.graph.class.now.members;
}
