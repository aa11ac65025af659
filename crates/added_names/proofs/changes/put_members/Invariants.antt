use Rattle.std.proofs.Common.{◌≡◌, ◌++◌, take, flat_map}
use Rattle.added_names.specs.Changes.{member_changes}
use Rattle.added_names.proofs.changes.put_members.Given as goal

abbrev pub invariant-loop-member : goal.invariant-loop-member
invariant-loop-member l = l.out ≡ l.initial.out ++ flat_map member_changes (take l.member-index l.members)
