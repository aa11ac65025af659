use Rattle.std.proofs.Common.{◌≡◌, ◌++◌, take, flat_map}
use Rattle.added_names.specs.StmtTags.{member_tags}
use Rattle.added_names.proofs.statements.put_class.Given as goal

abbrev pub invariant-loop-member : goal.invariant-loop-member
invariant-loop-member l = l.out ≡ l.initial.out ++ flat_map member_tags (take l.member-index l.member-items)
