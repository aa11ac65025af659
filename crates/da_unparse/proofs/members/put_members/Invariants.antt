use Rattle.std.proofs.Common.{◌≡◌, ◌++◌, take, flat_map}
use Rattle.da_unparse.specs.ProgramTexts.{member_text}
use Rattle.da_unparse.proofs.members.put_members.Given as goal

abbrev pub invariant-loop-member : goal.invariant-loop-member
invariant-loop-member l = l.out ≡ l.fn.out ++ flat_map member_text (take l.member-index l.members)
