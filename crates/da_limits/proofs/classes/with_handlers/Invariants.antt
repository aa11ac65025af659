use Rattle.std.proofs.Common.{◌≡◌, drop}
use Rattle.da_limits.specs.ClassMembers.{with_handlers}
use Rattle.da_limits.specs.Copied.{copied}
use Rattle.da_limits.proofs.classes.with_handlers.Given as goal

abbrev pub invariant-loop-member : goal.invariant-loop-member
invariant-loop-member l = with_handlers (copied l.copies) l.all (drop l.member-index l.members) ≡ with_handlers (copied l.copies) l.fn.entry l.members
