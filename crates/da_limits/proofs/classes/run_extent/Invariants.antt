use Rattle.std.proofs.Common.{◌≡◌, drop}
use Rattle.da_limits.specs.ClassMembers.{run_in}
use Rattle.da_limits.proofs.classes.run_extent.Given as goal

abbrev pub invariant-loop-member : goal.invariant-loop-member
invariant-loop-member l = run_in (drop l.member-index l.members) ≡ run_in l.members
