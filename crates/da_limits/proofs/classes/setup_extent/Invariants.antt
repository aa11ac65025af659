use Rattle.std.proofs.Common.{◌≡◌, drop}
use Rattle.da_limits.specs.ClassMembers.{setup_in}
use Rattle.da_limits.proofs.classes.setup_extent.Given as goal

abbrev pub invariant-loop-member : goal.invariant-loop-member
invariant-loop-member l = setup_in (drop l.member-index l.members) ≡ setup_in l.members
