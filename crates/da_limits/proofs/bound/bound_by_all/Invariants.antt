use Rattle.std.proofs.Common.{◌≡◌, take}
use Rattle.da_limits.specs.Bound.{bound_by_all}
use Rattle.da_limits.proofs.bound.bound_by_all.Given as goal

abbrev pub invariant-loop-g : goal.invariant-loop-g
invariant-loop-g l = l.all ≡ bound_by_all (take l.g-index l.gens)
