use Rattle.std.proofs.Common.{◌≡◌, take}
use Rattle.da_limits.specs.Bound.{bound_in_all}
use Rattle.da_limits.proofs.bound.+bound.Given as goal

abbrev pub invariant-bound_in_all-loop-pattern : goal.invariant-bound_in_all-loop-pattern
invariant-bound_in_all-loop-pattern l = l.all ≡ bound_in_all (take l.pattern-index l.patterns)
