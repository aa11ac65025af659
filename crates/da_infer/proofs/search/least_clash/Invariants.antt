use Rattle.std.proofs.Common.{◌-◌}
use Rattle.da_infer.proofs.SearchLaws.{Halving}
use Rattle.da_infer.proofs.search.least_clash.Given as goal

abbrev pub invariant-lines : goal.invariant-lines
invariant-lines l = Halving l.count l.demands l.low l.high

abbrev pub decreases-lines : goal.decreases-lines
decreases-lines l = l.high - l.low
