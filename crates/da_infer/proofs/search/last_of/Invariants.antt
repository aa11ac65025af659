use Rattle.std.proofs.Common.{◌≡◌, drop}
use Rattle.da_infer.specs.Search.{last_of}
use Rattle.da_infer.proofs.search.last_of.Given as goal

abbrev pub invariant-loop-one : goal.invariant-loop-one
invariant-loop-one l = last_of l.last (drop l.one-index l.demands) ≡ last_of l.before l.demands
