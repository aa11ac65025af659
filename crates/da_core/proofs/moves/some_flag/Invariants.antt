use Rattle.std.proofs.Common.{◌≡◌, drop}
use Rattle.da_core.specs.Begins.{some_told}
use Rattle.da_core.specs.Known.{Each}
use Rattle.da_core.proofs.moves.some_flag.Given as goal

abbrev pub invariant-loop-alternative : goal.invariant-loop-alternative
invariant-loop-alternative l = Each l.known (λ p class d. some_told class d (drop l.alternative-index l.alternatives) ≡ some_told class d l.alternatives)
