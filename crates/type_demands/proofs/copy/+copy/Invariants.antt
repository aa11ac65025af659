use Rattle.std.proofs.Common.{◌≡◌, take}
use Rattle.type_demands.proofs.copy.+copy.Given as goal

abbrev pub invariant-copy_schemes-loop-scheme : goal.invariant-copy_schemes-loop-scheme
invariant-copy_schemes-loop-scheme l = l.copy ≡ take l.scheme-index l.schemes
