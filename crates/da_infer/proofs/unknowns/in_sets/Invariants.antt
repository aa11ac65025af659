use Rattle.std.proofs.Common.{◌≡◌}
use Rattle.da_infer.specs.Unknowns.{sets}
use Rattle.da_infer.proofs.unknowns.in_sets.Given as goal

abbrev pub invariant-loop-turn : goal.invariant-loop-turn
invariant-loop-turn l = l.ty ≡ sets l._turn l.fn.inner
