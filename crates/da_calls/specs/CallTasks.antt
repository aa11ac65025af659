-- The tasks of a walk through a graph.
use Rattle.std.specs.Prelude.{ℕ, zero, suc, List, [], ◌∷◌}
use Rattle.da_calls.specs.declared.order.Visit.{Visit}
use Rattle.da_calls.specs.declared.order.Visit.TheVariants.{Enter}

-- to enter each node below a number, the last one first
abbrev pub entering : ℕ → List Visit
entering zero = []
entering (suc n) = Enter n ∷ entering n
