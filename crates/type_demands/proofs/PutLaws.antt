-- Demands that are put one after the other.
use Rattle.std.specs.Prelude.{◌≡◌, refl, ℕ, List, [], ◌∷◌, ◌++◌}
use Rattle.std.proofs.Common.{add-one, ap, append_assoc}
use Rattle.type_demands.specs.declared.demand.Demand.{Demand}
use Rattle.type_demands.specs.Demands.{at_line, on_line}

pub at_line-both : (line : ℕ) (xs ys : List Demand) → at_line line (xs ++ ys) ≡ at_line line xs ++ at_line line ys
at_line-both line [] ys = refl
at_line-both line (x ∷ xs) ys = ap (λ zs. on_line line x ∷ zs) (at_line-both line xs ys)

pub ruleset putting = (at_line-both, append_assoc)

pub ruleset counting = (at_line-both, append_assoc, add-one)
