use Rattle.std.proofs.Common.{◌≡◌, ℕ, List, length}
use Rattle.std.specs.Option.{option_or}
use Rattle.da_scope.specs.MethodsView.{method_place, place_in}
use Rattle.da_scope.proofs.methods.places_of.Given as goal

abbrev pub invariant-loop-member : goal.invariant-loop-member
invariant-loop-member l = (q : List ℕ) → method_place l.members q ≡ option_or (method_place l.rest q) (place_in l.places q)

abbrev pub decreases-loop-member : goal.decreases-loop-member
decreases-loop-member l = length l.rest
