-- What contracts see of names that code borrows.
use Rattle.std.specs.Prelude.{ℕ, List, map}
use denote.Bor.{Bor}

abbrev pub texts : List (Bor (List ℕ)) → List (List ℕ)
texts names = map (λ name. name.now) names
