use Rattle.std.proofs.Common.{◌≡◌, ℕ, List, take, find, option_map, bytes_eq}
use Rattle.da_names.specs.MainView.{at_name, setup_arity}
use Rattle.da_names.proofs.arities.arities_of.Given as goal

abbrev pub invariant-loop-class : goal.invariant-loop-class
invariant-loop-class l = (q : List ℕ) → at_name l.arities q ≡ option_map setup_arity (find (λ c. bytes_eq c.name q) (take l.class-index l.classes))
