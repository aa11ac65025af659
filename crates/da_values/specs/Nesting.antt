-- How many tuples and sets stand in one another in a value.
use Rattle.std.specs.Prelude.{ℕ, ◌+◌, List, [], ◌∷◌, max}
use Rattle.da_values.specs.declared.val.Val.{Val}
use Rattle.da_values.specs.declared.val.Val.TheOpen.{Val-F, Tuple, Set}
use Rattle.da_values.specs.declared.val.Val.TheFolds.{fold-Val}

abbrev pub deepest : List ℕ → ℕ
deepest [] = 0
deepest (n ∷ ns) = max n (deepest ns)

-- a tuple or set is one deeper than its deepest part, and 1 where it has none
abbrev pub nesting_step : Val-F ℕ → ℕ
nesting_step (Tuple depths) = 1 + deepest depths
nesting_step (Set depths) = 1 + deepest depths
nesting_step _ = 0

abbrev pub nesting : Val → ℕ
nesting = fold-Val ℕ nesting_step
