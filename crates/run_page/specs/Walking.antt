-- Two lists that are walked side by side, where the first may be shorter.
use Rattle.std.specs.Prelude.{◌≡◌, ℕ, List, [], ◌∷◌}
use Rattle.run_page.specs.declared.cells.Cell.{Cell}

-- the first of some lists and the others
abbrev pub MatchFirst : List (List Cell) → List Cell → List (List Cell) → Type 0
MatchFirst [] first others = (first ≡ []) × (others ≡ [])
MatchFirst (c ∷ cs) first others = (first ≡ c) × (others ≡ cs)

-- the value of the first of some cells, and the others
abbrev pub MatchValue : List Cell → List ℕ → List Cell → Type 0
MatchValue [] value others = (value ≡ []) × (others ≡ [])
MatchValue (c ∷ cs) value others = (value ≡ c.value) × (others ≡ cs)
