-- The last of some lines.
use Rattle.std.specs.Prelude.{ℕ, List, [], ◌∷◌}

-- the last one, or this line where there are no more
abbrev pub last_or : List ℕ → List (List ℕ) → List ℕ
last_or line [] = line
last_or line (next ∷ more) = last_or next more

-- the last one, or an empty line where there is none
abbrev pub last_of : List (List ℕ) → List ℕ
last_of = last_or []
