-- The earliest of lines, reported one by one.
use Rattle.std.specs.Prelude.{ℕ, List, [], ◌∷◌, Option, Some, None, nat_lt, if◌then◌else◌}

abbrev pub sooner : ℕ → Option ℕ → ℕ
sooner line None = line
sooner line (Some told) = if nat_lt line told then line else told

-- with the one reported before, if there was one
unfoldable pub telling : Option ℕ → List ℕ → Option ℕ
telling told [] = told
telling told (line ∷ lines) = telling (Some (sooner line told)) lines
