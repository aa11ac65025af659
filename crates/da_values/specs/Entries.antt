-- The tables of the code.
use Rattle.std.specs.Borrow.{Bor}
use Rattle.std.specs.Prelude.{ℕ, List, map}
use Rattle.da_values.specs.declared.token.Mark.{Mark}
use Rattle.da_values.specs.Words.{Entry}

-- the entries of a table as the definition has them
abbrev pub entries : List (Bor (List ℕ) × Mark) → List Entry
entries = map (λ entry. (entry.0.now, entry.1))
