-- What contracts see of the names in scope.
use Rattle.std.specs.Prelude.{ℕ, List, map, reverse}
use Rattle.da_lang.specs.ExprMeaning.{Meaning}
use Rattle.da_lang.specs.Scopes.{Scope}
use Rattle.da_meaning.specs.declared.scope.Named.{Named}
use Rattle.da_meaning.specs.MeaningView.{meaning_of}

-- a name with what it stands for
abbrev pub entry : Named → List ℕ × Meaning
entry named = (named.name.now, meaning_of named.means)

-- code adds a name at the end
abbrev pub shown : List Named → Scope Meaning
shown names = map entry (reverse names)
