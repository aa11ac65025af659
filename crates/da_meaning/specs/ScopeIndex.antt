-- The names in scope as code keeps them: a list, a map of the first so many of them, and the number of parts of the row.
use Rattle.std.specs.Prelude.{◌≡◌, ℕ, ◌≤◌, List, length, take, Option, option_map}
use Rattle.std.specs.BTreeMap.{BTreeMap, get_by}
use Rattle.std.specs.Borrow.{Bor}
use Rattle.std.specs.Cmp.Lexicographic.{slice_cmp}
use Rattle.std.specs.Ordering.{nat_cmp}
use Rattle.da_lang.specs.ExprMeaning as means
use Rattle.da_lang.specs.ExprMeaning.{width}
use Rattle.da_lang.specs.Scopes.{look}
use Rattle.da_meaning.specs.declared.scope.Meaning.{Meaning}
use Rattle.da_meaning.specs.declared.scope.Named.{Named}
use Rattle.da_meaning.specs.MeaningView.{meaning_of}
use Rattle.da_meaning.specs.SlotScope.{shown}

-- what a map says of a name
abbrev pub meaning_in : BTreeMap (Bor (List ℕ)) Meaning → List ℕ → Option means.Meaning
meaning_in index name = option_map meaning_of (get_by (λ k. slice_cmp nat_cmp name k.now) index)

-- the number of parts is that of the names, and the map says what the first so many names say
pub record IsKept (names : List Named) (parts : ℕ) (index : BTreeMap (Bor (List ℕ)) Meaning) (indexed : ℕ) : Type 0 where
  pub wide : parts ≡ width (shown names)
  pub within : indexed ≤ length names
  pub same : (q : List ℕ) → meaning_in index q ≡ look (shown (take indexed names)) q
