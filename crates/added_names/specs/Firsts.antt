-- What appears for the first time.
use Rattle.std.specs.Prelude.{ℕ, Bool, if◌then◌else◌, List, [], ◌∷◌, ◌++◌, bytes_eq, is_some}
use Rattle.std.specs.BTreeMap.{BTreeMap, get_by}
use Rattle.std.specs.Borrow.{Bor}
use Rattle.std.specs.Cmp.Lexicographic.{slice_cmp}
use Rattle.std.specs.List.{list_any}
use Rattle.std.specs.Ordering.{nat_cmp}

-- a name is among these
abbrev pub knows : List (List ℕ) → List ℕ → Bool
knows names name = list_any (λ known. bytes_eq known name) names

abbrev pub unless : {A : Type 0} → Bool → A → List A
unless known x = if known then [] else x ∷ []

-- those whose name is none of these and none of one before, in order
unfoldable pub firsts : {A : Type 0} → (A → List ℕ) → List (List ℕ) → List A → List A
firsts name known [] = []
firsts name known (x ∷ xs) = unless (knows known (name x)) x ++ firsts name (name x ∷ known) xs

-- a map has a name
abbrev pub is_seen : BTreeMap (Bor (List ℕ)) Bool → List ℕ → Bool
is_seen seen name = is_some (get_by (λ k. slice_cmp nat_cmp name k.now) seen)
