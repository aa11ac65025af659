-- Which numbers have types: those that rest on such.
use Rattle.std.specs.Prelude.{◌≡◌, ℕ, zero, suc, ◌+◌, ◌<◌, ◌≤◌, Bool, true, false, if◌then◌else◌, List, [], ◌∷◌, length, Option, Some, None, slice_get}
use Rattle.std.specs.List.{list_all}
use Rattle.type_table.specs.declared.form.Form.{Form}
use Rattle.type_table.specs.declared.form.Form.TheVariants as f

-- whether a form rests on numbers for which this holds
abbrev pub rests : (ℕ → Bool) → Form → Bool
rests holds (f.Same number) = holds number
rests holds (f.Tuple parts) = list_all holds parts
rests holds (f.Set element) = holds element
rests holds _ = true

abbrev pub rests_at : (ℕ → Bool) → Option Form → Bool
rests_at holds None = false
rests_at holds (Some form) = rests holds form

-- whether a number has its type after so many rounds
abbrev pub settled : List Form → ℕ → ℕ → Bool
settled forms zero k = false
settled forms (suc rounds) k = rests_at (settled forms rounds) (slice_get forms k)

abbrev pub mark_in : Option Bool → Bool
mark_in None = false
mark_in (Some mark) = mark

abbrev pub is_marked : List Bool → ℕ → Bool
is_marked marks k = mark_in (slice_get marks k)

-- how many are marked
abbrev pub marked : List Bool → ℕ
marked [] = 0
marked (mark ∷ marks) = (if mark then 1 else 0) + marked marks

-- what is marked has its type after a round for each mark
abbrev pub IsSound : List Form → List Bool → Type 0
IsSound forms marks = (k : ℕ) → is_marked marks k ≡ true → settled forms (marked marks) k ≡ true

-- below this number, what rests on marked ones is marked
abbrev pub IsStuck : List Form → List Bool → ℕ → Type 0
IsStuck forms marks size = (k : ℕ) → k < size → rests_at (is_marked marks) (slice_get forms k) ≡ true → is_marked marks k ≡ true

-- the numbers below this one were looked at once
pub record Passed (forms : List Form) (old new : List Bool) (size : ℕ) (more : Bool) : Type 0 where
  pub count : length new ≡ length old
  pub sound : IsSound forms old → IsSound forms new
  pub grows : marked old ≤ marked new
  pub less : more ≡ true → marked old < marked new
  pub stuck : more ≡ false → IsStuck forms new size
