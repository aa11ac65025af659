-- Lists side by side, and things that are there on both sides or on neither.
use Rattle.std.specs.Prelude.{List, [], ◌∷◌, Option, Some, None}

abbrev pub Beside : {A B : Type 0} → (A → B → Type 0) → List A → List B → Type 0
Beside Same [] [] = Unit {0}
Beside Same [] (y ∷ ys) = ⊥
Beside Same (x ∷ xs) [] = ⊥
Beside Same (x ∷ xs) (y ∷ ys) = Same x y × Beside Same xs ys

abbrev pub Both : {A B : Type 0} → (A → B → Type 0) → Option A → Option B → Type 0
Both Same None None = Unit {0}
Both Same None (Some y) = ⊥
Both Same (Some x) None = ⊥
Both Same (Some x) (Some y) = Same x y
