-- Members of lists by their numbers.
use Rattle.std.proofs.Common.{◌≡◌, refl, ℕ, zero, suc, List, [], ◌∷◌}
use Rattle.std.specs.Prelude.{None, IfSome, slice_get}
use Rattle.std.specs.List.{AllByRecursion}
use Rattle.da_lang.specs.World.{at_number}

all_get : {A : Type 0} (P : A → Type 0) (xs : List A) (k : ℕ) → AllByRecursion P xs → IfSome (slice_get xs k) P
all_get P [] k all = tt
all_get P (x ∷ xs) zero all = all.0
all_get P (x ∷ xs) (suc k) all = all_get P xs k all.1

pub all_numbered : {A : Type 0} (P : A → Type 0) (xs : List A) (n : ℕ) → AllByRecursion P xs → IfSome (at_number xs n) P
all_numbered P xs zero all = tt
all_numbered P xs (suc k) all = all_get P xs k all

pub numbered_none : {A : Type 0} (k : ℕ) → at_number {A = A} [] k ≡ None
numbered_none zero = refl
numbered_none (suc k) = refl
