-- Sets as strictly ascending lists. The order comes first, as in `set_has val_cmp xs x`.
use Rattle.std.specs.Prelude.{◌≡◌, ◌⊎◌, ◌||◌, Bool, false, not, List, [], ◌∷◌, ◌++◌, map}
use Rattle.std.specs.List.{filter}
use Rattle.std.specs.Ordering.{is_eq}
use Rattle.std.specs.declared.cmp.Ordering.{Ordering}
use Rattle.std.specs.declared.cmp.Ordering.TheVariants.{Less, Equal, Greater}

-- x is one of the elements
abbrev pub Has : {A : Type 0} → List A → A → Type 0
Has [] x = ⊥
Has (y ∷ ys) x = (x ≡ y) ⊎ Has ys x

-- no element stands there twice
abbrev pub Distinct : {A : Type 0} → List A → Type 0
Distinct [] = Unit {0}
Distinct (x ∷ xs) = (Has xs x → ⊥) × Distinct xs

-- what is in the one list is in the other
abbrev pub IsAlike : {A : Type 0} → List A → List A → Type 0
IsAlike {A} xs ys = (x : A) → (Has xs x → Has ys x) × (Has ys x → Has xs x)

-- x is less than each element
abbrev pub Below : {A : Type 0} → (A → A → Ordering) → A → List A → Type 0
Below c x [] = Unit {0}
Below c x (y ∷ ys) = (c x y ≡ Less) × Below c x ys

-- each element is less than those after it
abbrev pub Ascends : {A : Type 0} → (A → A → Ordering) → List A → Type 0
Ascends c [] = Unit {0}
Ascends c (x ∷ xs) = Below c x xs × Ascends c xs

-- the test: some element ties with x
abbrev pub set_has : {A : Type 0} → (A → A → Ordering) → List A → A → Bool
set_has c [] x = false
set_has c (y ∷ ys) x = is_eq (c x y) || set_has c ys x

-- x goes before y, is y, or goes into what follows y
abbrev pub placed : {A : Type 0} → Ordering → A → A → List A → List A → List A
placed Less x y ys rest = x ∷ y ∷ ys
placed Equal x y ys rest = y ∷ ys
placed Greater x y ys rest = y ∷ rest

-- with x, at its place
abbrev pub set_insert : {A : Type 0} → (A → A → Ordering) → List A → A → List A
set_insert c [] x = x ∷ []
set_insert c (y ∷ ys) x = placed (c x y) x y ys (set_insert c ys x)

abbrev pub dropped : {A : Type 0} → Ordering → A → List A → List A → List A
dropped Equal y ys rest = ys
dropped _ y ys rest = y ∷ rest

-- without x
abbrev pub set_remove : {A : Type 0} → (A → A → Ordering) → List A → A → List A
set_remove c [] x = []
set_remove c (y ∷ ys) x = dropped (c x y) y ys (set_remove c ys x)

-- the set of the elements of any list
abbrev pub canon : {A : Type 0} → (A → A → Ordering) → List A → List A
canon c [] = []
canon c (x ∷ xs) = set_insert c (canon c xs) x

-- the set of what f gives of the elements
abbrev pub set_image : {A B : Type 0} → (B → B → Ordering) → (A → B) → List A → List B
set_image c f xs = canon c (map f xs)

abbrev pub set_union : {A : Type 0} → (A → A → Ordering) → List A → List A → List A
set_union c xs ys = canon c (xs ++ ys)

abbrev pub set_intersection : {A : Type 0} → (A → A → Ordering) → List A → List A → List A
set_intersection c xs ys = filter (set_has c ys) xs

abbrev pub set_difference : {A : Type 0} → (A → A → Ordering) → List A → List A → List A
set_difference c xs ys = filter (λ x. not (set_has c ys x)) xs
