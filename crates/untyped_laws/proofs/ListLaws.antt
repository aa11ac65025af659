-- Laws of lists, by functions that agree.
use Rattle.std.specs.Prelude.{◌≡◌, refl, Bool, ◌||◌, List, [], ◌∷◌, ◌++◌, map, cond, filter, flat_map}
use Rattle.std.specs.List.{AllByRecursion, list_any}
use Rattle.std.proofs.Common.{◌∙◌, ap₂}
use Rattle.untyped_laws.specs.Beside.{Beside}

abbrev pub head_or : {A : Type 0} → A → List A → A
head_or other [] = other
head_or other (x ∷ xs) = x

abbrev pub rest_of : {A : Type 0} → List A → List A
rest_of [] = []
rest_of (x ∷ xs) = xs

pub ap₄ : {A B C D E : Type 0} (f : A → B → C → D → E) {a x : A} {b y : B} {c z : C} {d w : D} → a ≡ x → b ≡ y → c ≡ z → d ≡ w → f a b c d ≡ f x y z w
ap₄ f {a} {x} {b} {y} {c} {z} {d} {w} p q r s = ap₂ (λ m n. f m n c d) p q ∙ ap₂ (λ m n. f x y m n) r s

pub join : {A : Type 0} {a b c d : List A} → a ≡ b → c ≡ d → a ++ c ≡ b ++ d
join p q = ap₂ (λ xs ys. xs ++ ys) p q

pub all_mapped : {A B : Type 0} (P : B → Type 0) (f : A → B) (xs : List A) → AllByRecursion (λ x. P (f x)) xs → AllByRecursion P (map f xs)
all_mapped P f [] all = tt
all_mapped P f (x ∷ xs) all = (all.0, all_mapped P f xs all.1)

pub all_of : {A : Type 0} (P : A → Type 0) → ((x : A) → P x) → (xs : List A) → AllByRecursion P xs
all_of P each [] = tt
all_of P each (x ∷ xs) = (each x, all_of P each xs)

-- two functions of the same things
pub beside_both : {A B : Type 0} (Same : B → B → Type 0) (f g : A → B) (xs : List A) → AllByRecursion (λ x. Same (f x) (g x)) xs → Beside Same (map f xs) (map g xs)
beside_both Same f g [] all = tt
beside_both Same f g (x ∷ xs) all = (all.0, beside_both Same f g xs all.1)

pub map_same : {A B : Type 0} (f g : A → B) → ((x : A) → f x ≡ g x) → (xs : List A) → map f xs ≡ map g xs
map_same f g each [] = refl
map_same f g each (x ∷ xs) = ap₂ (λ z zs. z ∷ zs) (each x) (map_same f g each xs)

pub flat_same : {A B : Type 0} (f g : A → List B) → ((x : A) → f x ≡ g x) → (xs : List A) → flat_map f xs ≡ flat_map g xs
flat_same f g each [] = refl
flat_same f g each (x ∷ xs) = join (each x) (flat_same f g each xs)

pub any_same : {A : Type 0} (f g : A → Bool) → ((x : A) → f x ≡ g x) → (xs : List A) → list_any f xs ≡ list_any g xs
any_same f g each [] = refl
any_same f g each (x ∷ xs) = ap₂ (λ z zs. z || zs) (each x) (any_same f g each xs)

pub filter_same : {A : Type 0} (f g : A → Bool) → ((x : A) → f x ≡ g x) → (xs : List A) → filter f xs ≡ filter g xs
filter_same f g each [] = refl
filter_same f g each (x ∷ xs) = ap₂ (λ b ys. cond b (x ∷ ys) ys) (each x) (filter_same f g each xs)
