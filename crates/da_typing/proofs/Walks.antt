-- Steps of loops that go through a list.
use Rattle.std.specs.Prelude.{◌≡◌, refl, ℕ, zero, suc, ◌+◌, ◌-◌, ◌<◌, ◌≤◌, List, [], ◌∷◌, ◌++◌, length, map, Option, Some, None, slice_get}
use Rattle.std.proofs.Common.{◌∙◌, ap, sym, get_or, drop, add-one, subst, append_assoc, arith}
use Rattle.std.proofs.lemmas.List.{append-nil, drop_all}
use Rattle.std.proofs.Math.Seq.{drop-cons}
use Rattle.da_lang.specs.declared.ty.Ty.{Ty}
use Rattle.da_lang.specs.QueryTypes.{given, all_types}
use Rattle.da_lang.specs.World.{at_number}

-- what is left at an element begins with it
pub left_here : {A : Type 0} (xs : List A) (i : ℕ) (x : A) → i < length xs → x ≡ get_or xs i x → drop i xs ≡ x ∷ drop (i + 1) xs
left_here xs i x within here = drop-cons xs i x within ∙ ap (λ y. y ∷ drop (suc i) xs) (sym here) ∙ ap (λ n. x ∷ drop n xs) (sym (add-one i))

-- what is said of what is left at an element
pub at_element : {A : Type 0} (P : List A → Type 0) (xs : List A) (i : ℕ) (x : A) → i < length xs → x ≡ get_or xs i x → P (drop i xs) → P (x ∷ drop (i + 1) xs)
at_element P xs i x within here said = subst P (left_here xs i x within here) said

-- what is said of what is left after the last element
pub at_end : {A : Type 0} (P : List A → Type 0) (xs : List A) (i : ℕ) → length xs ≤ i → P (drop i xs) → P []
at_end P xs i past said = subst P (drop_all i xs past) said

pub nothing_left : {A : Type 0} (xs : List A) → length xs < 1 → xs ≡ []
nothing_left [] few = refl
nothing_left (x ∷ xs) few = absurd (omega (arith, few))

pub numbered_at : {A : Type 0} (members : List A) (number : ℕ) → 0 < number → at_number members number ≡ slice_get members (number - 1)
numbered_at members zero some = absurd (omega arith)
numbered_at members (suc place) some = let e : place ≡ suc place - 1 = omega arith in ap (slice_get members) e

-- the types of those that are done, before the types of those that are left
abbrev pub Gathers : List Ty → List (Option Ty) → Option (List Ty) → Type 0
Gathers done left whole = given (all_types left) (λ others. Some (done ++ others)) ≡ whole

gathers_in : (found : Option (List Ty)) → given found (λ others. Some ([] ++ others)) ≡ found
gathers_in None = refl
gathers_in (Some types) = refl

pub gathers_first : (all : List (Option Ty)) → Gathers [] all (all_types all)
gathers_first all = gathers_in (all_types all)

one_more : (done : List Ty) (ty : Ty) (rest : Option (List Ty)) → given (given rest (λ others. Some (ty ∷ others))) (λ others. Some (done ++ others)) ≡ given rest (λ others. Some ((done ++ ty ∷ []) ++ others))
one_more done ty None = refl
one_more done ty (Some others) = ap (λ (types : List Ty). Some types) (sym (append_assoc done (ty ∷ []) others))

pub gathers_more : (done : List Ty) (ty : Ty) (left : List (Option Ty)) (whole : Option (List Ty)) → Gathers done (Some ty ∷ left) whole → Gathers (done ++ ty ∷ []) left whole
gathers_more done ty left whole so_far = sym (one_more done ty (all_types left)) ∙ so_far

pub gathers_last : (done : List Ty) (whole : Option (List Ty)) → Gathers done [] whole → Some done ≡ whole
gathers_last done whole so_far = ap (λ (types : List Ty). Some types) (sym (append-nil done)) ∙ so_far

pub gather_more : {A : Type 0} (f : A → Option Ty) (xs : List A) (i : ℕ) (x : A) (ty : Ty) (done more : List Ty) (whole : Option (List Ty)) → i < length xs → x ≡ get_or xs i x → Gathers done (map f (drop i xs)) whole → Some ty ≡ f x → more ≡ done ++ ty ∷ [] → Gathers more (map f (drop (i + 1) xs)) whole
gather_more f xs i x ty done more whole within here so_far found grown =
    let left = map f (drop (i + 1) xs) in
    ap (λ (types : List Ty). given (all_types left) (λ others. Some (types ++ others))) grown
    ∙ gathers_more done ty left whole (subst (λ (o : Option Ty). Gathers done (o ∷ left) whole) (sym found) (at_element (λ ys. Gathers done (map f ys) whole) xs i x within here so_far))

pub gather_stop : {A : Type 0} (f : A → Option Ty) (xs : List A) (i : ℕ) (x : A) (done : List Ty) (whole : Option (List Ty)) → i < length xs → x ≡ get_or xs i x → Gathers done (map f (drop i xs)) whole → None ≡ f x → None ≡ whole
gather_stop f xs i x done whole within here so_far none =
    subst (λ (o : Option Ty). Gathers done (o ∷ map f (drop (i + 1) xs)) whole) (sym none) (at_element (λ ys. Gathers done (map f ys) whole) xs i x within here so_far)

pub gather_last : {A : Type 0} (f : A → Option Ty) (xs : List A) (i : ℕ) (done : List Ty) (whole : Option (List Ty)) → length xs ≤ i → Gathers done (map f (drop i xs)) whole → Some done ≡ whole
gather_last f xs i done whole past so_far = gathers_last done whole (at_end (λ ys. Gathers done (map f ys) whole) xs i past so_far)
