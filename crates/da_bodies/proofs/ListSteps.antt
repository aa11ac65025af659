-- Steps of loops that append.
use Rattle.std.specs.Prelude.{◌≡◌, ℕ, ◌+◌, ◌<◌, length, take, List, [], ◌∷◌, ◌++◌, map, flat_map, Result, Ok, Err, OnOk}
use Rattle.std.proofs.Common.{◌∙◌, sym, ap, get_or, append_assoc}
use Rattle.std.proofs.lemmas.List.{append-nil, map-append, take_more}
use Rattle.std.proofs.lemmas.Grind.{flat_map-append}
use Rattle.da_lang.specs.ExprNames.{Role}
use Rattle.da_lang.specs.Scopes.{Scope}
use Rattle.da_bodies.specs.Told.{entered_each}
use Rattle.da_bodies.proofs.SameLook.{entered_each-append}

-- a call that appends, seen through a view of the elements
pub appended : {A B E : Type 0} (view : A → B) (r : Result (Unit {0}) E) (old new : List A) (x : A) (ys : List B) → OnOk r (new ≡ old ++ x ∷ []) → view x ∷ [] ≡ ys → OnOk r (map view new ≡ map view old ++ ys)
appended view (Ok u) old new x ys wrote same = ap (map view) wrote ∙ map-append view old (x ∷ []) ∙ ap (λ zs. map view old ++ zs) same
appended view (Err e) old new x ys wrote same = wrote

-- the same fact of an equal value
pub on_same : {A E : Type 0} (r : Result (Unit {0}) E) (x y z : A) → OnOk r (x ≡ y) → y ≡ z → OnOk r (x ≡ z)
on_same (Ok u) x y z is same = is ∙ same
on_same (Err e) x y z is same = is

-- a loop that appends a part for each element
pub flat_more : {A B : Type 0} (f : A → List B) (first before now : List B) (xs : List A) (i : ℕ) (x : A) (more : List B) → i < length xs → x ≡ get_or xs i x → before ≡ first ++ flat_map f (take i xs) → now ≡ before ++ more → f x ≡ more → now ≡ first ++ flat_map f (take (i + 1) xs)
flat_more f first before now xs i x more within here so_far step is =
    let one : take (i + 1) xs ≡ take i xs ++ x ∷ [] = take_more xs i x within ∙ ap (λ y. take i xs ++ y ∷ []) (sym here) in
    step ∙ ap (λ b. b ++ more) so_far ∙ append_assoc first (flat_map f (take i xs)) more
    ∙ ap (λ m. first ++ (flat_map f (take i xs) ++ m)) (sym is ∙ sym (append-nil (f x)))
    ∙ ap (λ m. first ++ m) (sym (flat_map-append f (take i xs) (x ∷ [])))
    ∙ ap (λ ys. first ++ flat_map f ys) (sym one)

-- a loop by which names come into scope
pub entered_more : {A : Type 0} (role : Role) (name : A → List ℕ) (old before now : Scope Role) (xs : List A) (i : ℕ) (d : A) → i < length xs → before ≡ entered_each role (map name (take i xs)) old → now ≡ (name (get_or xs i d), role) ∷ before → now ≡ entered_each role (map name (take (i + 1) xs)) old
entered_more role name old before now xs i d within so_far step =
    step ∙ ap (λ s. (name (get_or xs i d), role) ∷ s) so_far
    ∙ sym (entered_each-append role (map name (take i xs)) (name (get_or xs i d) ∷ []) old)
    ∙ ap (λ ns. entered_each role ns old) (sym (map-append name (take i xs) (get_or xs i d ∷ [])) ∙ ap (map name) (sym (take_more xs i d within)))

-- one part after another
pub appended_both : {A E : Type 0} (r : Result (Unit {0}) E) (old mid new first second all : List A) → mid ≡ old ++ first → OnOk r (new ≡ mid ++ second) → all ≡ first ++ second → OnOk r (new ≡ old ++ all)
appended_both r old mid new first second all one two same = on_same r new (mid ++ second) (old ++ all) two (ap (λ m. m ++ second) one ∙ append_assoc old first second ∙ ap (λ m. old ++ m) (sym same))
