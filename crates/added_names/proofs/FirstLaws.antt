-- What appears for the first time, as a list is read on.
use Rattle.std.specs.Prelude.{◌≡◌, refl, ℕ, ◌+◌, ◌<◌, length, take, Bool, true, false, ◌||◌, if◌then◌else◌, List, [], ◌∷◌, ◌++◌, map, flat_map, Option, Some, is_some, bytes_eq}
use Rattle.std.proofs.Common.{◌∙◌, sym, ap, get_or, append_assoc}
use Rattle.std.proofs.lemmas.List.{append-nil, map-append, take_more}
use Rattle.std.proofs.lemmas.Grind.{flat_map-append}
use Rattle.added_names.specs.Firsts.{firsts, knows, unless}

or_swap : (a b c : Bool) → ((a || b) || c) ≡ (b || (a || c))
or_swap true true c = refl
or_swap true false c = refl
or_swap false true c = refl
or_swap false false c = refl

pub or_nil : (a : Bool) → (a || false) ≡ a
or_nil true = refl
or_nil false = refl

or_assoc : (a b c : Bool) → (a || (b || c)) ≡ ((a || b) || c)
or_assoc true b c = refl
or_assoc false b c = refl

or_comm : (a b : Bool) → (a || b) ≡ (b || a)
or_comm true true = refl
or_comm true false = refl
or_comm false true = refl
or_comm false false = refl

-- one more name that was seen
or_last : (a b c : Bool) → (c || (a || b)) ≡ (a || (b || c))
or_last true b true = refl
or_last true b false = refl
or_last false true true = refl
or_last false true false = refl
or_last false false true = refl
or_last false false false = refl

pub some_if : {A : Type 0} (b : Bool) (x : A) (o : Option A) → is_some (if b then Some x else o) ≡ (b || is_some o)
some_if true x o = refl
some_if false x o = refl

pub knows-append : (q : List ℕ) (xs ys : List (List ℕ)) → knows (xs ++ ys) q ≡ (knows xs q || knows ys q)
knows-append q [] ys = refl
knows-append q (x ∷ xs) ys = ap (λ b. bytes_eq x q || b) (knows-append q xs ys) ∙ or_assoc (bytes_eq x q) (knows xs q) (knows ys q)

firsts-snoc : {A : Type 0} (name : A → List ℕ) (known : List (List ℕ)) (xs : List A) (x : A) → firsts name known (xs ++ x ∷ []) ≡ firsts name known xs ++ unless (knows known (name x) || knows (map name xs) (name x)) x
unfolding firsts
firsts-snoc name known [] x = append-nil (unless (knows known (name x)) x) ∙ ap (λ b. unless b x) (sym (or_nil (knows known (name x))))
firsts-snoc name known (y ∷ ys) x =
    ap (λ rest. unless (knows known (name y)) y ++ rest) (firsts-snoc name (name y ∷ known) ys x ∙ ap (λ b. firsts name (name y ∷ known) ys ++ unless b x) (or_swap (bytes_eq (name y) (name x)) (knows known (name x)) (knows (map name ys) (name x))))
    ∙ sym (append_assoc (unless (knows known (name y)) y) (firsts name (name y ∷ known) ys) (unless (knows known (name x) || (bytes_eq (name y) (name x) || knows (map name ys) (name x))) x))

pub firsts-nil : {A : Type 0} (name : A → List ℕ) (known : List (List ℕ)) → firsts name known [] ≡ []
unfolding firsts
firsts-nil name known = refl

pub firsts_more : {A : Type 0} (name : A → List ℕ) (known : List (List ℕ)) (before now : List A) (xs : List A) (i : ℕ) (x : A) (seen : Bool) → i < length xs → x ≡ get_or xs i x
    → before ≡ firsts name known (take i xs) → seen ≡ (knows known (name x) || knows (map name (take i xs)) (name x)) → now ≡ before ++ unless seen x → now ≡ firsts name known (take (i + 1) xs)
firsts_more name known before now xs i x seen within here so_far is step =
    let one : take (i + 1) xs ≡ take i xs ++ x ∷ [] = take_more xs i x within ∙ ap (λ y. take i xs ++ y ∷ []) (sym here) in
    step ∙ ap (λ b. before ++ unless b x) is ∙ ap (λ b. b ++ unless (knows known (name x) || knows (map name (take i xs)) (name x)) x) so_far
    ∙ sym (firsts-snoc name known (take i xs) x) ∙ ap (firsts name known) (sym one)

-- one more of a list was seen, besides those that were known
pub seen_more : {A : Type 0} (name : A → List ℕ) (q : List ℕ) (known before now : Bool) (xs : List A) (i : ℕ) (x : A) → i < length xs → x ≡ get_or xs i x
    → before ≡ (known || knows (map name (take i xs)) q) → now ≡ (bytes_eq (name x) q || before) → now ≡ (known || knows (map name (take (i + 1) xs)) q)
seen_more name q known before now xs i x within here so_far step =
    let names = map name (take i xs) in
    let one : take (i + 1) xs ≡ take i xs ++ x ∷ [] = take_more xs i x within ∙ ap (λ y. take i xs ++ y ∷ []) (sym here) in
    step ∙ ap (λ b. bytes_eq (name x) q || b) so_far ∙ or_last known (knows names q) (bytes_eq (name x) q)
    ∙ ap (λ b. known || (knows names q || b)) (sym (or_nil (bytes_eq (name x) q)))
    ∙ ap (λ b. known || b) (sym (knows-append q names (name x ∷ [])) ∙ ap (λ ns. knows ns q) (sym (map-append name (take i xs) (x ∷ [])) ∙ ap (map name) (sym one)))

-- the names of one more member were seen
pub seen_flat : {A : Type 0} (names : A → List (List ℕ)) (q : List ℕ) (before now : Bool) (xs : List A) (i : ℕ) (x : A) → i < length xs → x ≡ get_or xs i x
    → before ≡ knows (flat_map names (take i xs)) q → now ≡ (knows (names x) q || before) → now ≡ knows (flat_map names (take (i + 1) xs)) q
seen_flat names q before now xs i x within here so_far step =
    let one : take (i + 1) xs ≡ take i xs ++ x ∷ [] = take_more xs i x within ∙ ap (λ y. take i xs ++ y ∷ []) (sym here) in
    let flat : flat_map names (take (i + 1) xs) ≡ flat_map names (take i xs) ++ names x =
    ap (flat_map names) one ∙ flat_map-append names (take i xs) (x ∷ []) ∙ ap (λ ns. flat_map names (take i xs) ++ ns) (append-nil (names x)) in
    step ∙ ap (λ b. knows (names x) q || b) so_far ∙ or_comm (knows (names x) q) (knows (flat_map names (take i xs)) q)
    ∙ sym (knows-append q (flat_map names (take i xs)) (names x)) ∙ ap (λ ns. knows ns q) (sym flat)

-- one more part of a list was appended
pub flat_more : {A B : Type 0} (f : A → List B) (old before now : List B) (xs : List A) (i : ℕ) (x : A) (more : List B) → i < length xs → x ≡ get_or xs i x
    → before ≡ old ++ flat_map f (take i xs) → now ≡ before ++ more → more ≡ f x → now ≡ old ++ flat_map f (take (i + 1) xs)
flat_more f old before now xs i x more within here so_far step is =
    let one : take (i + 1) xs ≡ take i xs ++ x ∷ [] = take_more xs i x within ∙ ap (λ y. take i xs ++ y ∷ []) (sym here) in
    let flat : flat_map f (take (i + 1) xs) ≡ flat_map f (take i xs) ++ f x =
    ap (flat_map f) one ∙ flat_map-append f (take i xs) (x ∷ []) ∙ ap (λ ys. flat_map f (take i xs) ++ ys) (append-nil (f x)) in
    step ∙ ap (λ b. b ++ more) so_far ∙ append_assoc old (flat_map f (take i xs)) more ∙ ap (λ m. old ++ (flat_map f (take i xs) ++ m)) is ∙ ap (λ m. old ++ m) (sym flat)
