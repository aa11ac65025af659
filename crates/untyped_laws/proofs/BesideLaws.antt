-- Laws of lists side by side.
use Rattle.std.specs.Prelude.{◌≡◌, refl, ℕ, zero, suc, Bool, true, false, List, [], ◌∷◌, ◌++◌, map, length, drop, cond, Option, Some, None, position, find, filter, filter_map, flat_map}
use Rattle.std.specs.List.{cons_option, list_any}
use Rattle.std.proofs.Common.{ap, ap₂}
use Rattle.untyped_laws.specs.Beside.{Beside, Both}

pub beside_length : {A B : Type 0} (Same : A → B → Type 0) (xs : List A) (ys : List B) → Beside Same xs ys → length xs ≡ length ys
beside_length Same [] [] all = refl
beside_length Same [] (y ∷ ys) all = absurd all
beside_length Same (x ∷ xs) [] all = absurd all
beside_length Same (x ∷ xs) (y ∷ ys) all = ap suc (beside_length Same xs ys all.1)

pub beside_append : {A B : Type 0} (Same : A → B → Type 0) (xs us : List A) (ys vs : List B) → Beside Same xs ys → Beside Same us vs → Beside Same (xs ++ us) (ys ++ vs)
beside_append Same [] us [] vs all more = more
beside_append Same [] us (y ∷ ys) vs all more = absurd all
beside_append Same (x ∷ xs) us [] vs all more = absurd all
beside_append Same (x ∷ xs) us (y ∷ ys) vs all more = (all.0, beside_append Same xs us ys vs all.1 more)

pub beside_map : {A B C D : Type 0} (Same : A → B → Type 0) (Then : C → D → Type 0) (f : A → C) (g : B → D) → ((x : A) (y : B) → Same x y → Then (f x) (g y)) → (xs : List A) (ys : List B) → Beside Same xs ys → Beside Then (map f xs) (map g ys)
beside_map Same Then f g each [] [] all = tt
beside_map Same Then f g each [] (y ∷ ys) all = absurd all
beside_map Same Then f g each (x ∷ xs) [] all = absurd all
beside_map Same Then f g each (x ∷ xs) (y ∷ ys) all = (each x y all.0, beside_map Same Then f g each xs ys all.1)

-- what is equal of each is equal of all
pub map_equal : {A B C : Type 0} (Same : A → B → Type 0) (f : A → C) (g : B → C) → ((x : A) (y : B) → Same x y → f x ≡ g y) → (xs : List A) (ys : List B) → Beside Same xs ys → map f xs ≡ map g ys
map_equal Same f g each [] [] all = refl
map_equal Same f g each [] (y ∷ ys) all = absurd all
map_equal Same f g each (x ∷ xs) [] all = absurd all
map_equal Same f g each (x ∷ xs) (y ∷ ys) all = ap₂ (λ z zs. z ∷ zs) (each x y all.0) (map_equal Same f g each xs ys all.1)

pub flat_equal : {A B C : Type 0} (Same : A → B → Type 0) (f : A → List C) (g : B → List C) → ((x : A) (y : B) → Same x y → f x ≡ g y) → (xs : List A) (ys : List B) → Beside Same xs ys → flat_map f xs ≡ flat_map g ys
flat_equal Same f g each [] [] all = refl
flat_equal Same f g each [] (y ∷ ys) all = absurd all
flat_equal Same f g each (x ∷ xs) [] all = absurd all
flat_equal Same f g each (x ∷ xs) (y ∷ ys) all = ap₂ (λ z zs. z ++ zs) (each x y all.0) (flat_equal Same f g each xs ys all.1)

pub kept_equal : {A B C : Type 0} (Same : A → B → Type 0) (f : A → Option C) (g : B → Option C) → ((x : A) (y : B) → Same x y → f x ≡ g y) → (xs : List A) (ys : List B) → Beside Same xs ys → filter_map f xs ≡ filter_map g ys
kept_equal Same f g each [] [] all = refl
kept_equal Same f g each [] (y ∷ ys) all = absurd all
kept_equal Same f g each (x ∷ xs) [] all = absurd all
kept_equal Same f g each (x ∷ xs) (y ∷ ys) all = ap₂ (λ z zs. cons_option z zs) (each x y all.0) (kept_equal Same f g each xs ys all.1)

pub any_equal : {A B : Type 0} (Same : A → B → Type 0) (f : A → Bool) (g : B → Bool) → ((x : A) (y : B) → Same x y → f x ≡ g y) → (xs : List A) (ys : List B) → Beside Same xs ys → list_any f xs ≡ list_any g ys
any_equal Same f g each [] [] all = refl
any_equal Same f g each [] (y ∷ ys) all = absurd all
any_equal Same f g each (x ∷ xs) [] all = absurd all
any_equal Same f g each (x ∷ xs) (y ∷ ys) all = ap₂ (λ z zs. Rattle.std.specs.Prelude.◌||◌ z zs) (each x y all.0) (any_equal Same f g each xs ys all.1)

-- which of them are kept
join_kept : {A B : Type 0} (Same : A → B → Type 0) (x : Option A) (y : Option B) (xs : List A) (ys : List B) → Both Same x y → Beside Same xs ys → Beside Same (cons_option x xs) (cons_option y ys)
join_kept Same None None xs ys one all = all
join_kept Same None (Some y) xs ys one all = absurd one
join_kept Same (Some x) None xs ys one all = absurd one
join_kept Same (Some x) (Some y) xs ys one all = (one, all)

pub beside_kept : {A B C D : Type 0} (Same : A → B → Type 0) (Then : C → D → Type 0) (f : A → Option C) (g : B → Option D) → ((x : A) (y : B) → Same x y → Both Then (f x) (g y)) → (xs : List A) (ys : List B) → Beside Same xs ys → Beside Then (filter_map f xs) (filter_map g ys)
beside_kept Same Then f g each [] [] all = tt
beside_kept Same Then f g each [] (y ∷ ys) all = absurd all
beside_kept Same Then f g each (x ∷ xs) [] all = absurd all
beside_kept Same Then f g each (x ∷ xs) (y ∷ ys) all = join_kept Then (f x) (g y) (filter_map f xs) (filter_map g ys) (each x y all.0) (beside_kept Same Then f g each xs ys all.1)

-- a choice by two tests that say the same
chosen : {P : Type 0} {Q : Type 0} (Then : P → Q → Type 0) (a b : Bool) (p q : P) (u v : Q) → a ≡ b → Then p u → Then q v → Then (cond a p q) (cond b u v)
chosen Then true true p q u v same first other = first
chosen Then false false p q u v same first other = other
chosen Then true false p q u v same first other = absurd (cc)
chosen Then false true p q u v same first other = absurd (cc)

pub beside_filter : {A B : Type 0} (Same : A → B → Type 0) (f : A → Bool) (g : B → Bool) → ((x : A) (y : B) → Same x y → f x ≡ g y) → (xs : List A) (ys : List B) → Beside Same xs ys → Beside Same (filter f xs) (filter g ys)
beside_filter Same f g each [] [] all = tt
beside_filter Same f g each [] (y ∷ ys) all = absurd all
beside_filter Same f g each (x ∷ xs) [] all = absurd all
beside_filter Same f g each (x ∷ xs) (y ∷ ys) all =
    let rest = beside_filter Same f g each xs ys all.1 in
    chosen (Beside Same) (f x) (g y) (x ∷ filter f xs) (filter f xs) (y ∷ filter g ys) (filter g ys) (each x y all.0) (all.0, rest) rest

pub both_find : {A B : Type 0} (Same : A → B → Type 0) (f : A → Bool) (g : B → Bool) → ((x : A) (y : B) → Same x y → f x ≡ g y) → (xs : List A) (ys : List B) → Beside Same xs ys → Both Same (find f xs) (find g ys)
both_find Same f g each [] [] all = tt
both_find Same f g each [] (y ∷ ys) all = absurd all
both_find Same f g each (x ∷ xs) [] all = absurd all
both_find Same f g each (x ∷ xs) (y ∷ ys) all = chosen (Both Same) (f x) (g y) (Some x) (find f xs) (Some y) (find g ys) (each x y all.0) all.0 (both_find Same f g each xs ys all.1)

pub beside_drop : {A B : Type 0} (Same : A → B → Type 0) (n : ℕ) (xs : List A) (ys : List B) → Beside Same xs ys → Beside Same (drop n xs) (drop n ys)
beside_drop Same zero xs ys all = all
beside_drop Same (suc n) [] [] all = tt
beside_drop Same (suc n) [] (y ∷ ys) all = absurd all
beside_drop Same (suc n) (x ∷ xs) [] all = absurd all
beside_drop Same (suc n) (x ∷ xs) (y ∷ ys) all = beside_drop Same n xs ys all.1

-- equal things
pub beside_self : {A : Type 0} (Same : A → A → Type 0) → ((x : A) → Same x x) → (xs : List A) → Beside Same xs xs
beside_self Same each [] = tt
beside_self Same each (x ∷ xs) = (each x, beside_self Same each xs)
