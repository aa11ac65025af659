-- Calls that append, one after the other.
use Rattle.std.proofs.Common.{◌≡◌, refl, sym, ◌∙◌, ap, ℕ, ◌+◌, ◌<◌, List, [], ◌∷◌, ◌++◌, append_assoc, append-nil, get_or, length, take}
use Rattle.std.proofs.lemmas.Grind.{flat_map-append}
use Rattle.std.proofs.lemmas.List.{take_more}
use Rattle.std.specs.List.{flat_map}
use Rattle.std.specs.Prelude.{OnOk, Result, Ok, Err}
use Rattle.da_values.specs.declared.list.NoMemory.{NoMemory}

-- something was appended, and then more
pub then : (old mid new first rest : List ℕ) → mid ≡ old ++ first → new ≡ mid ++ rest → new ≡ old ++ (first ++ rest)
then old mid new first rest did adds = adds ∙ ap (λ before. before ++ rest) did ∙ append_assoc old first rest

-- the last call appends the rest
pub then_end : {T : Type 0} (old mid new first rest : List ℕ) (r : Result T NoMemory) → mid ≡ old ++ first → OnOk r (new ≡ mid ++ rest) → OnOk r (new ≡ old ++ (first ++ rest))
then_end old mid new first rest (Ok x) did adds = then old mid new first rest did adds
then_end old mid new first rest (Err e) did adds = tt

-- the texts of some things, one after the other
pub one_more : {X : Type 0} (f : X → List ℕ) (xs : List X) (i : ℕ) (x : X) (start old new : List ℕ) → i < length xs → x ≡ get_or xs i x → old ≡ start ++ flat_map f (take i xs) → new ≡ old ++ f x → new ≡ start ++ flat_map f (take (i + 1) xs)
one_more f xs i x start old new inside is so_far adds =
    adds ∙ ap (λ before. before ++ f x) so_far ∙ append_assoc start (flat_map f (take i xs)) (f x)
    ∙ ap (λ more. start ++ more) (ap (λ more. flat_map f (take i xs) ++ more) (sym (append-nil (f x))) ∙ sym (flat_map-append f (take i xs) (x ∷ [])))
    ∙ ap (λ ys. start ++ flat_map f ys) (ap (λ y. take i xs ++ y ∷ []) is ∙ sym (take_more xs i x inside))

-- THE PICTURE of a page, part by part, and the whole page

pub picture_put : {T : Type 0} (d b l v p a w m k old o1 o2 o3 o4 new : List ℕ) (r : Result T NoMemory) → o1 ≡ old ++ d → o2 ≡ o1 ++ b → o3 ≡ o2 ++ l ++ v ++ p → o4 ≡ o3 ++ a ++ w → OnOk r (new ≡ o4 ++ m ++ k)
    → OnOk r (new ≡ old ++ (d ++ b ++ l ++ v ++ p ++ a ++ w ++ m ++ k))
picture_put d b l v p a w m k old o1 o2 o3 o4 new (Err e) opening bands columns arrows marks = tt
picture_put d b l v p a w m k old o1 o2 o3 o4 new (Ok x) opening bands columns arrows marks =
    let to2 = then old o1 o2 d b opening bands in
    let to3 =
    then old (o2 ++ l ++ v) o3 (d ++ b ++ l ++ v) p (then old (o2 ++ l) (o2 ++ l ++ v) (d ++ b ++ l) v (then old o2 (o2 ++ l) (d ++ b) l to2 refl) refl) columns in
    let to4 = then old (o3 ++ a) o4 (d ++ b ++ l ++ v ++ p ++ a) w (then old o3 (o3 ++ a) (d ++ b ++ l ++ v ++ p) a to3 refl) arrows in
    then old (o4 ++ m) new (d ++ b ++ l ++ v ++ p ++ a ++ w ++ m) k (then old o4 (o4 ++ m) (d ++ b ++ l ++ v ++ p ++ a ++ w) m to4 refl) marks

pub sheet_put : {T : Type 0} (h e c n p q t w f old o1 o2 o3 o4 o5 new : List ℕ) (r : Result T NoMemory) → o1 ≡ old ++ h ++ e ++ c ++ n → o2 ≡ o1 ++ p → o3 ≡ o2 ++ q → o4 ≡ o3 ++ t → o5 ≡ o4 ++ w → OnOk r (new ≡ o5 ++ f)
    → OnOk r (new ≡ old ++ (h ++ e ++ c ++ n ++ p ++ q ++ t ++ w ++ f))
sheet_put h e c n p q t w f old o1 o2 o3 o4 o5 new (Err x) head picture program table rows foot = tt
sheet_put h e c n p q t w f old o1 o2 o3 o4 o5 new (Ok x) head picture program table rows foot =
    let to1 = then old (old ++ h ++ e ++ c) o1 (h ++ e ++ c) n (then old (old ++ h ++ e) (old ++ h ++ e ++ c) (h ++ e) c (then old (old ++ h) (old ++ h ++ e) h e refl refl) refl) head in
    let to3 = then old o2 o3 (h ++ e ++ c ++ n ++ p) q (then old o1 o2 (h ++ e ++ c ++ n) p to1 picture) program in
    let to5 = then old o4 o5 (h ++ e ++ c ++ n ++ p ++ q ++ t) w (then old o3 o4 (h ++ e ++ c ++ n ++ p ++ q) t to3 table) rows in
    then old o5 new (h ++ e ++ c ++ n ++ p ++ q ++ t ++ w) f to5 foot
