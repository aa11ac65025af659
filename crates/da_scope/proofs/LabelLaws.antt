-- The map of the labels of a class and its text say the same.
use Rattle.std.specs.Prelude.{◌≡◌, refl, ℕ, zero, suc, ◌+◌, ◌<◌, ◌≤◌, Bool, true, false, if◌then◌else◌, List, [], ◌∷◌, ◌++◌, map, length, Option, Some, None, option_map, position, unwrap_or, bytes_eq}
use Rattle.std.specs.BTreeMap.{BTreeMap}
use Rattle.std.specs.Borrow.{Bor}
use Rattle.std.specs.List.{position_from}
use Rattle.std.specs.Option.{option_or}
use Rattle.std.proofs.Common.{◌∙◌, ap, sym, arith, get_or, take}
use Rattle.std.proofs.lemmas.Iterator.Adapters.{position_from-zero}
use Rattle.std.proofs.lemmas.List.{map-append, length-map}
use Rattle.std.proofs.lemmas.Slice.Eq.{bytes_eq-Decides}
use Rattle.da_lang.specs.declared.tree.ClassTree.{ClassTree}
use Rattle.da_lang.specs.ClassParts.{Declared}
use Rattle.da_lang.specs.LabelNames.{label_number, labels_of}
use Rattle.da_lang.proofs.Taken.{taken}
use Rattle.da_scope.specs.LabelsView.{HasNumbers, number_among, number_in}
use Rattle.da_scope.specs.NamesView.{texts}

placed : {A : Type 0} (p : A → Bool) (xs : List A) → position p xs ≡ position_from p 0 xs
placed p xs = position_from-zero p xs

-- a name after others
first_or : (b c : Bool) (i n m : ℕ) (o : Option ℕ) → n ≡ m → (if b then Some i else option_or o (if c then Some n else None)) ≡ option_or (if b then Some i else o) (if c then Some m else None)
first_or true c i n m o same = refl
first_or false c i n m o same = ap (λ k. option_or o (if c then Some k else None)) same

from-last : {A : Type 0} (p : A → Bool) (i : ℕ) (xs : List A) (x : A) → position_from p i (xs ++ x ∷ []) ≡ option_or (position_from p i xs) (if p x then Some (i + length xs) else None)
from-last p i [] x = let same : i ≡ i + 0 = omega arith in ap (λ (n : ℕ). if p x then Some n else None) same
from-last p i (y ∷ xs) x =
    let same : i + 1 + length xs ≡ i + suc (length xs) = omega arith in
    ap (λ o. if p y then Some i else o) (from-last p (i + 1) xs x) ∙ first_or (p y) (p x) i (i + 1 + length xs) (i + suc (length xs)) (position_from p (i + 1) xs) same

joined : (o : Option ℕ) (c : Bool) (n : ℕ) → option_map suc (option_or o (if c then Some n else None)) ≡ option_or (option_map suc o) (if c then Some (suc n) else None)
joined None true n = refl
joined None false n = refl
joined (Some k) c n = refl

short : {A : Type 0} (xs : List A) (i : ℕ) → i ≤ length xs → length (take i xs) ≡ i
short [] zero inside = refl
short [] (suc i) inside = absurd (omega (arith, inside))
short (x ∷ xs) zero inside = refl
short (x ∷ xs) (suc i) inside = ap suc (short xs i (omega (arith, inside)))

-- a name more
among-more : (names : List (List ℕ)) (name q : List ℕ) (number : ℕ) → number ≡ suc (length names)
    → number_among (names ++ name ∷ []) q ≡ option_or (number_among names q) (if bytes_eq name q then Some number else None)
among-more names name q number is =
    let test = λ (n : List ℕ). bytes_eq n q in
    let zeroth : 0 + length names ≡ length names = omega arith in
    ap (option_map suc) (placed test (names ++ name ∷ []) ∙ from-last test 0 names name)
    ∙ ap (λ n. option_map suc (option_or (position_from test 0 names) (if bytes_eq name q then Some n else None))) zeroth ∙ joined (position_from test 0 names) (bytes_eq name q) (length names)
    ∙ ap (λ o. option_or (option_map suc o) (if bytes_eq name q then Some (suc (length names)) else None)) (sym (placed test names))
    ∙ ap (λ n. option_or (number_among names q) (if bytes_eq name q then Some n else None)) (sym is)

pub count_step : (i old new : ℕ) → old ≡ i → new ≡ suc old → new ≡ i + 1
count_step i old new at is = omega (arith, at, is)

pub numbers_step : (names : List (Bor (List ℕ))) (i : ℕ) (name : Bor (List ℕ)) (count number : ℕ) (q : List ℕ) (old new : Option ℕ) → i < length names → name ≡ get_or names i name → count ≡ i → number ≡ suc count
    → old ≡ number_among (texts (take i names)) q → new ≡ option_or old (if bytes_eq name.now q then Some number else None) → new ≡ number_among (texts (take (i + 1) names)) q
numbers_step names i name count number q old new inside here at next so_far set =
    let front = texts (take i names) in
    let many : number ≡ suc (length front) = omega (arith, at, next, inside, length-map (take i names) (λ (n : Bor (List ℕ)). n.now), short names i (omega (arith, inside))) in
    set ∙ ap (λ o. option_or o (if bytes_eq name.now q then Some number else None)) so_far ∙ sym (among-more front name.now q number many)
    ∙ ap (λ ns. number_among ns q) (sym (ap texts (taken names i name inside here) ∙ map-append (λ (n : Bor (List ℕ)). n.now) (take i names) (name ∷ [])))

-- a name that has a number keeps it
kept_by : (name q : List ℕ) (map : List ℕ → Option ℕ) (n k : ℕ) (b : Bool) (o : Option ℕ) → bytes_eq name q ≡ b → map q ≡ o → map name ≡ Some k → o ≡ option_or o (if b then Some n else None)
kept_by name q map n k b (Some j) same is has = refl
kept_by name q map n k false None same is has = refl
kept_by name q map n k true None same is has = let one : Some k ≡ None = sym has ∙ ap map ((bytes_eq-Decides name q).0 same) ∙ is in absurd (cc)

pub number_kept : (name q : List ℕ) (map : List ℕ → Option ℕ) (n k : ℕ) (found : Option ℕ) → found ≡ map name → found ≡ Some k → map q ≡ option_or (map q) (if bytes_eq name q then Some n else None)
number_kept name q map n k found is some = kept_by name q map n k (bytes_eq name q) (map q) refl refl (sym is ∙ some)

set_by : (name q : List ℕ) (map : List ℕ → Option ℕ) (n : ℕ) (b : Bool) (o : Option ℕ) → bytes_eq name q ≡ b → map q ≡ o → map name ≡ None → (if b then Some n else o) ≡ option_or o (if b then Some n else None)
set_by name q map n false None same is has = refl
set_by name q map n false (Some j) same is has = refl
set_by name q map n true None same is has = refl
set_by name q map n true (Some j) same is has = let one : None ≡ Some j = sym has ∙ ap map ((bytes_eq-Decides name q).0 same) ∙ is in absurd (cc)

pub number_set : (name q : List ℕ) (map : List ℕ → Option ℕ) (n : ℕ) (found new : Option ℕ) → found ≡ map name → found ≡ None → new ≡ (if bytes_eq name q then Some n else map q) → new ≡ option_or (map q) (if bytes_eq name q then Some n else None)
number_set name q map n found new is none set = set ∙ set_by name q map n (bytes_eq name q) (map q) refl refl (sym is ∙ none)

-- the number of a label
from-map : {A B : Type 0} (f : A → B) (p : B → Bool) (i : ℕ) (xs : List A) → position_from p i (map f xs) ≡ position_from (λ x. p (f x)) i xs
from-map f p i [] = refl
from-map f p i (x ∷ xs) = ap (λ o. if p (f x) then Some i else o) (from-map f p (i + 1) xs)

number_or : (o : Option ℕ) → suc (unwrap_or o 0) ≡ unwrap_or (option_map suc o) 1
number_or None = refl
number_or (Some n) = refl

pub label-at : (c : ClassTree) (numbers : BTreeMap (Bor (List ℕ)) ℕ) (q : List ℕ) (found : Option ℕ) → HasNumbers numbers c → found ≡ number_in numbers q → label_number c q ≡ unwrap_or found 1
label-at c numbers q found has is =
    number_or (position (λ (l : Declared). bytes_eq l.0 q) (labels_of c))
    ∙ ap (λ o. unwrap_or (option_map suc o) 1)
    (placed (λ (l : Declared). bytes_eq l.0 q) (labels_of c) ∙ sym (placed (λ n. bytes_eq n q) (map (λ (l : Declared). l.0) (labels_of c)) ∙ from-map (λ (l : Declared). l.0) (λ n. bytes_eq n q) 0 (labels_of c)))
    ∙ ap (λ o. unwrap_or o 1) (sym (is ∙ has q))
