-- Lines reported one by one give the earliest of them.
use Rattle.std.specs.Prelude.{◌≡◌, refl, ℕ, ◌+◌, ◌<◌, ◌≤◌, length, List, [], ◌∷◌, ◌++◌, map, flat_map, Option, Some, None}
use Rattle.std.proofs.Common.{◌∙◌, ap, sym, arith, get_or, drop}
use Rattle.std.proofs.lemmas.Bool.Decides.{nat_tests}
use Rattle.da_lang.specs.Typing.{all, least, least_of}
use Rattle.da_types.specs.Telling.{sooner, telling}
use Rattle.da_typing.proofs.Walks.{at_element, at_end}

pub telling_none : (told : Option ℕ) → telling told [] ≡ told
unfolding telling
telling_none told = refl

pub telling-append : (told : Option ℕ) (xs ys : List ℕ) → telling told (xs ++ ys) ≡ telling (telling told xs) ys
unfolding telling
telling-append told [] ys = refl
telling-append told (x ∷ xs) ys = telling-append (Some (sooner x told)) xs ys

pub telling-each : {A : Type 0} (told : Option ℕ) (f : A → List ℕ) (x : A) (xs : List A) → telling told (flat_map f (x ∷ xs)) ≡ telling (telling told (f x)) (flat_map f xs)
telling-each told f x xs = telling-append told (f x) (flat_map f xs)

pub telling-all : {A : Type 0} (told : Option ℕ) (f : A → List ℕ) (x : A) (xs : List A) → telling told (all (map f (x ∷ xs))) ≡ telling (telling told (f x)) (all (map f xs))
telling-all told f x xs = telling-append told (f x) (all (map f xs))

least_both : (line told : ℕ) (others : Option ℕ) → Some (least_of (sooner line (Some told)) others) ≡ Some (least_of told (Some (least_of line others)))
least_both line told None = grind (arith, nat_tests)
least_both line told (Some other) = grind (arith, nat_tests)

telling-one : (told : ℕ) (lines : List ℕ) → telling (Some told) lines ≡ Some (least_of told (least lines))
unfolding telling
telling-one told [] = refl
telling-one told (line ∷ lines) = telling-one (sooner line (Some told)) lines ∙ least_both line told (least lines)

pub telling_is_least : (lines : List ℕ) → telling None lines ≡ least lines
unfolding telling
telling_is_least [] = refl
telling_is_least (line ∷ lines) = telling-one line lines

pub ruleset parts = (telling-append, telling_none)

-- one part more of the lines of several
pub told_more : {A : Type 0} (f : A → List ℕ) (xs : List A) (i : ℕ) (x : A) (before after whole : Option ℕ) → i < length xs → x ≡ get_or xs i x → telling before (flat_map f (drop i xs)) ≡ whole → after ≡ telling before (f x) → telling after (flat_map f (drop (i + 1) xs)) ≡ whole
told_more f xs i x before after whole within here so_far step =
    ap (λ told. telling told (flat_map f (drop (i + 1) xs))) step ∙ sym (telling-each before f x (drop (i + 1) xs)) ∙ at_element (λ ys. telling before (flat_map f ys) ≡ whole) xs i x within here so_far

pub told_done : {A : Type 0} (f : A → List ℕ) (xs : List A) (i : ℕ) (now whole : Option ℕ) → length xs ≤ i → telling now (flat_map f (drop i xs)) ≡ whole → now ≡ whole
told_done f xs i now whole past so_far = sym (telling_none now) ∙ at_end (λ ys. telling now (flat_map f ys) ≡ whole) xs i past so_far
