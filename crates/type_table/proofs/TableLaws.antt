-- Tables of which a form is changed.
use Rattle.std.specs.Prelude.{◌≡◌, refl, ℕ, zero, suc, ◌+◌, ◌<◌, ◌≤◌, ◌⊎◌, List, [], ◌∷◌, ◌++◌, length, zip, Option, Some, None, slice_get, slice_set, if◌then◌else◌, Bool, true, false}
use Rattle.std.specs.List.{AllByRecursion}
use Rattle.std.proofs.Common.{inl, inr, ◌∙◌, ap, sym, subst, arith, get_or}
use Rattle.std.proofs.lemmas.Bool.{cases_eq}
use Rattle.std.proofs.lemmas.List.{length-set}
use Rattle.type_table.specs.declared.form.Form.{Form}
use Rattle.type_table.specs.declared.form.Form.TheVariants as f
use Rattle.type_table.specs.Fits.{Meaning, IsTable, IsWithin, AreSame, AreWithin}
use Rattle.type_table.specs.Joins.{parts, agree, paired}
use Rattle.type_table.specs.Weight.{form_weight, weight}

pub set_there : {A : Type 0} (xs : List A) (k : ℕ) (x : A) → k < length xs → slice_get (slice_set xs k x) k ≡ Some x
set_there [] k x inside = absurd (omega (arith, inside))
set_there (y ∷ ys) zero x inside = refl
set_there (y ∷ ys) (suc k) x inside = set_there ys k x (omega (arith, inside))

pub set_elsewhere : {A : Type 0} (xs : List A) (j k : ℕ) (x : A) → (j ≡ k → ⊥) → slice_get (slice_set xs k x) j ≡ slice_get xs j
set_elsewhere [] j k x other = refl
set_elsewhere (y ∷ ys) zero zero x other = absurd (other refl)
set_elsewhere (y ∷ ys) (suc j) zero x other = refl
set_elsewhere (y ∷ ys) zero (suc k) x other = refl
set_elsewhere (y ∷ ys) (suc j) (suc k) x other = set_elsewhere ys j k x (λ e. other (ap suc e))

pub some_form : {x y : Form} → Some x ≡ Some y → x ≡ y
some_form {x} {y} e = ap (λ (o : Option Form). form_or x o) e
  where
    form_or : Form → Option Form → Form
    form_or d None = d
    form_or d (Some z) = z

pub get_inside : {A : Type 0} (xs : List A) (k : ℕ) (x : A) → slice_get xs k ≡ Some x → k < length xs
get_inside [] k x e = cc
get_inside (y ∷ ys) zero x e = omega arith
get_inside (y ∷ ys) (suc k) x e = omega (arith, get_inside ys k x e)

pub get_past : {A : Type 0} (xs : List A) (k : ℕ) → length xs ≤ k → slice_get xs k ≡ None
get_past [] k past = refl
get_past (x ∷ xs) zero past = absurd (omega (arith, past))
get_past (x ∷ xs) (suc k) past = get_past xs k (omega (arith, past))

-- what code read at a place
pub read_at : {A : Type 0} (xs : List A) (k : ℕ) (x d : A) → k < length xs → x ≡ get_or xs k d → slice_get xs k ≡ Some x
read_at [] k x d inside is = absurd (omega (arith, inside))
read_at (y ∷ ys) zero x d inside is = ap (λ z. Some z) (sym is)
read_at (y ∷ ys) (suc k) x d inside is = read_at ys k x d (omega (arith, inside)) is

-- a form in a table is that which was put there, or the one before
pub set_cases : (forms : List Form) (at : ℕ) (form : Form) (k : ℕ) (other : Form) → at < length forms → slice_get (slice_set forms at form) k ≡ Some other → ((k ≡ at) × (form ≡ other)) ⊎ ((k ≡ at → ⊥) × (slice_get forms k ≡ Some other))
set_cases forms at form k other inside e = go (cases_eq k at)
  where
    go : ((k ≡ at) ⊎ (k ≡ at → ⊥)) → ((k ≡ at) × (form ≡ other)) ⊎ ((k ≡ at → ⊥) × (slice_get forms k ≡ Some other))
    go (inl here) = inl (here, some_form (sym (set_there forms at form inside) ∙ ap (slice_get (slice_set forms at form)) (sym here) ∙ e))
    go (inr off) = inr (off, sym (set_elsewhere forms k at form off) ∙ e)

pub set_table : (forms : List Form) (at : ℕ) (form : Form) → IsTable forms → at < length forms → IsWithin (length forms) at form → IsTable (slice_set forms at form)
set_table forms at form table inside within k other e = subst (λ n. IsWithin n k other) (sym (length-set forms at form)) (go (set_cases forms at form k other inside e))
  where
    go : (((k ≡ at) × (form ≡ other)) ⊎ ((k ≡ at → ⊥) × (slice_get forms k ≡ Some other))) → IsWithin (length forms) k other
    go (inl (here, is)) = subst (λ z. IsWithin (length forms) k z) is (subst (λ z. IsWithin (length forms) z form) (sym here) within)
    go (inr (off, old)) = table k other old

pub weight_set : (forms : List Form) (k : ℕ) (x y : Form) → slice_get forms k ≡ Some x → weight (slice_set forms k y) + form_weight x ≡ weight forms + form_weight y
weight_set [] k x y e = cc
weight_set (z ∷ zs) zero x y e = let same : form_weight z ≡ form_weight x = ap form_weight (some_form e) in omega (arith, same)
weight_set (z ∷ zs) (suc k) x y e = omega (arith, weight_set zs k x y e)

-- equations of two lists
pub same_both : (m : Meaning) (xs ys : List (ℕ × ℕ)) → AreSame m xs → AreSame m ys → AreSame m (xs ++ ys)
same_both m [] ys here there = there
same_both m (x ∷ xs) ys here there = (here.0, same_both m xs ys here.1 there)

pub same_prefix : (m : Meaning) (xs ys : List (ℕ × ℕ)) → AreSame m (xs ++ ys) → AreSame m xs
same_prefix m [] ys same = tt
same_prefix m (x ∷ xs) ys same = (same.0, same_prefix m xs ys same.1)

pub same_back : (m : Meaning) (xs ys : List (ℕ × ℕ)) → AreSame m (xs ++ ys) → AreSame m ys
same_back m [] ys same = same
same_back m (x ∷ xs) ys same = same_back m xs ys same.1

pub within_both : (size : ℕ) (xs ys : List (ℕ × ℕ)) → AreWithin size xs → AreWithin size ys → AreWithin size (xs ++ ys)
within_both size [] ys here there = there
within_both size (z ∷ xs) ys here there = (here.0, here.1, within_both size xs ys here.2 there)

pub within_front : (size : ℕ) (xs ys : List (ℕ × ℕ)) → AreWithin size (xs ++ ys) → AreWithin size xs
within_front size [] ys within = tt
within_front size (z ∷ xs) ys within = (within.0, within.1, within_front size xs ys within.2)

pub within_back : (size : ℕ) (xs ys : List (ℕ × ℕ)) → AreWithin size (xs ++ ys) → AreWithin size ys
within_back size [] ys within = within
within_back size (z ∷ xs) ys within = within_back size xs ys within.2

zip_within : (size : ℕ) (xs ys : List ℕ) → AllByRecursion (λ k. k < size) xs → AllByRecursion (λ k. k < size) ys → AreWithin size (zip xs ys)
zip_within size [] ys xs_in ys_in = tt
zip_within size (a ∷ xs) [] xs_in ys_in = tt
zip_within size (a ∷ xs) (b ∷ ys) xs_in ys_in = (xs_in.0, ys_in.0, zip_within size xs ys xs_in.1 ys_in.1)

parts_within : (size at : ℕ) (form : Form) → IsWithin size at form → AllByRecursion (λ k. k < size) (parts form)
parts_within size at f.Open within = tt
parts_within size at (f.Same k) within = tt
parts_within size at f.Int within = tt
parts_within size at f.Bool within = tt
parts_within size at f.Text within = tt
parts_within size at f.Proc within = tt
parts_within size at (f.Tuple ks) within = within
parts_within size at (f.Set k) within = (within, tt)

pub paired_within : (size low high : ℕ) (x y : Form) → IsWithin size low x → IsWithin size high y → AreWithin size (paired x y)
paired_within size low high x y x_in y_in = go (agree x y)
  where
    go : (b : Bool) → AreWithin size (if b then zip (parts x) (parts y) else [])
    go true = zip_within size (parts x) (parts y) (parts_within size low x x_in) (parts_within size high y y_in)
    go false = tt
