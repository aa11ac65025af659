-- Types that agree below a number, and forms at the end of a table.
use Rattle.std.specs.Prelude.{◌≡◌, refl, ℕ, zero, suc, ◌+◌, ◌<◌, ◌≤◌, ◌==◌, ◌⊎◌, if◌then◌else◌, List, [], ◌∷◌, ◌++◌, map, length, replicate, Some, slice_get}
use Rattle.std.specs.List.{AllByRecursion}
use Rattle.std.proofs.Common.{◌∙◌, ap, sym, subst, arith, inl, inr}
use Rattle.std.proofs.lemmas.Bool.{eq-eqb, ne_eqb}
use Rattle.std.proofs.lemmas.List.{length_push}
use Rattle.da_lang.specs.declared.ty.Ty.{Ty}
use Rattle.da_lang.specs.declared.ty.Ty.TheVariants as t
use Rattle.type_table.specs.declared.form.Form.{Form}
use Rattle.type_table.specs.declared.form.Form.TheVariants as f
use Rattle.type_table.specs.Draws.{Agree}
use Rattle.type_table.specs.Fits.{Meaning, Fits, HasForm, IsTable, IsWithin, AreSame, AreWithin}
use Rattle.type_table.proofs.TableLaws.{some_form, get_inside}

-- another type for one number
abbrev pub put : Meaning → ℕ → Ty → Meaning
put m k ty j = if j == k then ty else m j

pub put_there : (m : Meaning) (k : ℕ) (ty : Ty) → put m k ty k ≡ ty
put_there m k ty = ap (λ b. if b then ty else m k) (eq-eqb k k refl)

pub put_elsewhere : (m : Meaning) (k j : ℕ) (ty : Ty) → (j ≡ k → ⊥) → put m k ty j ≡ m j
put_elsewhere m k j ty off = ap (λ b. if b then ty else m j) (ne_eqb j k off)

pub agree_put : (size : ℕ) (m : Meaning) (k : ℕ) (ty : Ty) → size ≤ k → Agree size m (put m k ty)
agree_put size m k ty past j below = put_elsewhere m k j ty (λ e. omega (arith, below, past, e))

pub agree_then : (a b : ℕ) (m n o : Meaning) → a ≤ b → Agree a m n → Agree b n o → Agree a m o
agree_then a b m n o le first second k below = second k (omega (arith, below, le)) ∙ first k below

pub agree_map : (size : ℕ) (m n : Meaning) (ks : List ℕ) → Agree size m n → AllByRecursion (λ k. k < size) ks → map n ks ≡ map m ks
agree_map size m n [] agree within = refl
agree_map size m n (k ∷ ks) agree within = ap (λ z. z ∷ map n ks) (agree k within.0) ∙ ap (λ zs. m k ∷ zs) (agree_map size m n ks agree within.1)

-- what a form says depends on the numbers in it
pub agree_form : (size at : ℕ) (m n : Meaning) (form : Form) (ty : Ty) → Agree size m n → at ≤ size → IsWithin size at form → HasForm m form ty → HasForm n form ty
agree_form size at m n f.Open ty agree inside within has = tt
agree_form size at m n (f.Same k) ty agree inside within has = has ∙ sym (agree k (omega (arith, inside, within)))
agree_form size at m n f.Int ty agree inside within has = has
agree_form size at m n f.Bool ty agree inside within has = has
agree_form size at m n f.Text ty agree inside within has = has
agree_form size at m n f.Proc ty agree inside within has = has
agree_form size at m n (f.Tuple ks) ty agree inside within has = has ∙ ap t.Tuple (sym (agree_map size m n ks agree within))
agree_form size at m n (f.Set k) ty agree inside within has = has ∙ ap t.Set (sym (agree k within))

pub agree_fits : (forms : List Form) (m n : Meaning) → IsTable forms → Agree (length forms) m n → Fits m forms → Fits n forms
agree_fits forms m n table agree fits k form e =
    let inside : k < length forms = get_inside forms k form e in
    subst (HasForm n form) (sym (agree k inside)) (agree_form (length forms) k m n form (m k) agree (omega (arith, inside)) (table k form e) (fits k form e))

pub agree_same : (size : ℕ) (m n : Meaning) (pairs : List (ℕ × ℕ)) → Agree size m n → AreWithin size pairs → AreSame m pairs → AreSame n pairs
agree_same size m n [] agree within same = tt
agree_same size m n (pair ∷ pairs) agree within same =
    (agree pair.0 within.0 ∙ same.0 ∙ sym (agree pair.1 within.1), agree_same size m n pairs agree within.2 same.1)

-- larger tables
pub all_larger : (a b : ℕ) (ks : List ℕ) → a ≤ b → AllByRecursion (λ k. k < a) ks → AllByRecursion (λ k. k < b) ks
all_larger a b [] le within = tt
all_larger a b (k ∷ ks) le within = (omega (arith, within.0, le), all_larger a b ks le within.1)

pub larger_within : (a b at : ℕ) (form : Form) → a ≤ b → IsWithin a at form → IsWithin b at form
larger_within a b at f.Open le within = tt
larger_within a b at (f.Same k) le within = within
larger_within a b at f.Int le within = tt
larger_within a b at f.Bool le within = tt
larger_within a b at f.Text le within = tt
larger_within a b at f.Proc le within = tt
larger_within a b at (f.Tuple ks) le within = all_larger a b ks le within
larger_within a b at (f.Set k) le within = omega (arith, within, le)

pub larger_pairs : (a b : ℕ) (pairs : List (ℕ × ℕ)) → a ≤ b → AreWithin a pairs → AreWithin b pairs
larger_pairs a b [] le within = tt
larger_pairs a b (pair ∷ pairs) le within = (omega (arith, le, within.0), omega (arith, le, within.1), larger_pairs a b pairs le within.2)

pub all_push : (size : ℕ) (ks : List ℕ) (k : ℕ) → AllByRecursion (λ j. j < size) ks → k < size → AllByRecursion (λ j. j < size) (ks ++ k ∷ [])
all_push size [] k within inside = (inside, tt)
all_push size (j ∷ ks) k within inside = (within.0, all_push size ks k within.1 inside)

-- forms at the end of a table
pub get_front : (forms more : List Form) (k : ℕ) (form : Form) → slice_get forms k ≡ Some form → slice_get (forms ++ more) k ≡ Some form
get_front [] more k form e = absurd (cc)
get_front (x ∷ xs) more zero form e = e
get_front (x ∷ xs) more (suc k) form e = get_front xs more k form e

pub get_last : (forms : List Form) (form : Form) → slice_get (forms ++ form ∷ []) (length forms) ≡ Some form
get_last [] form = refl
get_last (x ∷ xs) form = get_last xs form

get_cases : (forms : List Form) (form : Form) (k : ℕ) (other : Form) → slice_get (forms ++ form ∷ []) k ≡ Some other → (slice_get forms k ≡ Some other) ⊎ ((k ≡ length forms) × (other ≡ form))
get_cases [] form zero other e = inr (refl, sym (some_form e))
get_cases [] form (suc k) other e = absurd (cc)
get_cases (x ∷ xs) form zero other e = inl e
get_cases (x ∷ xs) form (suc k) other e = go (get_cases xs form k other e)
  where
    go : ((slice_get xs k ≡ Some other) ⊎ ((k ≡ length xs) × (other ≡ form))) → (slice_get xs k ≡ Some other) ⊎ ((suc k ≡ suc (length xs)) × (other ≡ form))
    go (inl old) = inl old
    go (inr (at, is)) = inr (ap suc at, is)

pub fits_front : (forms more : List Form) (m : Meaning) → Fits m (forms ++ more) → Fits m forms
fits_front forms more m fits k form e = fits k form (get_front forms more k form e)

pub fits_last : (forms : List Form) (form : Form) (m : Meaning) → Fits m (forms ++ form ∷ []) → HasForm m form (m (length forms))
fits_last forms form m fits = fits (length forms) form (get_last forms form)

pub fits_push : (forms : List Form) (form : Form) (m : Meaning) → Fits m forms → HasForm m form (m (length forms)) → Fits m (forms ++ form ∷ [])
fits_push forms form m fits has k other e = go (get_cases forms form k other e)
  where
    go : ((slice_get forms k ≡ Some other) ⊎ ((k ≡ length forms) × (other ≡ form))) → HasForm m other (m k)
    go (inl old) = fits k other old
    go (inr (at, is)) = subst (λ z. HasForm m z (m k)) (sym is) (subst (λ z. HasForm m form (m z)) (sym at) has)

pub table_push : (forms : List Form) (form : Form) → IsTable forms → IsWithin (length forms) (length forms) form → IsTable (forms ++ form ∷ [])
table_push forms form table within k other e = subst (λ n. IsWithin n k other) (sym (length_push forms form)) (larger_within (length forms) (length forms + 1) k other (omega arith) (go (get_cases forms form k other e)))
  where
    go : ((slice_get forms k ≡ Some other) ⊎ ((k ≡ length forms) × (other ≡ form))) → IsWithin (length forms) k other
    go (inl old) = table k other old
    go (inr (at, is)) = subst (λ z. IsWithin (length forms) k z) (sym is) (subst (λ z. IsWithin (length forms) z form) (sym at) within)

-- open forms at the end of a table
open_cases : (forms : List Form) (count k : ℕ) (form : Form) → slice_get (forms ++ replicate count f.Open) k ≡ Some form → (slice_get forms k ≡ Some form) ⊎ (f.Open ≡ form)
open_cases [] zero k form e = absurd (cc)
open_cases [] (suc count) zero form e = inr (some_form e)
open_cases [] (suc count) (suc k) form e = inr (is_open_form count k e)
  where
    is_open_form : (count k : ℕ) → slice_get (replicate count f.Open) k ≡ Some form → f.Open ≡ form
    is_open_form zero k e = absurd (cc)
    is_open_form (suc count) zero e = some_form e
    is_open_form (suc count) (suc k) e = is_open_form count k e
open_cases (x ∷ xs) count zero form e = inl e
open_cases (x ∷ xs) count (suc k) form e = open_cases xs count k form e

pub fits_opens : (forms : List Form) (count : ℕ) (m : Meaning) → Fits m forms → Fits m (forms ++ replicate count f.Open)
fits_opens forms count m fits k form e = go (open_cases forms count k form e)
  where
    go : ((slice_get forms k ≡ Some form) ⊎ (f.Open ≡ form)) → HasForm m form (m k)
    go (inl old) = fits k form old
    go (inr is) = subst (λ z. HasForm m z (m k)) is tt

pub table_opens : (forms : List Form) (count : ℕ) → IsTable forms → length forms ≤ length (forms ++ replicate count f.Open) → IsTable (forms ++ replicate count f.Open)
table_opens forms count table le k form e = go (open_cases forms count k form e)
  where
    go : ((slice_get forms k ≡ Some form) ⊎ (f.Open ≡ form)) → IsWithin (length (forms ++ replicate count f.Open)) k form
    go (inl old) = larger_within (length forms) (length (forms ++ replicate count f.Open)) k form le (table k form old)
    go (inr is) = subst (λ z. IsWithin (length (forms ++ replicate count f.Open)) k z) is tt
