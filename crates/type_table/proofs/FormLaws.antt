-- Forms of one type.
use Rattle.std.specs.Prelude.{◌≡◌, refl, ℕ, ◌+◌, ◌<◌, ◌==◌, ◌||◌, Bool, true, false, if◌then◌else◌, List, [], ◌∷◌, map, length, zip, Option, Some, None, drop}
use Rattle.std.proofs.Common.{◌∙◌, ap, sym, subst, arith}
use Rattle.std.proofs.lemmas.List.{length-map}
use Rattle.std.proofs.lemmas.Bool.{and_parts, and_from, eqb-true, eq-eqb, false≢true}
use Rattle.da_lang.specs.declared.ty.Ty.{Ty, out-Ty}
use Rattle.da_lang.specs.declared.ty.Ty.TheVariants as t
use Rattle.da_lang.specs.declared.ty.Ty.TheOpen as layer
use Rattle.type_table.specs.declared.form.Form.{Form}
use Rattle.type_table.specs.declared.form.Form.TheVariants as f
use Rattle.type_table.specs.Fits.{Meaning, HasForm, AreSame, IsWithin}
use Rattle.type_table.specs.Joins.{is_open, link, parts, kind, agree, joins, kept, paired}
use Rattle.type_table.specs.Weight.{form_weight}

-- the kind of a type, and its parts
abbrev kind_in : layer.Ty-F Ty → ℕ
kind_in layer.Int = 1
kind_in layer.Bool = 2
kind_in layer.Text = 3
kind_in layer.Proc = 4
kind_in (layer.Set element) = 5
kind_in (layer.Tuple types) = 6

abbrev parts_in : layer.Ty-F Ty → List Ty
parts_in (layer.Set element) = element ∷ []
parts_in (layer.Tuple types) = types
parts_in _ = []

-- a form that tells something
abbrev pub Tells : Form → Type 0
Tells x = (link x ≡ None) × (is_open x ≡ false)

abbrev is_some : Option ℕ → Bool
is_some None = false
is_some (Some k) = true

pub no_link : {k : ℕ} → Some k ≡ None → ⊥
no_link e = false≢true (sym (ap is_some e))

kind_told : (m : Meaning) (x : Form) (ty : Ty) → Tells x → HasForm m x ty → kind_in (out-Ty ty) ≡ kind x
kind_told m f.Open ty tells has = absurd (false≢true (sym tells.1))
kind_told m (f.Same k) ty tells has = absurd (no_link tells.0)
kind_told m f.Int ty tells has = ap (λ z. kind_in (out-Ty z)) has ∙ ap kind_in t.outs-Int
kind_told m f.Bool ty tells has = ap (λ z. kind_in (out-Ty z)) has ∙ ap kind_in t.outs-Bool
kind_told m f.Text ty tells has = ap (λ z. kind_in (out-Ty z)) has ∙ ap kind_in t.outs-Text
kind_told m f.Proc ty tells has = ap (λ z. kind_in (out-Ty z)) has ∙ ap kind_in t.outs-Proc
kind_told m (f.Tuple ks) ty tells has = ap (λ z. kind_in (out-Ty z)) has ∙ ap kind_in (t.outs-Tuple (map m ks))
kind_told m (f.Set k) ty tells has = ap (λ z. kind_in (out-Ty z)) has ∙ ap kind_in (t.outs-Set (m k))

parts_told : (m : Meaning) (x : Form) (ty : Ty) → Tells x → HasForm m x ty → parts_in (out-Ty ty) ≡ map m (parts x)
parts_told m f.Open ty tells has = absurd (false≢true (sym tells.1))
parts_told m (f.Same k) ty tells has = absurd (no_link tells.0)
parts_told m f.Int ty tells has = ap (λ z. parts_in (out-Ty z)) has ∙ ap parts_in t.outs-Int
parts_told m f.Bool ty tells has = ap (λ z. parts_in (out-Ty z)) has ∙ ap parts_in t.outs-Bool
parts_told m f.Text ty tells has = ap (λ z. parts_in (out-Ty z)) has ∙ ap parts_in t.outs-Text
parts_told m f.Proc ty tells has = ap (λ z. parts_in (out-Ty z)) has ∙ ap parts_in t.outs-Proc
parts_told m (f.Tuple ks) ty tells has = ap (λ z. parts_in (out-Ty z)) has ∙ ap parts_in (t.outs-Tuple (map m ks))
parts_told m (f.Set k) ty tells has = ap (λ z. parts_in (out-Ty z)) has ∙ ap parts_in (t.outs-Set (m k))

abbrev first_or : Ty → List Ty → Ty
first_or other [] = other
first_or other (x ∷ xs) = x

-- the form of a kind
of_int : (y : Form) → kind y ≡ 1 → y ≡ f.Int
of_int f.Int e = refl
of_int _ e = absurd (omega (arith, e))

of_bool : (y : Form) → kind y ≡ 2 → y ≡ f.Bool
of_bool f.Bool e = refl
of_bool _ e = absurd (omega (arith, e))

of_text : (y : Form) → kind y ≡ 3 → y ≡ f.Text
of_text f.Text e = refl
of_text _ e = absurd (omega (arith, e))

of_proc : (y : Form) → kind y ≡ 4 → y ≡ f.Proc
of_proc f.Proc e = refl
of_proc _ e = absurd (omega (arith, e))

of_set : (y : Form) → kind y ≡ 5 → (k : ℕ) × (y ≡ f.Set k)
of_set (f.Set k) e = (k, refl)
of_set _ e = absurd (omega (arith, e))

of_tuple : (y : Form) → kind y ≡ 6 → (ks : List ℕ) × (y ≡ f.Tuple ks)
of_tuple (f.Tuple ks) e = (ks, refl)
of_tuple _ e = absurd (omega (arith, e))

-- what has one form has every form of its kind whose parts are the same types
alike_form : (m : Meaning) (x y : Form) (ty : Ty) → Tells x → kind x ≡ kind y → map m (parts x) ≡ map m (parts y) → HasForm m x ty → HasForm m y ty
alike_form m f.Open y ty tells kinds types has = absurd (false≢true (sym tells.1))
alike_form m (f.Same k) y ty tells kinds types has = absurd (no_link tells.0)
alike_form m f.Int y ty tells kinds types has = subst (λ z. HasForm m z ty) (sym (of_int y (sym kinds))) has
alike_form m f.Bool y ty tells kinds types has = subst (λ z. HasForm m z ty) (sym (of_bool y (sym kinds))) has
alike_form m f.Text y ty tells kinds types has = subst (λ z. HasForm m z ty) (sym (of_text y (sym kinds))) has
alike_form m f.Proc y ty tells kinds types has = subst (λ z. HasForm m z ty) (sym (of_proc y (sym kinds))) has
alike_form m (f.Tuple xs) y ty tells kinds types has =
    let (ys, is) = of_tuple y (sym kinds) in
    subst (λ z. HasForm m z ty) (sym is) (has ∙ ap t.Tuple (types ∙ ap (λ z. map m (parts z)) is))
alike_form m (f.Set x) y ty tells kinds types has =
    let (k, is) = of_set y (sym kinds) in
    subst (λ z. HasForm m z ty) (sym is) (has ∙ ap (λ zs. t.Set (first_or t.Int zs)) (types ∙ ap (λ z. map m (parts z)) is))

-- lists of numbers that stand for the same types
zip_same : (m : Meaning) (xs ys : List ℕ) → map m xs ≡ map m ys → AreSame m (zip xs ys)
zip_same m [] ys e = tt
zip_same m (x ∷ xs) [] e = tt
zip_same m (x ∷ xs) (y ∷ ys) e = (ap (first_or t.Int) e, zip_same m xs ys (ap (drop 1) e))

same_zip : (m : Meaning) (xs ys : List ℕ) → length xs ≡ length ys → AreSame m (zip xs ys) → map m xs ≡ map m ys
same_zip m [] [] size same = refl
same_zip m [] (y ∷ ys) size same = absurd (omega (arith, size))
same_zip m (x ∷ xs) [] size same = absurd (omega (arith, size))
same_zip m (x ∷ xs) (y ∷ ys) size same = ap (λ z. z ∷ map m xs) same.0 ∙ ap (λ zs. m y ∷ zs) (same_zip m xs ys (omega (arith, size)) same.1)

open_is : (x : Form) → is_open x ≡ true → x ≡ f.Open
open_is f.Open e = refl
open_is _ e = absurd (false≢true e)

pub open_has : (m : Meaning) (x : Form) (ty : Ty) → is_open x ≡ true → HasForm m x ty
open_has m x ty e = subst (λ z. HasForm m z ty) (sym (open_is x e)) tt

-- the three ways in which two forms stand to each other
pub data Ways (x y : Form) : Type 0 where
  first : is_open x ≡ true → Ways x y
  second : is_open x ≡ false → is_open y ≡ true → Ways x y
  both : is_open x ≡ false → is_open y ≡ false → Ways x y

bool_cases : (b : Bool) (P : Type 0) → (b ≡ true → P) → (b ≡ false → P) → P
bool_cases true P on off = on refl
bool_cases false P on off = off refl

pub ways : (x y : Form) → Ways x y
ways x y = bool_cases (is_open x) (Ways x y) first (λ off. bool_cases (is_open y) (Ways x y) (second off) (both off))

if_true : {A : Type 0} (b : Bool) (p q : A) → b ≡ true → (if b then p else q) ≡ p
if_true true p q e = refl
if_true false p q e = absurd (false≢true e)

if_false : {A : Type 0} (b : Bool) (p q : A) → b ≡ false → (if b then p else q) ≡ q
if_false true p q e = absurd (false≢true (sym e))
if_false false p q e = refl

pub kept_second : (x y : Form) → is_open x ≡ true → kept x y ≡ y
kept_second x y e = if_true (is_open x) y x e

pub kept_first : (x y : Form) → is_open x ≡ false → kept x y ≡ x
kept_first x y e = if_false (is_open x) y x e

agreed : (x y : Form) → is_open x ≡ false → is_open y ≡ false → joins x y ≡ true → agree x y ≡ true
agreed x y x_tells y_tells can = go (is_open x) (is_open y) (agree x y) x_tells y_tells can
  where
    go : (a b c : Bool) → a ≡ false → b ≡ false → (a || b || c) ≡ true → c ≡ true
    go true b c e g can = absurd (false≢true (sym e))
    go false true c e g can = absurd (false≢true (sym g))
    go false false c e g can = can

apart : (x y : Form) → joins x y ≡ false → (is_open x ≡ false) × (is_open y ≡ false) × (agree x y ≡ false)
apart x y cannot = go (is_open x) (is_open y) (agree x y) cannot
  where
    go : (a b c : Bool) → (a || b || c) ≡ false → (a ≡ false) × (b ≡ false) × (c ≡ false)
    go true b c e = absurd (false≢true (sym e))
    go false true c e = absurd (false≢true (sym e))
    go false false c e = (refl, refl, e)

sizes : (x y : Form) → agree x y ≡ true → (kind x ≡ kind y) × (length (parts x) ≡ length (parts y))
sizes x y e =
    let both = and_parts (kind x == kind y) (length (parts x) == length (parts y)) e in
    (eqb-true (kind x) (kind y) both.0, eqb-true (length (parts x)) (length (parts y)) both.1)

pairs_same : (m : Meaning) (x y : Form) → map m (parts x) ≡ map m (parts y) → AreSame m (paired x y)
pairs_same m x y types = bool_cases (agree x y) (AreSame m (paired x y))
    (λ e. subst (AreSame m) (sym (if_true (agree x y) (zip (parts x) (parts y)) [] e)) (zip_same m (parts x) (parts y) types))
    (λ e. subst (AreSame m) (sym (if_false (agree x y) (zip (parts x) (parts y)) [] e)) tt)

pairs_none : (m : Meaning) (x y : Form) → zip (parts x) (parts y) ≡ [] → paired x y ≡ []
pairs_none m x y none = bool_cases (agree x y) (paired x y ≡ []) (λ e. if_true (agree x y) (zip (parts x) (parts y)) [] e ∙ none) (λ e. if_false (agree x y) (zip (parts x) (parts y)) [] e)

zip_nothing : (xs : List ℕ) → ◌≡◌ {A = List (ℕ × ℕ)} (zip xs []) []
zip_nothing [] = refl
zip_nothing (x ∷ xs) = refl

open_first : (m : Meaning) (x y : Form) → is_open x ≡ true → paired x y ≡ []
open_first m x y e = pairs_none m x y (ap (λ z. zip (parts z) (parts y)) (open_is x e))

open_second : (m : Meaning) (x y : Form) → is_open y ≡ true → paired x y ≡ []
open_second m x y e = pairs_none m x y (ap (λ z. zip (parts x) (parts z)) (open_is y e) ∙ zip_nothing (parts x))

module _ (m : Meaning) (x y : Form) (ty : Ty) (x_root : link x ≡ None) (y_root : link y ≡ None) where
  -- what has both forms has the one that is left, and the parts are the same
  pub both_keep : HasForm m x ty → HasForm m y ty → HasForm m (kept x y) ty × AreSame m (paired x y)
  both_keep has_x has_y = go (ways x y)
    where
      go : Ways x y → HasForm m (kept x y) ty × AreSame m (paired x y)
      go (first e) = (subst (λ z. HasForm m z ty) (sym (kept_second x y e)) has_y, subst (AreSame m) (sym (open_first m x y e)) tt)
      go (second off e) = (subst (λ z. HasForm m z ty) (sym (kept_first x y off)) has_x, subst (AreSame m) (sym (open_second m x y e)) tt)
      go (both off none) = (
        subst (λ z. HasForm m z ty) (sym (kept_first x y off)) has_x,
        pairs_same m x y (sym (parts_told m x ty (x_root, off) has_x) ∙ parts_told m y ty (y_root, none) has_y),
      )

  -- what has the form that is left has both, where the parts are the same
  pub both_give : joins x y ≡ true → HasForm m (kept x y) ty → AreSame m (paired x y) → HasForm m x ty × HasForm m y ty
  both_give can has same = go (ways x y)
    where
      go : Ways x y → HasForm m x ty × HasForm m y ty
      go (first e) = (open_has m x ty e, subst (λ z. HasForm m z ty) (kept_second x y e) has)
      go (second off e) = (subst (λ z. HasForm m z ty) (kept_first x y off) has, open_has m y ty e)
      go (both off none) =
          let has_x = subst (λ z. HasForm m z ty) (kept_first x y off) has in
          let holds = agreed x y off none can in
          let (kinds, counts) = sizes x y holds in
          (has_x, alike_form m x y ty (x_root, off) kinds (same_zip m (parts x) (parts y) counts (subst (AreSame m) (if_true (agree x y) (zip (parts x) (parts y)) [] holds) same)) has_x)

  -- no type has both
  pub none_has : joins x y ≡ false → HasForm m x ty → HasForm m y ty → ⊥
  none_has cannot has_x has_y =
      let (x_tells, y_tells, differ) = apart x y cannot in
      let kinds : kind x ≡ kind y = sym (kind_told m x ty (x_root, x_tells) has_x) ∙ kind_told m y ty (y_root, y_tells) has_y in
      let types : map m (parts x) ≡ map m (parts y) = sym (parts_told m x ty (x_root, x_tells) has_x) ∙ parts_told m y ty (y_root, y_tells) has_y in
      let counts : length (parts x) ≡ length (parts y) = sym (length-map (parts x) m) ∙ ap length types ∙ length-map (parts y) m in
      false≢true (sym differ ∙ and_from (kind x == kind y) (length (parts x) == length (parts y)) (eq-eqb (kind x) (kind y) kinds) (eq-eqb (length (parts x)) (length (parts y)) counts))

-- weights
zip_length : (xs ys : List ℕ) → length (zip xs ys) < length xs + 1
zip_length [] ys = omega arith
zip_length (x ∷ xs) [] = omega arith
zip_length (x ∷ xs) (y ∷ ys) = omega (arith, zip_length xs ys)

root_weighs : (x : Form) → link x ≡ None → form_weight x ≡ 1 + length (parts x)
root_weighs f.Open e = refl
root_weighs (f.Same k) e = absurd (no_link e)
root_weighs f.Int e = refl
root_weighs f.Bool e = refl
root_weighs f.Text e = refl
root_weighs f.Proc e = refl
root_weighs (f.Tuple ks) e = refl
root_weighs (f.Set k) e = refl

pub kept_weighs : (m : Meaning) (x y : Form) → link x ≡ None → link y ≡ None → form_weight (kept x y) + length (paired x y) < form_weight x + form_weight y
kept_weighs m x y x_root y_root = go (ways x y)
  where
    x_is : form_weight x ≡ 1 + length (parts x)
    x_is = root_weighs x x_root

    y_is : form_weight y ≡ 1 + length (parts y)
    y_is = root_weighs y y_root

    go : Ways x y → form_weight (kept x y) + length (paired x y) < form_weight x + form_weight y
    go (first e) = let none : length (paired x y) ≡ 0 = ap length (open_first m x y e) in let left : form_weight (kept x y) ≡ form_weight y = ap form_weight (kept_second x y e) in omega (arith, none, left, x_is)
    go (second off e) = let none : length (paired x y) ≡ 0 = ap length (open_second m x y e) in let left : form_weight (kept x y) ≡ form_weight x = ap form_weight (kept_first x y off) in omega (arith, none, left, y_is)
    go (both off none) =
        let left : form_weight (kept x y) ≡ form_weight x = ap form_weight (kept_first x y off) in
        bool_cases (agree x y) (form_weight (kept x y) + length (paired x y) < form_weight x + form_weight y)
        (λ e. let few : length (paired x y) ≡ length (zip (parts x) (parts y)) = ap length (if_true (agree x y) (zip (parts x) (parts y)) [] e) in omega (arith, few, left, x_is, y_is, (sizes x y e).1, zip_length (parts x) (parts y)))
        (λ e. let few : length (paired x y) ≡ 0 = ap length (if_false (agree x y) (zip (parts x) (parts y)) [] e) in omega (arith, few, left, y_is))

-- the numbers in forms
pub moved_within : (size at other : ℕ) (x : Form) → link x ≡ None → IsWithin size at x → IsWithin size other x
moved_within size at other f.Open e within = tt
moved_within size at other (f.Same k) e within = absurd (no_link e)
moved_within size at other f.Int e within = tt
moved_within size at other f.Bool e within = tt
moved_within size at other f.Text e within = tt
moved_within size at other f.Proc e within = tt
moved_within size at other (f.Tuple ks) e within = within
moved_within size at other (f.Set k) e within = within
