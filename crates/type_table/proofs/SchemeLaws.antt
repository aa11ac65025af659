-- What types stand for that are made of unknown types, form by form.
use Rattle.std.specs.Prelude.{◌≡◌, refl, ℕ, suc, ◌≤◌, List, [], ◌∷◌, map, Option, Some}
use Rattle.std.specs.List.{AllByRecursion}
use Rattle.std.proofs.Common.{◌∙◌, ap, sym, subst, arith}
use Rattle.da_lang.specs.declared.ty.Ty.{Ty}
use Rattle.da_lang.specs.declared.ty.Ty.TheVariants as t
use Rattle.da_lang.specs.QueryTypes.{given, all_types}
use Rattle.da_lang.specs.Types.{element_of}
use Rattle.type_table.specs.declared.scheme.Scheme.{Scheme, roll-Scheme}
use Rattle.type_table.specs.declared.scheme.Scheme.TheFolds.{map-Scheme, fold-roll-Scheme, ind-Scheme}
use Rattle.type_table.specs.declared.scheme.Scheme.TheOpen as layer
use Rattle.type_table.specs.declared.scheme.Scheme.TheVariants as s
use Rattle.type_table.specs.Draws.{Agree}
use Rattle.type_table.specs.Fits.{Meaning}
use Rattle.type_table.specs.Schemes.{stands, stands_step, part_of, highest, reach, reach_step, IsKnown}

-- what holds of a type where it holds of its parts holds of each
abbrev bare : {P : Scheme → Type 0} → List ((x : Scheme) × P x) → List Scheme
bare pairs = map (λ pair. pair.0) pairs

each_bare : (P : Scheme → Type 0) (pairs : List ((x : Scheme) × P x)) → AllByRecursion P (bare pairs)
each_bare P [] = tt
each_bare P (pair ∷ pairs) = (pair.1, each_bare P pairs)

module _ (P : Scheme → Type 0) (unknown : (k : ℕ) → P (s.Unknown k)) (int : P s.Int) (truth : P s.Bool) (text : P s.Text) (process : P s.Proc)
    (tuple : (parts : List Scheme) → AllByRecursion P parts → P (s.Tuple parts)) (set : (x : Scheme) → P x → P (s.Set x)) (element : (x : Scheme) → P x → P (s.Element x))
    (part : (x : Scheme) (at count : ℕ) → P x → P (s.Part x at count)) where
  scheme_case : (l : layer.Scheme-F ((x : Scheme) × P x)) → P (roll-Scheme (map-Scheme ((x : Scheme) × P x) Scheme (λ pair. pair.0) l))
  scheme_case (layer.Unknown k) = subst P (sym (s.rolls-Unknown k)) (unknown k)
  scheme_case layer.Int = subst P (sym s.rolls-Int) int
  scheme_case layer.Bool = subst P (sym s.rolls-Bool) truth
  scheme_case layer.Text = subst P (sym s.rolls-Text) text
  scheme_case layer.Proc = subst P (sym s.rolls-Proc) process
  scheme_case (layer.Tuple pairs) = subst P (sym (s.rolls-Tuple (bare pairs))) (tuple (bare pairs) (each_bare P pairs))
  scheme_case (layer.Set pair) = subst P (sym (s.rolls-Set pair.0)) (set pair.0 pair.1)
  scheme_case (layer.Element pair) = subst P (sym (s.rolls-Element pair.0)) (element pair.0 pair.1)
  scheme_case (layer.Part pair at count) = subst P (sym (s.rolls-Part pair.0 at count)) (part pair.0 at count pair.1)

  pub scheme_induction : (x : Scheme) → P x
  scheme_induction = ind-Scheme P (λ x l is. subst (λ z. P (roll-Scheme z)) is (scheme_case l))

module _ (m : Meaning) where
  stands_layer : (l : layer.Scheme-F Scheme) → stands m (roll-Scheme l) ≡ stands_step m (map-Scheme Scheme (Option Ty) (stands m) l)
  unfolding stands
  stands_layer l = fold-roll-Scheme (Option Ty) (stands_step m) l

  pub stands_unknown : (k : ℕ) → stands m (s.Unknown k) ≡ Some (m k)
  stands_unknown k = ap (stands m) (sym (s.rolls-Unknown k)) ∙ stands_layer (layer.Unknown k)

  pub stands_int : stands m s.Int ≡ Some t.Int
  stands_int = ap (stands m) (sym s.rolls-Int) ∙ stands_layer layer.Int

  pub stands_bool : stands m s.Bool ≡ Some t.Bool
  stands_bool = ap (stands m) (sym s.rolls-Bool) ∙ stands_layer layer.Bool

  pub stands_text : stands m s.Text ≡ Some t.Text
  stands_text = ap (stands m) (sym s.rolls-Text) ∙ stands_layer layer.Text

  pub stands_proc : stands m s.Proc ≡ Some t.Proc
  stands_proc = ap (stands m) (sym s.rolls-Proc) ∙ stands_layer layer.Proc

  pub stands_tuple : (xs : List Scheme) → stands m (s.Tuple xs) ≡ given (all_types (map (stands m) xs)) (λ types. Some (t.Tuple types))
  stands_tuple xs = ap (stands m) (sym (s.rolls-Tuple xs)) ∙ stands_layer (layer.Tuple xs)

  pub stands_set : (x : Scheme) → stands m (s.Set x) ≡ given (stands m x) (λ ty. Some (t.Set ty))
  stands_set x = ap (stands m) (sym (s.rolls-Set x)) ∙ stands_layer (layer.Set x)

  pub stands_element : (x : Scheme) → stands m (s.Element x) ≡ given (stands m x) element_of
  stands_element x = ap (stands m) (sym (s.rolls-Element x)) ∙ stands_layer (layer.Element x)

  pub stands_part : (x : Scheme) (at count : ℕ) → stands m (s.Part x at count) ≡ given (stands m x) (part_of at count)
  stands_part x at count = ap (stands m) (sym (s.rolls-Part x at count)) ∙ stands_layer (layer.Part x at count)

reach_layer : (l : layer.Scheme-F Scheme) → reach (roll-Scheme l) ≡ reach_step (map-Scheme Scheme ℕ reach l)
unfolding reach
reach_layer l = fold-roll-Scheme ℕ reach_step l

pub reach_unknown : (k : ℕ) → reach (s.Unknown k) ≡ suc k
reach_unknown k = ap reach (sym (s.rolls-Unknown k)) ∙ reach_layer (layer.Unknown k)

pub reach_tuple : (xs : List Scheme) → reach (s.Tuple xs) ≡ highest (map reach xs)
reach_tuple xs = ap reach (sym (s.rolls-Tuple xs)) ∙ reach_layer (layer.Tuple xs)

pub reach_set : (x : Scheme) → reach (s.Set x) ≡ reach x
reach_set x = ap reach (sym (s.rolls-Set x)) ∙ reach_layer (layer.Set x)

pub reach_element : (x : Scheme) → reach (s.Element x) ≡ reach x
reach_element x = ap reach (sym (s.rolls-Element x)) ∙ reach_layer (layer.Element x)

pub reach_part : (x : Scheme) (at count : ℕ) → reach (s.Part x at count) ≡ reach x
reach_part x at count = ap reach (sym (s.rolls-Part x at count)) ∙ reach_layer (layer.Part x at count)

-- what it stands for depends on the numbers in it
module _ (size : ℕ) (m n : Meaning) (agree : Agree size m n) where
  abbrev Keeps : Scheme → Type 0
  Keeps x = IsKnown size x → stands n x ≡ stands m x

  keeps_all : (xs : List Scheme) → AllByRecursion Keeps xs → highest (map reach xs) ≤ size → map (stands n) xs ≡ map (stands m) xs
  keeps_all [] each known = refl
  keeps_all (x ∷ xs) each known =
      ap (λ z. z ∷ map (stands n) xs) (each.0 (omega (arith, known))) ∙ ap (λ zs. stands m x ∷ zs) (keeps_all xs each.1 (omega (arith, known)))

  pub stands_agree : (x : Scheme) → IsKnown size x → stands n x ≡ stands m x
  stands_agree = scheme_induction Keeps
      (λ k known. stands_unknown n k ∙ ap (λ z. Some z) (agree k (omega (arith, known, reach_unknown k))) ∙ sym (stands_unknown m k))
      (λ known. stands_int n ∙ sym (stands_int m))
      (λ known. stands_bool n ∙ sym (stands_bool m))
      (λ known. stands_text n ∙ sym (stands_text m))
      (λ known. stands_proc n ∙ sym (stands_proc m))
      (λ xs each known. stands_tuple n xs ∙ ap (λ zs. given (all_types zs) (λ types. Some (t.Tuple types))) (keeps_all xs each (subst (λ z. z ≤ size) (reach_tuple xs) known)) ∙ sym (stands_tuple m xs))
      (λ x before known. stands_set n x ∙ ap (λ z. given z (λ ty. Some (t.Set ty))) (before (subst (λ z. z ≤ size) (reach_set x) known)) ∙ sym (stands_set m x))
      (λ x before known. stands_element n x ∙ ap (λ z. given z element_of) (before (subst (λ z. z ≤ size) (reach_element x) known)) ∙ sym (stands_element m x))
      (λ x at count before known. stands_part n x at count ∙ ap (λ z. given z (part_of at count)) (before (subst (λ z. z ≤ size) (reach_part x at count) known)) ∙ sym (stands_part m x at count))
