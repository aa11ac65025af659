-- Demands are met by equations, by types that there are, and by what is asked of types.
use Rattle.std.specs.Prelude.{◌≡◌, refl, ℕ, zero, suc, ◌≤◌, ◌==◌, Bool, true, false, ◌&&◌, if◌then◌else◌, List, [], ◌∷◌, ◌++◌, map, length, Option, Some, None, is_some, Result, OnOk}
use Rattle.std.specs.List.{AllByRecursion}
use Rattle.std.proofs.Common.{◌∙◌, ap, ap₂, sym, subst, arith}
use Rattle.std.proofs.lemmas.Result.{on_ok_weaker}
use Rattle.std.proofs.lemmas.Bool.{and_parts, and_from, ne_eqb}
use Rattle.da_lang.specs.declared.ty.Ty.{Ty}
use Rattle.da_lang.specs.declared.ty.Ty.TheVariants as t
use Rattle.da_lang.specs.QueryTypes.{given, holds_of, is_typed}
use Rattle.da_lang.specs.Types.{is_int, is_bool, is_set, ordered, is_flat, parts_of, element_of, bool_in, same_type, all_same, tuple_same}
use Rattle.da_lang.proofs.typing.TypesAt.{same_type_at-Int, same_type_at-Bool, same_type_at-Tuple}
use Rattle.type_choice.specs.Choice.{is_added}
use Rattle.type_table.specs.declared.scheme.Scheme.{Scheme, roll-Scheme}
use Rattle.type_table.specs.declared.scheme.Scheme.TheFolds.{fold-roll-Scheme, map-Scheme}
use Rattle.type_table.specs.declared.scheme.Scheme.TheOpen as layer
use Rattle.type_table.specs.declared.scheme.Scheme.TheVariants as s
use Rattle.type_table.specs.Draws.{Agree}
use Rattle.type_table.specs.Fits.{Meaning}
use Rattle.type_table.specs.Schemes.{stands, part_in, part_of, highest, reach, reach_step, IsKnown}
use Rattle.type_table.proofs.SchemeLaws.{stands_int, stands_bool, stands_tuple, stands_element, stands_part, reach_tuple, reach_element, reach_part, stands_agree}
use Rattle.type_demands.specs.declared.demand.Demand.{Demand}
use Rattle.type_demands.specs.declared.demand.Demand.TheVariants as d
use Rattle.type_demands.specs.Demands.{met, all_met, has_width, is_single, is_recipient}
use Rattle.type_fitting.specs.Fit.{Knows}
use Rattle.type_fitting.specs.declared.table.Table.{Table}
use Rattle.type_fitting.specs.Listed.{always, is_met}
use Rattle.type_fitting.specs.Notes.{Puts}
use Rattle.type_fitting.proofs.PutLaws.{puts_as}

-- what is met depends on the first numbers alone
module _ (size : ℕ) (m n : Meaning) (agree : Agree size m n) where
  pub met_agree : (x : Demand) → Knows size x → met n always x ≡ met m always x
  met_agree d.Never known = refl
  met_agree (d.Same asked x) known = ap₂ (λ o p. holds_of o (is_typed p)) (stands_agree size m n agree asked known.0) (stands_agree size m n agree x known.1)
  met_agree (d.Int x) known = ap (λ o. holds_of o is_int) (stands_agree size m n agree x known)
  met_agree (d.Truth x) known = ap (λ o. holds_of o is_bool) (stands_agree size m n agree x known)
  met_agree (d.Width x count) known = ap (λ o. holds_of (given o parts_of) (has_width count)) (stands_agree size m n agree x known)
  met_agree (d.Elements x) known = ap (λ o. holds_of o is_set) (stands_agree size m n agree x known)
  met_agree (d.Ordered x) known = ap (λ o. holds_of o ordered) (stands_agree size m n agree x known)
  met_agree (d.Adds x) known = ap (λ o. holds_of o is_added) (stands_agree size m n agree x known)
  met_agree (d.Single x) known = ap (λ o. holds_of o is_single) (stands_agree size m n agree x known)
  met_agree (d.Receives x) known = ap (λ o. holds_of o is_recipient) (stands_agree size m n agree x known)
  met_agree (d.Flat x) known = ap (λ o. holds_of o is_flat) (stands_agree size m n agree x known)
  met_agree (d.Uses slot) known = refl

  pub all_met_agree : (xs : List Demand) → AllByRecursion (Knows size) xs → all_met n always xs ≡ all_met m always xs
  all_met_agree [] known = refl
  all_met_agree (x ∷ xs) known = ap₂ (λ a b. a && b) (met_agree x known.0) (all_met_agree xs known.1)

-- more numbers
more_known : (a b : ℕ) (x : Scheme) → a ≤ b → IsKnown a x → IsKnown b x
more_known a b x le known = omega (arith, le, known)

pub knows_more : (a b : ℕ) (x : Demand) → a ≤ b → Knows a x → Knows b x
knows_more a b d.Never le known = tt
knows_more a b (d.Same asked x) le known = (more_known a b asked le known.0, more_known a b x le known.1)
knows_more a b (d.Int x) le known = more_known a b x le known
knows_more a b (d.Truth x) le known = more_known a b x le known
knows_more a b (d.Width x count) le known = more_known a b x le known
knows_more a b (d.Elements x) le known = more_known a b x le known
knows_more a b (d.Ordered x) le known = more_known a b x le known
knows_more a b (d.Adds x) le known = more_known a b x le known
knows_more a b (d.Single x) le known = more_known a b x le known
knows_more a b (d.Receives x) le known = more_known a b x le known
knows_more a b (d.Flat x) le known = more_known a b x le known
knows_more a b (d.Uses slot) le known = tt

-- demands in a row
pub all_met_push : (m : Meaning) (xs : List Demand) (x : Demand) → all_met m always xs ≡ true → met m always x ≡ true → all_met m always (xs ++ x ∷ []) ≡ true
all_met_push m [] x all is = and_from (met m always x) true is refl
all_met_push m (y ∷ ys) x all is =
    let both = and_parts (met m always y) (all_met m always ys) all in
    and_from (met m always y) (all_met m always (ys ++ x ∷ [])) both.0 (all_met_push m ys x both.1 is)

pub all_met_split : (m : Meaning) (xs : List Demand) (x : Demand) → all_met m always (xs ++ x ∷ []) ≡ true → (all_met m always xs ≡ true) × (met m always x ≡ true)
all_met_split m [] x all = (refl, (and_parts (met m always x) true all).0)
all_met_split m (y ∷ ys) x all =
    let both = and_parts (met m always y) (all_met m always (ys ++ x ∷ [])) all in
    let rest = all_met_split m ys x both.1 in
    (and_from (met m always y) (all_met m always ys) both.0 rest.0, rest.1)

abbrev some_in : Option Ty → Bool
some_in o = elim o [ Some element ↦ true | None ↦ false ]

abbrev none_where : Bool → Option Ty
none_where b = if b then None else None

abbrev no_parts : Ty → Bool
no_parts ty = tuple_same [] (parts_of ty)

-- what is met where other things are asked
module _ (m : Meaning) where
  pub never_is : false ≡ holds_of (stands m s.Int) (is_typed (stands m s.Bool))
  never_is = sym (ap₂ (λ o p. holds_of o (is_typed p)) (stands_int m) (stands_bool m) ∙ same_type_at-Bool t.Int ∙ ap bool_in t.outs-Int)

  by_type : (asked : Ty) (other : Scheme) (test : Ty → Bool) → stands m other ≡ Some asked → ((ty : Ty) → same_type asked ty ≡ test ty) → (o : Option Ty) → holds_of o test ≡ holds_of o (is_typed (stands m other))
  by_type asked other test there is None = refl
  by_type asked other test there is (Some ty) = sym (ap (λ p. is_typed p ty) there ∙ is ty)

  pub int_is : (x : Scheme) → met m always (d.Int x) ≡ holds_of (stands m x) (is_typed (stands m s.Int))
  int_is x = by_type t.Int s.Int is_int (stands_int m) same_type_at-Int (stands m x)

  pub truth_is : (x : Scheme) → met m always (d.Truth x) ≡ holds_of (stands m x) (is_typed (stands m s.Bool))
  truth_is x = by_type t.Bool s.Bool is_bool (stands_bool m) same_type_at-Bool (stands m x)

  pub elements_are : (x : Scheme) → met m always (d.Elements x) ≡ is_some (stands m (s.Element x))
  elements_are x = go (stands m x) ∙ ap is_some (sym (stands_element m x))
    where
      inner : (o : Option Ty) → some_in o ≡ is_some o
      inner None = refl
      inner (Some ty) = refl

      go : (o : Option Ty) → holds_of o is_set ≡ is_some (given o element_of)
      go None = refl
      go (Some ty) = inner (element_of ty)

  -- a tuple of one part or more
  pub width_is : (x : Scheme) (more : ℕ) → met m always (d.Width x (suc more)) ≡ is_some (stands m (s.Part x 0 (suc more)))
  width_is x more = go (stands m x) ∙ ap is_some (sym (stands_part m x 0 (suc more)))
    where
      neither : (b : Bool) → false ≡ is_some (none_where b)
      neither true = refl
      neither false = refl

      by_test : (ty : Ty) (b : Bool) → b ≡ is_some (if b then Some ty else None)
      by_test ty true = refl
      by_test ty false = refl

      first : (types : List Ty) → has_width (suc more) types ≡ is_some (part_in 0 (suc more) types)
      first [] = ne_eqb 0 (suc more) (λ e. omega (arith, e)) ∙ neither (0 == suc more)
      first (ty ∷ types) = by_test ty (length (ty ∷ types) == suc more)

      inner : (o : Option (List Ty)) → holds_of o (has_width (suc more)) ≡ is_some (given o (part_in 0 (suc more)))
      inner None = refl
      inner (Some types) = first types

      go : (o : Option Ty) → holds_of (given o parts_of) (has_width (suc more)) ≡ is_some (given o (part_of 0 (suc more)))
      go None = refl
      go (Some ty) = inner (parts_of ty)

  -- a tuple of no parts
  pub empty_is : (x : Scheme) → met m always (d.Width x 0) ≡ holds_of (stands m x) (is_typed (stands m (s.Tuple [])))
  empty_is x = outer (stands m x) ∙ by_type (t.Tuple []) (s.Tuple []) no_parts (stands_tuple m []) same_type_at-Tuple-none (stands m x)
    where
      same_type_at-Tuple-none : (ty : Ty) → same_type (t.Tuple []) ty ≡ no_parts ty
      same_type_at-Tuple-none ty = same_type_at-Tuple [] ty

      first : (types : List Ty) → has_width 0 types ≡ all_same [] types
      first [] = refl
      first (ty ∷ types) = ne_eqb (length (ty ∷ types)) 0 (λ e. omega (arith, e))

      inner : (o : Option (List Ty)) → holds_of o (has_width 0) ≡ tuple_same [] o
      inner None = refl
      inner (Some types) = first types

      outer : (o : Option Ty) → holds_of (given o parts_of) (has_width 0) ≡ holds_of o no_parts
      outer None = refl
      outer (Some ty) = inner (parts_of ty)

-- the unknown types of what is asked
reach_leaf : (l : layer.Scheme-F Scheme) → reach (roll-Scheme l) ≡ reach_step (map-Scheme Scheme ℕ reach l)
unfolding reach
reach_leaf l = fold-roll-Scheme ℕ reach_step l

pub int_known : (size : ℕ) → IsKnown size s.Int
int_known size = let e : reach s.Int ≡ 0 = ap reach (sym s.rolls-Int) ∙ reach_leaf layer.Int in omega (arith, e)

pub bool_known : (size : ℕ) → IsKnown size s.Bool
bool_known size = let e : reach s.Bool ≡ 0 = ap reach (sym s.rolls-Bool) ∙ reach_leaf layer.Bool in omega (arith, e)

pub empty_known : (size : ℕ) (x : Scheme) (parts : List Scheme) → x ≡ s.Tuple parts → parts ≡ [] → IsKnown size x
empty_known size x parts is none = let e : reach x ≡ 0 = ap reach is ∙ reach_tuple parts ∙ ap (λ zs. highest (map reach zs)) none in omega (arith, e)

pub part_known : (size : ℕ) (x part : Scheme) (count : ℕ) → part ≡ s.Part x 0 count → IsKnown size x → IsKnown size part
part_known size x part count is known = let e : reach part ≡ reach x = ap reach is ∙ reach_part x 0 count in omega (arith, e, known)

pub element_known : (size : ℕ) (x element : Scheme) → element ≡ s.Element x → IsKnown size x → IsKnown size element
element_known size x element is known = let e : reach element ≡ reach x = ap reach is ∙ reach_element x in omega (arith, e, known)

-- a demand is put where the other things are
module _ (old new : Table) where
  pub never_puts : Puts old new (is_met (d.Same s.Int s.Bool)) → Puts old new (is_met d.Never)
  never_puts p = puts_as old new (is_met (d.Same s.Int s.Bool)) (is_met d.Never) never_is p

  pub int_puts : (x : Scheme) → Puts old new (is_met (d.Same x s.Int)) → Puts old new (is_met (d.Int x))
  int_puts x p = puts_as old new (is_met (d.Same x s.Int)) (is_met (d.Int x)) (λ m. int_is m x) p

  pub truth_puts : (x : Scheme) → Puts old new (is_met (d.Same x s.Bool)) → Puts old new (is_met (d.Truth x))
  truth_puts x p = puts_as old new (is_met (d.Same x s.Bool)) (is_met (d.Truth x)) (λ m. truth_is m x) p

  pub empty_puts : (x empty : Scheme) (parts : List Scheme) → empty ≡ s.Tuple parts → parts ≡ [] → Puts old new (is_met (d.Same x empty)) → Puts old new (is_met (d.Width x 0))
  empty_puts x empty parts is none p =
      puts_as old new (is_met (d.Same x empty)) (is_met (d.Width x 0)) (λ m. empty_is m x ∙ ap (λ z. holds_of (stands m x) (is_typed (stands m z))) (sym (is ∙ ap s.Tuple none))) p

  pub parts_puts : (x part : Scheme) (count : ℕ) → (count ≡ 0 → ⊥) → part ≡ s.Part x 0 count → Puts old new (λ m. is_some (stands m part)) → Puts old new (is_met (d.Width x count))
  parts_puts x part zero some is p = absurd (some refl)
  parts_puts x part (suc more) some is p =
      puts_as old new (λ m. is_some (stands m part)) (is_met (d.Width x (suc more))) (λ m. width_is m x more ∙ ap (λ z. is_some (stands m z)) (sym is)) p

  pub elements_puts : (x element : Scheme) → element ≡ s.Element x → Puts old new (λ m. is_some (stands m element)) → Puts old new (is_met (d.Elements x))
  elements_puts x element is p = puts_as old new (λ m. is_some (stands m element)) (is_met (d.Elements x)) (λ m. elements_are m x ∙ ap (λ z. is_some (stands m z)) (sym is)) p

pub put_as : {T E : Type 0} (r : Result T E) (old new : Table) (x y : Demand) → y ≡ x → OnOk r (Puts old new (is_met x)) → OnOk r (Puts old new (is_met y))
put_as r old new x y is put = on_ok_weaker r (λ p. subst (λ z. Puts old new (is_met z)) (sym is) p) put
