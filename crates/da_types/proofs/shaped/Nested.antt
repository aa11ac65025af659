-- In a value of a type no more tuples and sets stand in one another than the type has levels.
use Rattle.std.specs.Prelude.{◌≡◌, ℕ, suc, ◌≤◌, true, List, [], ◌∷◌, map}
use Rattle.std.specs.List.{AllByRecursion, list_all}
use Rattle.std.proofs.Common.{◌∙◌, ap, sym, arith}
use Rattle.std.proofs.lemmas.Bool.{false≢true, and_parts, leb-true}
use Rattle.da_values.specs.declared.val.Val.{Val, out-Val, roll-out-Val}
use Rattle.da_values.specs.declared.val.Val.TheOpen as vo
use Rattle.da_values.specs.declared.val.Val.TheOpen.{Val-F}
use Rattle.da_values.specs.declared.val.Val.TheFolds.{fold-roll-Val, map-Val}
use Rattle.da_values.specs.Nesting.{deepest, nesting, nesting_step}
use Rattle.da_lang.specs.declared.ty.Ty.{Ty}
use Rattle.da_lang.specs.Types.{all_of, bool_value, int_value, is_flat, is_of, levels, most_levels, proc_value, set_value, text_value, tuple_value}
use Rattle.da_lang.proofs.WorldLaws.{ty_induction}
use Rattle.da_lang.proofs.typing.TypesAt.{is_of_at-Int, is_of_at-Bool, is_of_at-Text, is_of_at-Proc, is_of_at-Tuple, is_of_at-Set, levels-Tuple, levels-Set}

-- by a layer of the value
abbrev layer_nesting : Val-F Val → ℕ
layer_nesting x = nesting_step (map-Val Val ℕ nesting x)

nesting_by : (v : Val) → nesting v ≡ layer_nesting (out-Val v)
nesting_by v = ap nesting (sym (roll-out-Val v)) ∙ fold-roll-Val ℕ nesting_step (out-Val v)

-- what holds of a layer holds of the value
within : (v : Val) (most : ℕ) → layer_nesting (out-Val v) ≤ most → nesting v ≤ most
within v most few = omega (arith, nesting_by v, few)

int_nests : (x : Val-F Val) (most : ℕ) → int_value x ≡ true → layer_nesting x ≤ most
int_nests (vo.Int number) most e = omega arith
int_nests _ most e = absurd (false≢true e)

bool_nests : (x : Val-F Val) (most : ℕ) → bool_value x ≡ true → layer_nesting x ≤ most
bool_nests (vo.Bool truth) most e = omega arith
bool_nests _ most e = absurd (false≢true e)

text_nests : (x : Val-F Val) (most : ℕ) → text_value x ≡ true → layer_nesting x ≤ most
text_nests (vo.Text bytes) most e = omega arith
text_nests _ most e = absurd (false≢true e)

proc_nests : (x : Val-F Val) (most : ℕ) → proc_value x ≡ true → layer_nesting x ≤ most
proc_nests (vo.Proc process) most e = omega arith
proc_nests _ most e = absurd (false≢true e)

abbrev NestsWithin : Ty → Type 0
NestsWithin ty = (v : Val) → is_of ty v ≡ true → nesting v ≤ levels ty

-- part by part
parts_nest : (types : List Ty) (vs : List Val) → AllByRecursion NestsWithin types → all_of (map is_of types) vs ≡ true → deepest (map nesting vs) ≤ deepest (map levels types)
parts_nest [] [] each e = omega arith
parts_nest [] (v ∷ vs) each e = absurd (false≢true e)
parts_nest (ty ∷ types) [] each e = absurd (false≢true e)
parts_nest (ty ∷ types) (v ∷ vs) each e =
    let both = and_parts (is_of ty v) (all_of (map is_of types) vs) e in
    omega (arith, each.0 v both.0, parts_nest types vs each.1 both.1)

tuple_nests : (types : List Ty) (x : Val-F Val) → AllByRecursion NestsWithin types → tuple_value (map is_of types) x ≡ true → layer_nesting x ≤ suc (deepest (map levels types))
tuple_nests types (vo.Tuple vs) each e = let parts = parts_nest types vs each e in omega (arith, parts)
tuple_nests types _ each e = absurd (false≢true e)

elements_nest : (ty : Ty) (vs : List Val) → NestsWithin ty → list_all (is_of ty) vs ≡ true → deepest (map nesting vs) ≤ levels ty
elements_nest ty [] each e = omega arith
elements_nest ty (v ∷ vs) each e =
    let both = and_parts (is_of ty v) (list_all (is_of ty) vs) e in
    omega (arith, each v both.0, elements_nest ty vs each both.1)

set_nests : (ty : Ty) (x : Val-F Val) → NestsWithin ty → set_value (is_of ty) x ≡ true → layer_nesting x ≤ suc (levels ty)
set_nests ty (vo.Set vs) each e = let elements = elements_nest ty vs each e in omega (arith, elements)
set_nests ty _ each e = absurd (false≢true e)

nests_within : (ty : Ty) → NestsWithin ty
nests_within =
    ty_induction NestsWithin
    (λ v e. within v _ (int_nests (out-Val v) _ (sym (is_of_at-Int v) ∙ e)))
    (λ v e. within v _ (bool_nests (out-Val v) _ (sym (is_of_at-Bool v) ∙ e)))
    (λ v e. within v _ (text_nests (out-Val v) _ (sym (is_of_at-Text v) ∙ e)))
    (λ v e. within v _ (proc_nests (out-Val v) _ (sym (is_of_at-Proc v) ∙ e)))
    (λ types each v e. let few = tuple_nests types (out-Val v) each (sym (is_of_at-Tuple types v) ∙ e) in within v _ (omega (arith, few, levels-Tuple types)))
    (λ ty each v e. let few = set_nests ty (out-Val v) each (sym (is_of_at-Set ty v) ∙ e) in within v _ (omega (arith, few, levels-Set ty)))

-- a value of a type that has at most 32 levels
pub flat_nests : (ty : Ty) (v : Val) → is_flat ty ≡ true → is_of ty v ≡ true → nesting v ≤ 32
unfolding most_levels
flat_nests ty v flat e = omega (arith, leb-true (levels ty) 32 flat, nests_within ty v e)
