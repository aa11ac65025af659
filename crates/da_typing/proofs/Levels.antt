-- Whether a type has at most so many levels, by its form.
use Rattle.std.specs.Prelude.{◌≡◌, ℕ, suc, ◌-◌, max, nat_le, nat_lt, true, ◌&&◌, List, [], ◌∷◌, map}
use Rattle.std.specs.List.{list_all}
use Rattle.std.proofs.Common.{◌∙◌, ap, sym, arith}
use Rattle.std.proofs.lemmas.Bool.Decides.{nat_tests}
use Rattle.da_values.specs.Nesting.{deepest}
use Rattle.da_lang.specs.declared.ty.Ty.{Ty}
use Rattle.da_lang.specs.declared.ty.Ty.TheVariants as t
use Rattle.da_lang.specs.Types.{levels, is_flat, most_levels}
use Rattle.da_lang.proofs.typing.TypesAt.{levels-Int, levels-Bool, levels-Text, levels-Proc, levels-Tuple, levels-Set}

within_both : (a b most : ℕ) → nat_le (max a b) most ≡ (nat_le a most && nat_le b most)
within_both a b most = grind (arith, nat_tests)

within_one : (n most : ℕ) → nat_le (suc n) most ≡ (nat_lt 0 most && nat_le n (most - 1))
within_one n most = grind (arith, nat_tests)

within_nothing : (most : ℕ) → nat_le 0 most ≡ true
within_nothing most = grind (arith, nat_tests)

deepest_within : (types : List Ty) (most : ℕ) → nat_le (deepest (map levels types)) most ≡ list_all (λ ty. nat_le (levels ty) most) types
deepest_within [] most = within_nothing most
deepest_within (ty ∷ types) most = within_both (levels ty) (deepest (map levels types)) most ∙ ap (λ rest. nat_le (levels ty) most && rest) (deepest_within types most)

pub within-Int : (most : ℕ) → nat_le (levels t.Int) most ≡ true
within-Int most = ap (λ n. nat_le n most) levels-Int ∙ within_nothing most

pub within-Bool : (most : ℕ) → nat_le (levels t.Bool) most ≡ true
within-Bool most = ap (λ n. nat_le n most) levels-Bool ∙ within_nothing most

pub within-Text : (most : ℕ) → nat_le (levels t.Text) most ≡ true
within-Text most = ap (λ n. nat_le n most) levels-Text ∙ within_nothing most

pub within-Proc : (most : ℕ) → nat_le (levels t.Proc) most ≡ true
within-Proc most = ap (λ n. nat_le n most) levels-Proc ∙ within_nothing most

pub within-Tuple : (parts : List Ty) (most : ℕ) → nat_le (levels (t.Tuple parts)) most ≡ (nat_lt 0 most && list_all (λ ty. nat_le (levels ty) (most - 1)) parts)
within-Tuple parts most =
    ap (λ n. nat_le n most) (levels-Tuple parts)
    ∙ within_one (deepest (map levels parts)) most
    ∙ ap (λ rest. nat_lt 0 most && rest) (deepest_within parts (most - 1))

pub within-Set : (element : Ty) (most : ℕ) → nat_le (levels (t.Set element)) most ≡ (nat_lt 0 most && nat_le (levels element) (most - 1))
within-Set element most = ap (λ n. nat_le n most) (levels-Set element) ∙ within_one (levels element) most

pub within_set : (element : Ty) → nat_le (levels element) 31 ≡ is_flat (t.Set element)
unfolding most_levels
within_set element = sym (within-Set element 32)

pub ruleset levels_at = (within-Int, within-Bool, within-Text, within-Proc, within-Tuple, within-Set)
