-- What stands for declared types, by their forms.
use Rattle.std.specs.Prelude.{◌≡◌, refl, ℕ, zero, suc, ◌+◌, ◌*◌, ◌-◌, ◌<◌, List, map, Option, Some, None, option_map}
use Rattle.std.proofs.Common.{◌∙◌, ap, sym, arith}
use Rattle.da_lang.specs.declared.ty.Ty.{Ty, roll-Ty}
use Rattle.da_lang.specs.declared.ty.Ty.TheFolds.{fold-roll-Ty, map-Ty}
use Rattle.da_lang.specs.declared.ty.Ty.TheOpen as layer
use Rattle.da_lang.specs.declared.ty.Ty.TheVariants as t
use Rattle.da_lang.specs.QueryTypes.{given}
use Rattle.da_lang.specs.Types.{element_of}
use Rattle.class_demands.specs.Unknowns.{depth, digit, inside, number_in, number_step, unknown_in}
use Rattle.class_demands.proofs.UnknownLaws.{written-Int, written-Bool, written-Text, written-Proc, written-Tuple, written-Set}

pub unknown_at : (x : Ty) → unknown_in x ≡ given (inside depth x) number_in
unfolding unknown_in
unknown_at x = refl

pub inside_none : (count : ℕ) (x : Ty) → count ≡ 0 → inside count x ≡ Some x
inside_none zero x none = refl
inside_none (suc n) x none = absurd (omega arith)

pub inside_more : (count : ℕ) (x : Ty) → 0 < count → inside count x ≡ given (element_of x) (inside (count - 1))
inside_more zero x some = absurd (omega arith)
inside_more (suc n) x some = let e : n ≡ suc n - 1 = omega arith in ap (λ k. given (element_of x) (inside k)) e

pub ruleset inside_rules = (inside_none, inside_more, t.outs-Int, t.outs-Bool, t.outs-Text, t.outs-Proc, t.outs-Tuple, t.outs-Set)

number_layer : (y : layer.Ty-F Ty) → number_in (roll-Ty y) ≡ number_step (map-Ty Ty (Option ℕ) number_in y)
unfolding number_in
number_layer y = fold-roll-Ty (Option ℕ) number_step y

pub number-Int : number_in t.Int ≡ Some 0
number-Int = ap number_in (sym t.rolls-Int) ∙ number_layer layer.Int

pub number-Bool : number_in t.Bool ≡ None
number-Bool = ap number_in (sym t.rolls-Bool) ∙ number_layer layer.Bool

pub number-Text : number_in t.Text ≡ None
number-Text = ap number_in (sym t.rolls-Text) ∙ number_layer layer.Text

pub number-Proc : number_in t.Proc ≡ None
number-Proc = ap number_in (sym t.rolls-Proc) ∙ number_layer layer.Proc

pub number-Tuple : (xs : List Ty) → number_in (t.Tuple xs) ≡ digit (map number_in xs)
number-Tuple xs = ap number_in (sym (t.rolls-Tuple xs)) ∙ number_layer (layer.Tuple xs)

pub number-Set : (x : Ty) → number_in (t.Set x) ≡ option_map (λ n. 2 * n + 1) (number_in x)
number-Set x = ap number_in (sym (t.rolls-Set x)) ∙ number_layer (layer.Set x)

pub ruleset number_rules = (number-Int, number-Bool, number-Text, number-Proc, number-Tuple, number-Set)

pub ruleset written_rules = (written-Int, written-Bool, written-Text, written-Proc, written-Tuple, written-Set)
