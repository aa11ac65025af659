-- The types of conditions, of sides and of aggregates, by their forms.
use Rattle.std.specs.Prelude.{◌≡◌, refl, ◌&&◌, if◌then◌else◌, List, [], ◌∷◌, map, Option, Some, None, option_map}
use Rattle.std.specs.List.{list_all}
use Rattle.std.proofs.Common.{◌∙◌, ap, sym}
use Rattle.std.proofs.lemmas.List.Folds.{list_all-map}
use Rattle.da_lang.specs.declared.query.Agg.{Agg, out-Agg, roll-out-Agg}
use Rattle.da_lang.specs.declared.query.Cond.{Cond}
use Rattle.da_lang.specs.declared.query.Cond.TheVariants as co
use Rattle.da_lang.specs.declared.query.Operand.{Operand}
use Rattle.da_lang.specs.declared.query.Operand.TheVariants as od
use Rattle.da_lang.specs.declared.query.SignedOperand.{SignedOperand, out-SignedOperand, roll-out-SignedOperand}
use Rattle.da_lang.specs.declared.ty.Ty.{Ty}
use Rattle.da_lang.specs.declared.ty.Ty.TheVariants as t
use Rattle.da_lang.specs.QueryTypes.{Known, given, plain, is_operand, cond_holds, operand_side, agg_side, signed_side, rows_where, written_cond}
use Rattle.da_lang.proofs.typing.QueryTypesAt.{cond_holds_at-Truth, cond_holds_at-Cmp, cond_holds_at-Not, cond_holds_at-And, cond_holds_at-Or, cond_holds_at-Quant, operand_side_at-Term, operand_side_at-Agg, operand_side_at-Chain, agg_side_at-of, signed_side_at-of}
use Rattle.da_typing.specs.Aggregates.{agg_found}

pub holds-And : (known : Known) (xs : List Cond) (row : List Ty) → cond_holds known (co.And xs) row ≡ list_all (λ x. cond_holds known x row) xs
holds-And known xs row = cond_holds_at-And known xs row ∙ list_all-map (λ x. x row) (cond_holds known) xs

pub holds-Or : (known : Known) (xs : List Cond) (row : List Ty) → cond_holds known (co.Or xs) row ≡ list_all (λ x. cond_holds known x row) xs
holds-Or known xs row = cond_holds_at-Or known xs row ∙ list_all-map (λ x. x row) (cond_holds known) xs

pub ruleset cond_rules = (cond_holds_at-Truth, cond_holds_at-Cmp, cond_holds_at-Not, holds-And, holds-Or, cond_holds_at-Quant)

signed_is : (known : Known) (s : SignedOperand) (row : List Ty) → signed_side known s row ≡ operand_side known (out-SignedOperand s).operand row
signed_is known s row =
    ap (λ (x : SignedOperand). signed_side known x row) (sym (roll-out-SignedOperand s))
    ∙ signed_side_at-of known (out-SignedOperand s).minus (out-SignedOperand s).operand row

all_signed : (known : Known) (more : List SignedOperand) (row : List Ty) → list_all (λ y. is_operand (y row)) (map (signed_side known) more) ≡ list_all (λ s. is_operand (operand_side known (out-SignedOperand s).operand row)) more
all_signed known [] row = refl
all_signed known (s ∷ more) row =
    ap (λ side. is_operand side && list_all (λ y. is_operand (y row)) (map (signed_side known) more)) (signed_is known s row)
    ∙ ap (λ rest. is_operand (operand_side known (out-SignedOperand s).operand row) && rest) (all_signed known more row)

pub side-Chain : (known : Known) (x : Operand) (more : List SignedOperand) (row : List Ty) → operand_side known (od.Chain x more) row ≡ (if is_operand (operand_side known x row) && list_all (λ s. is_operand (operand_side known (out-SignedOperand s).operand row)) more then plain t.Int else None)
side-Chain known x more row =
    operand_side_at-Chain known x more row
    ∙ ap (λ rest. if is_operand (operand_side known x row) && rest then plain t.Int else None) (all_signed known more row)

pub ruleset side_rules = (operand_side_at-Term, operand_side_at-Agg, side-Chain)

nested : {A B C : Type 0} (x : Option A) (f : A → Option B) (g : B → Option C) → given (given x f) g ≡ given x (λ y. given (f y) g)
nested None f g = refl
nested (Some x) f g = refl

pub side_of_aggregate : (known : Known) (a : Agg) (row : List Ty) →
    agg_side known a row ≡ given (rows_where known (out-Agg a).gens (option_map (cond_holds known) (out-Agg a).cond) row) (λ found. agg_found known (out-Agg a).op (out-Agg a).term (out-Agg a).other found row)
side_of_aggregate known a row =
    let b = out-Agg a in
    ap (λ (x : Agg). agg_side known x row) (sym (roll-out-Agg a))
    ∙ agg_side_at-of known b.op b.gens b.cond b.term b.other row
    ∙ nested (rows_where known b.gens (option_map (cond_holds known) b.cond) row) _ _

pub written_as : (known : Known) (cond : Option Cond) → written_cond known cond ≡ option_map (cond_holds known) cond
written_as known None = refl
written_as known (Some cond) = refl
