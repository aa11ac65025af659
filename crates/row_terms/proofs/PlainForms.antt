-- Plain conditions and operands in a row, by their forms.
use Rattle.std.specs.Prelude.{◌≡◌, ℕ, ℤ, zero, suc, ◌+◌, ◌<◌, ◌+ℤ◌, neg_ℤ, Bool, true, false, ◌&&◌, if◌then◌else◌, List, [], ◌∷◌, length, map, refl}
use Rattle.std.specs.List.{list_all, list_any}
use Rattle.std.proofs.Common.{◌∙◌, ap, sym, arith, drop, get_or}
use Rattle.std.proofs.lemmas.Bool.{false≢true}
use Rattle.std.proofs.lemmas.Int.{ints}
use Rattle.std.proofs.lemmas.List.{at_drop_more}
use Rattle.da_values.specs.declared.val.Val.TheVariants as val
use Rattle.da_values.specs.Views.{int_of}
use Rattle.da_lang.specs.declared.query.Cond.{Cond}
use Rattle.da_lang.specs.declared.query.Cond.TheVariants as cond
use Rattle.da_lang.specs.declared.query.Cond.TheFolds.{fold_out-SignedOperand}
use Rattle.da_lang.specs.declared.query.Operand.{Operand}
use Rattle.da_lang.specs.declared.query.Operand.TheVariants as operand
use Rattle.da_lang.specs.declared.query.SignedOperand.{SignedOperand, out-SignedOperand}
use Rattle.da_lang.specs.Matching.{Row}
use Rattle.da_lang.specs.Queries.{Test, RowMeaning, Number, agg_step, cond_step, holds, operand_step, operand_value, signed_step, signed_value, total}
use Rattle.da_lang.specs.World.{Data}
use Rattle.da_lang.proofs.QueryLaws.{holds-Truth, holds-Cmp, holds-Not, holds-And, holds-Or, operand-Term, operand-Chain}
use Rattle.query_plan.specs.PlainNodes.{is_plain, is_plain_operand, is_plain_part}
use Rattle.query_plan.proofs.PlainAt.{plain-Truth, plain-Cmp, plain-Not, plain-And, plain-Or, plain-Quant, plain-Term, plain-Chain, plain-Agg}

-- what is plain has plain parts
pub both_left : (a b : Bool) → (a && b) ≡ true → a ≡ true
both_left true b is = refl
both_left false b is = absurd (false≢true is)

pub both_right : (a b : Bool) → (a && b) ≡ true → b ≡ true
both_right true b is = is
both_right false b is = absurd (false≢true is)

pub not_plain : (b : Cond) → is_plain (cond.Not b) ≡ true → is_plain b ≡ true
not_plain b is = sym (plain-Not b) ∙ is

pub and_plain : (bs : List Cond) → is_plain (cond.And bs) ≡ true → list_all is_plain bs ≡ true
and_plain bs is = sym (plain-And bs) ∙ is

pub or_plain : (bs : List Cond) → is_plain (cond.Or bs) ≡ true → list_all is_plain bs ≡ true
or_plain bs is = sym (plain-Or bs) ∙ is

pub first_plain : (a : Operand) (more : List SignedOperand) → is_plain_operand (operand.Chain a more) ≡ true → is_plain_operand a ≡ true
first_plain a more is = both_left (is_plain_operand a) (list_all is_plain_part more) (sym (plain-Chain a more) ∙ is)

pub more_plain : (a : Operand) (more : List SignedOperand) → is_plain_operand (operand.Chain a more) ≡ true → list_all is_plain_part more ≡ true
more_plain a more is = both_right (is_plain_operand a) (list_all is_plain_part more) (sym (plain-Chain a more) ∙ is)

-- one of them is plain
pub part_plain : (more : List SignedOperand) (k : ℕ) (s : SignedOperand) → list_all is_plain_part more ≡ true → k < length more → s ≡ get_or more k s → is_plain_part s ≡ true
part_plain [] k s all within is = absurd (omega (arith, within))
part_plain (x ∷ more) zero s all within is = ap is_plain_part is ∙ both_left (is_plain_part x) (list_all is_plain_part more) all
part_plain (x ∷ more) (suc k) s all within is = part_plain more k s (both_right (is_plain_part x) (list_all is_plain_part more) all) (omega (arith, within)) is

module _ (d : Data) (row : Row) where
  -- what holds of several
  pub holds_all : (b : Cond) (bs parts : List Cond) → b ≡ cond.And bs → parts ≡ bs → list_all (λ x. holds d x row) parts ≡ holds d b row
  holds_all b bs parts is same = ap (λ (xs : List Cond). list_all (λ x. holds d x row) xs) same ∙ sym (holds-And d row bs) ∙ sym (ap (λ (x : Cond). holds d x row) is)

  pub holds_any : (b : Cond) (bs parts : List Cond) → b ≡ cond.Or bs → parts ≡ bs → list_any (λ x. holds d x row) parts ≡ holds d b row
  holds_any b bs parts is same = ap (λ (xs : List Cond). list_any (λ x. holds d x row) xs) same ∙ sym (holds-Or d row bs) ∙ sym (ap (λ (x : Cond). holds d x row) is)

  -- a chain is the sum of its parts
  pub chain_value : (whole first : Operand) (more parts : List SignedOperand) (number sum : ℤ) → whole ≡ operand.Chain first more → parts ≡ more
      → number ≡ int_of (operand_value d first row) → sum ≡ number +ℤ total (map (λ s. signed_value d s row) parts) → val.Int sum ≡ operand_value d whole row
  chain_value whole first more parts number sum is same number_is sum_is =
      ap val.Int (sum_is ∙ ap (λ n. n +ℤ total (map (λ s. signed_value d s row) parts)) number_is ∙ ap (λ (xs : List SignedOperand). int_of (operand_value d first row) +ℤ total (map (λ s. signed_value d s row) xs)) same)
      ∙ sym (operand-Chain d row first more) ∙ sym (ap (λ (a : Operand). operand_value d a row) is)

  pub signed_out : (s : SignedOperand) → signed_value d s row ≡ (if (out-SignedOperand s).minus then neg_ℤ (int_of (operand_value d (out-SignedOperand s).operand row)) else int_of (operand_value d (out-SignedOperand s).operand row))
  signed_out s = ap (λ (f : Number). f row) (fold_out-SignedOperand Test RowMeaning RowMeaning Number (cond_step d) (operand_step d) (agg_step d) (signed_step d) s)

  sums : (sum next part rest left whole : ℤ) → next ≡ sum +ℤ part → left ≡ part +ℤ rest → sum +ℤ left ≡ whole → next +ℤ rest ≡ whole
  sums sum next part rest left whole step splits so_far = omega (arith, ints)

  -- one operand more, with its number
  pub sum_on : (more : List SignedOperand) (k : ℕ) (s : SignedOperand) (number sum next whole : ℤ) → k < length more → s ≡ get_or more k s
      → number ≡ int_of (operand_value d (out-SignedOperand s).operand row) → next ≡ sum +ℤ (if (out-SignedOperand s).minus then neg_ℤ number else number)
      → sum +ℤ total (map (λ x. signed_value d x row) (drop k more)) ≡ whole → next +ℤ total (map (λ x. signed_value d x row) (drop (k + 1) more)) ≡ whole
  sum_on more k s number sum next whole within is number_is step so_far =
      let here : signed_value d s row ≡ (if (out-SignedOperand s).minus then neg_ℤ number else number) = signed_out s ∙ ap (λ z. if (out-SignedOperand s).minus then neg_ℤ z else z) (sym number_is) in
      let left : total (map (λ x. signed_value d x row) (drop k more)) ≡ signed_value d s row +ℤ total (map (λ x. signed_value d x row) (drop (k + 1) more)) =
      at_drop_more (λ xs. total (map (λ x. signed_value d x row) xs)) more k s within ∙ ap (λ y. signed_value d y row +ℤ total (map (λ x. signed_value d x row) (drop (k + 1) more))) (sym is) in
      sums sum next (signed_value d s row) (total (map (λ x. signed_value d x row) (drop (k + 1) more))) (total (map (λ x. signed_value d x row) (drop k more))) whole (step ∙ ap (λ z. sum +ℤ z) (sym here)) left so_far

pub ruleset plain_rules = (holds-Truth, holds-Cmp, holds-Not, holds-And, holds-Or, operand-Term, operand-Chain, plain-Truth, plain-Cmp, plain-Not, plain-And, plain-Or, plain-Quant, plain-Term, plain-Chain, plain-Agg)
