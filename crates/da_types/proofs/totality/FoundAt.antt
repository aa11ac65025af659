-- What is found strictly, one equation for each form.
use Rattle.std.specs.Prelude.{◌≡◌, refl, ℕ, ◌+ℤ◌, neg_ℤ, Bool, not, if◌then◌else◌, List, [], ◌∷◌, ◌++◌, map, Option, Some, None}
use Rattle.std.specs.List.{list_any, list_all}
use Rattle.std.proofs.Common.{◌∙◌, ap, sym}
use Rattle.da_values.specs.declared.val.Val.{Val, out-Val}
use Rattle.da_values.specs.declared.val.Val.TheVariants as val
use Rattle.da_values.specs.declared.value.Value.{Value}
use Rattle.da_values.specs.Value.{val_of}
use Rattle.da_lang.specs.declared.query.Agg.{Agg, roll-Agg}
use Rattle.da_lang.specs.declared.query.AggOp.{AggOp}
use Rattle.da_lang.specs.declared.query.Cond.{Cond, roll-Cond}
use Rattle.da_lang.specs.declared.query.Cond.TheVariants as co
use Rattle.da_lang.specs.declared.query.Cond.TheOpen.{Cond-F, Operand-F}
use Rattle.da_lang.specs.declared.query.Cond.TheFolds.{map-Cond, map-Operand, fold-roll-Cond, fold-roll-Operand, fold-roll-Agg, fold-roll-SignedOperand}
use Rattle.da_lang.specs.declared.query.Operand.{Operand, roll-Operand}
use Rattle.da_lang.specs.declared.query.Operand.TheVariants as od
use Rattle.da_lang.specs.declared.query.Pattern.{Pattern}
use Rattle.da_lang.specs.declared.query.Pattern.TheVariants as pa
use Rattle.da_lang.specs.declared.query.Pattern.TheOpen.{Pattern-F}
use Rattle.da_lang.specs.declared.query.Pattern.TheFolds.{fold-roll-Pattern}
use Rattle.da_lang.specs.declared.query.RGen.{RGen}
use Rattle.da_lang.specs.declared.query.SignedOperand.{SignedOperand, roll-SignedOperand}
use Rattle.da_lang.specs.declared.query.Term.{Term}
use Rattle.da_lang.specs.declared.query.Term.TheVariants as te
use Rattle.da_lang.specs.declared.query.Term.TheOpen.{Term-F}
use Rattle.da_lang.specs.declared.query.Term.TheFolds.{fold-roll-Term}
use Rattle.da_lang.specs.declared.tree.CmpOp.{CmpOp}
use Rattle.da_lang.specs.Matching.{Row, is_same, where_true}
use Rattle.da_lang.specs.Queries.{total}
use Rattle.da_lang.specs.QueryTypes.{given}
use Rattle.da_lang.specs.World.{Data, at_number}
use Rattle.da_types.specs.Totality.{compared, StrictMatch, Test, StrictMeaning, Number, all_there, truth, strict_term_step, strict_term, strict_match_step, strict_match, strict_tuple, strict_cond_step, strict_operand_step, strict_agg_step, strict_signed_step, strict_holds, strict_operand, strict_agg, strict_signed, strict_where, strict_integer, strict_set, strict_aggregate, strict_other}

-- functions of a row, each at one row
pub at_row : {A B : Type 0} (f : A → Row → B) (xs : List A) (row : Row) → map (λ (g : Row → B). g row) (map f xs) ≡ map (λ x. f x row) xs
at_row f [] row = refl
at_row f (x ∷ xs) row = ap (λ zs. f x row ∷ zs) (at_row f xs row)

module _ (d : Data) (row : Row) where
  pub strict_term-Const : (c : Value) → strict_term d row (te.Const c) ≡ Some (val_of c)
  strict_term-Const c = ap (strict_term d row) (sym (te.rolls-Const c)) ∙ fold-roll-Term (Option Val) (strict_term_step d row) (Term-F.Const c)

  pub strict_term-Me : strict_term d row te.Me ≡ Some (val.Proc d.me)
  strict_term-Me = ap (strict_term d row) (sym te.rolls-Me) ∙ fold-roll-Term (Option Val) (strict_term_step d row) Term-F.Me

  pub strict_term-Slot : (s : ℕ) → strict_term d row (te.Slot s) ≡ at_number d.slots s
  strict_term-Slot s = ap (strict_term d row) (sym (te.rolls-Slot s)) ∙ fold-roll-Term (Option Val) (strict_term_step d row) (Term-F.Slot s)

  pub strict_term-Part : (k : ℕ) → strict_term d row (te.Part k) ≡ at_number row k
  strict_term-Part k = ap (strict_term d row) (sym (te.rolls-Part k)) ∙ fold-roll-Term (Option Val) (strict_term_step d row) (Term-F.Part k)

  pub strict_term-Tuple : (parts : List Term) → strict_term d row (te.Tuple parts) ≡ given (all_there (map (strict_term d row) parts)) (λ vs. Some (val.Tuple vs))
  strict_term-Tuple parts = ap (strict_term d row) (sym (te.rolls-Tuple parts)) ∙ fold-roll-Term (Option Val) (strict_term_step d row) (Term-F.Tuple parts)

  pub strict_term-Foreign : strict_term d row te.Foreign ≡ None
  strict_term-Foreign = ap (strict_term d row) (sym te.rolls-Foreign) ∙ fold-roll-Term (Option Val) (strict_term_step d row) Term-F.Foreign

module _ (d : Data) (x : Val) (row : Row) where
  abbrev match_at : Pattern → Option (Option Row)
  match_at p = strict_match d p x row

  pub strict_match-Any : strict_match d pa.Any x row ≡ Some (Some row)
  strict_match-Any = ap match_at (sym pa.rolls-Any) ∙ ap (λ (m : StrictMatch). m x row) (fold-roll-Pattern StrictMatch (strict_match_step d) Pattern-F.Any)

  pub strict_match-Bind : strict_match d pa.Bind x row ≡ Some (Some (row ++ x ∷ []))
  strict_match-Bind = ap match_at (sym pa.rolls-Bind) ∙ ap (λ (m : StrictMatch). m x row) (fold-roll-Pattern StrictMatch (strict_match_step d) Pattern-F.Bind)

  pub strict_match-Const : (c : Value) → strict_match d (pa.Const c) x row ≡ Some (where_true (is_same x (val_of c)) row)
  strict_match-Const c = ap match_at (sym (pa.rolls-Const c)) ∙ ap (λ (m : StrictMatch). m x row) (fold-roll-Pattern StrictMatch (strict_match_step d) (Pattern-F.Const c))

  pub strict_match-Me : strict_match d pa.Me x row ≡ Some (where_true (is_same x (val.Proc d.me)) row)
  strict_match-Me = ap match_at (sym pa.rolls-Me) ∙ ap (λ (m : StrictMatch). m x row) (fold-roll-Pattern StrictMatch (strict_match_step d) Pattern-F.Me)

  pub strict_match-Equal : (y : Term) → strict_match d (pa.Equal y) x row ≡ given (strict_term d row y) (λ v. Some (where_true (is_same x v) row))
  strict_match-Equal y = ap match_at (sym (pa.rolls-Equal y)) ∙ ap (λ (m : StrictMatch). m x row) (fold-roll-Pattern StrictMatch (strict_match_step d) (Pattern-F.Equal y))

  pub strict_match-Tuple : (ps : List Pattern) → strict_match d (pa.Tuple ps) x row ≡ strict_tuple (map (strict_match d) ps) (out-Val x) row
  strict_match-Tuple ps = ap match_at (sym (pa.rolls-Tuple ps)) ∙ ap (λ (m : StrictMatch). m x row) (fold-roll-Pattern StrictMatch (strict_match_step d) (Pattern-F.Tuple ps))

module _ (d : Data) (row : Row) where
  abbrev cond_at : Cond → Option Bool
  cond_at b = strict_holds d b row

  abbrev operand_at : Operand → Option Val
  operand_at a = strict_operand d a row

  cond_layer : (b : Cond-F Cond Operand Agg SignedOperand) → strict_holds d (roll-Cond b) row ≡ strict_cond_step d (map-Cond Cond Operand Agg SignedOperand Test StrictMeaning StrictMeaning Number (strict_holds d) (strict_operand d) (strict_agg d) (strict_signed d) b) row
  cond_layer b = ap (λ (f : Test). f row) (fold-roll-Cond Test StrictMeaning StrictMeaning Number (strict_cond_step d) (strict_operand_step d) (strict_agg_step d) (strict_signed_step d) b)

  operand_layer : (a : Operand-F Cond Operand Agg SignedOperand) → strict_operand d (roll-Operand a) row ≡ strict_operand_step d (map-Operand Cond Operand Agg SignedOperand Test StrictMeaning StrictMeaning Number (strict_holds d) (strict_operand d) (strict_agg d) (strict_signed d) a) row
  operand_layer a = ap (λ (f : StrictMeaning). f row) (fold-roll-Operand Test StrictMeaning StrictMeaning Number (strict_cond_step d) (strict_operand_step d) (strict_agg_step d) (strict_signed_step d) a)

  pub strict_holds-Truth : (y : Term) → strict_holds d (co.Truth y) row ≡ given (strict_term d row y) (λ v. truth (out-Val v))
  strict_holds-Truth y = ap cond_at (sym (co.rolls-Truth y)) ∙ cond_layer (Cond-F.Truth y)

  pub strict_holds-Cmp : (op : CmpOp) (a b : Operand) → strict_holds d (co.Cmp op a b) row ≡ given (strict_operand d a row) (λ v. given (strict_operand d b row) (compared op v))
  strict_holds-Cmp op a b = ap cond_at (sym (co.rolls-Cmp op a b)) ∙ cond_layer (Cond-F.Cmp op a b)

  pub strict_holds-Not : (b : Cond) → strict_holds d (co.Not b) row ≡ given (strict_holds d b row) (λ v. Some (not v))
  strict_holds-Not b = ap cond_at (sym (co.rolls-Not b)) ∙ cond_layer (Cond-F.Not b)

  pub strict_holds-And : (bs : List Cond) → strict_holds d (co.And bs) row ≡ given (all_there (map (λ b. strict_holds d b row) bs)) (λ vs. Some (list_all (λ v. v) vs))
  strict_holds-And bs = ap cond_at (sym (co.rolls-And bs)) ∙ cond_layer (Cond-F.And bs) ∙ ap (λ z. given (all_there z) (λ vs. Some (list_all (λ v. v) vs))) (at_row (strict_holds d) bs row)

  pub strict_holds-Or : (bs : List Cond) → strict_holds d (co.Or bs) row ≡ given (all_there (map (λ b. strict_holds d b row) bs)) (λ vs. Some (list_any (λ v. v) vs))
  strict_holds-Or bs = ap cond_at (sym (co.rolls-Or bs)) ∙ cond_layer (Cond-F.Or bs) ∙ ap (λ z. given (all_there z) (λ vs. Some (list_any (λ v. v) vs))) (at_row (strict_holds d) bs row)

  pub strict_holds-Quant : (each : Bool) (gens : List RGen) (b : Option Cond) → strict_holds d (co.Quant each gens b) row ≡ strict_cond_step d (Cond-F.Quant each gens (strict_where d b)) row
  strict_holds-Quant each gens None = ap cond_at (sym (co.rolls-Quant each gens None)) ∙ cond_layer (Cond-F.Quant each gens None)
  strict_holds-Quant each gens (Some b) = ap cond_at (sym (co.rolls-Quant each gens (Some b))) ∙ cond_layer (Cond-F.Quant each gens (Some b))

  pub strict_operand-Term : (y : Term) → strict_operand d (od.Term y) row ≡ strict_term d row y
  strict_operand-Term y = ap operand_at (sym (od.rolls-Term y)) ∙ operand_layer (Operand-F.Term y)

  pub strict_operand-Agg : (a : Agg) → strict_operand d (od.Agg a) row ≡ strict_agg d a row
  strict_operand-Agg a = ap operand_at (sym (od.rolls-Agg a)) ∙ operand_layer (Operand-F.Agg a)

  pub strict_operand-Chain : (a : Operand) (more : List SignedOperand) → strict_operand d (od.Chain a more) row ≡ given (strict_integer (strict_operand d a row)) (λ first. given (all_there (map (λ s. strict_signed d s row) more)) (λ others. Some (val.Int (first +ℤ total others))))
  strict_operand-Chain a more =
      ap operand_at (sym (od.rolls-Chain a more)) ∙ operand_layer (Operand-F.Chain a more)
      ∙ ap (λ z. given (strict_integer (strict_operand d a row)) (λ first. given (all_there z) (λ others. Some (val.Int (first +ℤ total others))))) (at_row (strict_signed d) more row)

  pub strict_signed-of : (minus : Bool) (a : Operand) → strict_signed d (roll-SignedOperand (record { minus = minus; operand = a })) row ≡ given (strict_integer (strict_operand d a row)) (λ i. Some (if minus then neg_ℤ i else i))
  strict_signed-of minus a = ap (λ (f : Number). f row) (fold-roll-SignedOperand Test StrictMeaning StrictMeaning Number (strict_cond_step d) (strict_operand_step d) (strict_agg_step d) (strict_signed_step d) (record { minus = minus; operand = a }))

  pub strict_agg-of : (op : AggOp) (gens : List RGen) (b : Option Cond) (y : Term) (other : Option Term) → strict_agg d (roll-Agg (record { op = op; gens = gens; cond = b; term = y; other = other })) row ≡ given (strict_set d gens (strict_where d b) y row) (strict_aggregate op (strict_other d row other))
  strict_agg-of op gens None y other = ap (λ (f : StrictMeaning). f row) (fold-roll-Agg Test StrictMeaning StrictMeaning Number (strict_cond_step d) (strict_operand_step d) (strict_agg_step d) (strict_signed_step d) (record { op = op; gens = gens; cond = None; term = y; other = other }))
  strict_agg-of op gens (Some b) y other = ap (λ (f : StrictMeaning). f row) (fold-roll-Agg Test StrictMeaning StrictMeaning Number (strict_cond_step d) (strict_operand_step d) (strict_agg_step d) (strict_signed_step d) (record { op = op; gens = gens; cond = Some b; term = y; other = other }))

pub ruleset finding = (strict_term-Const, strict_term-Me, strict_term-Slot, strict_term-Part, strict_term-Tuple, strict_term-Foreign, strict_match-Any, strict_match-Bind, strict_match-Const, strict_match-Me, strict_match-Equal, strict_match-Tuple, strict_holds-Truth, strict_holds-Cmp, strict_holds-Not, strict_holds-And, strict_holds-Or, strict_holds-Quant, strict_operand-Term, strict_operand-Agg, strict_operand-Chain, strict_signed-of, strict_agg-of)
