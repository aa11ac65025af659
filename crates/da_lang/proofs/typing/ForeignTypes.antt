-- What stands for an expression of no form of queries breaks a rule of types wherever it stands.
use Rattle.std.specs.Prelude.{◌≡◌, refl, false, List, None}
use Rattle.da_lang.specs.declared.query.Cond.TheVariants as co
use Rattle.da_lang.specs.declared.query.Operand.TheVariants as od
use Rattle.da_lang.specs.declared.query.Pattern.TheVariants as pa
use Rattle.da_lang.specs.declared.query.Term.TheVariants as te
use Rattle.da_lang.specs.declared.ty.Ty.{Ty}
use Rattle.da_lang.specs.QueryTypes.{Known, term_type, pattern_row, operand_side, cond_holds}
use Rattle.da_lang.proofs.typing.QueryTypesAt.{term_type_at-Foreign, pattern_row_at-Equal, operand_side_at-Term, cond_holds_at-Truth}

module _ (known : Known) (row : List Ty) where
  pub foreign_term : term_type known te.Foreign row ≡ None
  foreign_term = term_type_at-Foreign known row

  pub foreign_operand : operand_side known (od.Term te.Foreign) row ≡ None
  foreign_operand = simp (operand_side_at-Term, term_type_at-Foreign) refl

  pub foreign_condition : cond_holds known (co.Truth te.Foreign) row ≡ false
  foreign_condition = simp (cond_holds_at-Truth, term_type_at-Foreign) refl

  pub foreign_pattern : (ty : Ty) → pattern_row known (pa.Equal te.Foreign) ty row ≡ None
  foreign_pattern ty = simp (pattern_row_at-Equal, term_type_at-Foreign) refl
