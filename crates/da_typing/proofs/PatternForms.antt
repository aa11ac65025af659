-- What the forms of patterns are made of, and the rows of patterns.
use Rattle.std.specs.Prelude.{◌≡◌, List}
use Rattle.std.proofs.Common.{◌∙◌, ap}
use Rattle.da_lang.specs.declared.query.Pattern.TheVariants as p
use Rattle.da_lang.specs.declared.ty.Ty.{Ty}
use Rattle.da_lang.specs.QueryTypes.{Known, pattern_row, when}
use Rattle.da_lang.specs.Types.{is_proc}
use Rattle.da_lang.proofs.typing.QueryTypesAt.{pattern_row_at-Any, pattern_row_at-Bind, pattern_row_at-Const, pattern_row_at-Me, pattern_row_at-Equal, pattern_row_at-Tuple}
use Rattle.da_lang.proofs.typing.TypesAt.{same_type_at-Proc}

pub ruleset pattern_forms = (p.outs-Any, p.outs-Bind, p.outs-Const, p.outs-Me, p.outs-Equal, p.outs-Tuple)

pub row-Me : (known : Known) (asked : Ty) (row : List Ty) → pattern_row known p.Me asked row ≡ when (is_proc asked) row
row-Me known asked row = pattern_row_at-Me known asked row ∙ ap (λ holds. when holds row) (same_type_at-Proc asked)

pub ruleset pattern_rows = (pattern_row_at-Any, pattern_row_at-Bind, pattern_row_at-Const, row-Me, pattern_row_at-Equal, pattern_row_at-Tuple)
