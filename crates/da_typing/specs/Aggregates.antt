-- The type of an aggregate, from the row of its generators and condition.
use Rattle.std.specs.Prelude.{List, Option}
use Rattle.da_lang.specs.declared.query.AggOp.{AggOp}
use Rattle.da_lang.specs.declared.query.Term.{Term}
use Rattle.da_lang.specs.declared.ty.Ty.{Ty}
use Rattle.da_lang.specs.declared.ty.Ty.TheVariants as t
use Rattle.da_lang.specs.QueryTypes.{Known, Side, given, flat, term_type, agg_type, other_type}

abbrev pub agg_found : Known → AggOp → Term → Option Term → List Ty → List Ty → Option Side
agg_found known op x other found row = given (term_type known x found) (λ ty. given (flat (t.Set ty)) (λ set. agg_type op ty (other_type known other row)))
