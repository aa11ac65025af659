-- What is kept of the values that the parts of a query have is kept of its value, but for the integer of a `count` or a
-- `sum`, and of the row that a `some` finds.
use Rattle.std.specs.Prelude.{◌≡◌, refl, true, false, List, [], Option, Some, None}
use Rattle.std.specs.Option.{option_map}
use Rattle.std.proofs.Common.{◌∙◌, ap, subst}
use Rattle.da_lang.specs.declared.query.Agg.{roll-Agg}
use Rattle.da_lang.specs.declared.query.Cond.{Cond}
use Rattle.da_lang.specs.declared.query.Cond.TheVariants as co
use Rattle.da_lang.specs.declared.query.Cond.TheViews.{out-Agg, roll-out-Agg}
use Rattle.da_lang.specs.declared.query.Query.{Query}
use Rattle.da_lang.specs.declared.query.Query.TheVariants as qu
use Rattle.da_lang.specs.declared.ty.Ty.{Ty}
use Rattle.da_lang.specs.declared.ty.Ty.TheVariants as t
use Rattle.da_lang.specs.Matching.{Row}
use Rattle.da_lang.specs.Queries.{agg_value, holds, least_of_query, value_of_query}
use Rattle.da_lang.specs.QueryTypes.{Known, given, flat, written_cond, rows_where, query_row, query_type, agg_side, cond_holds, term_type}
use Rattle.da_lang.specs.World.{Data}
use Rattle.da_lang.proofs.RowLaws.{of_rows, least_there}
use Rattle.da_types.specs.Totality.{counts}
use Rattle.da_types.proofs.totality.KindLaws.{given_parts}
use Rattle.da_types.proofs.totality.Keeping.{Keeping, RowFits, Knows}
use Rattle.da_types.proofs.totality.QueriesFit.{OtherGood, agg_fits, comp_fits, rows_where_parts}
use Rattle.da_types.proofs.totality.RowsFit.{rows_fit}

pub written : (known : Known) (b : Option Cond) → written_cond known b ≡ option_map (cond_holds known) b
written known None = refl
written known (Some b) = refl

-- the terms of which a query makes its value
abbrev pub GoodQuery : Keeping → Query → Type 0
GoodQuery k (qu.Quant each gens b) = Unit {0}
GoodQuery k (qu.Comp x gens b) = k.Good x
GoodQuery k (qu.Agg a) = k.Good (out-Agg a).term × OtherGood k (out-Agg a).other

module _ (k : Keeping) (known : Known) (d : Data) (w : Knows k known d) where
  pub query_kept : (q : Query) (ty : Ty) → query_type known q ≡ Some ty → GoodQuery k q → counts q ≡ false → k.Kept (value_of_query d q)
  query_kept (qu.Quant each gens b) ty e good f = k.truth (holds d (co.Quant each gens b) [])
  query_kept (qu.Comp x gens b) ty e good f =
      let (element, over, deep) = given_parts (given (rows_where known gens (written_cond known b) []) (term_type known x)) (λ ty. flat (t.Set ty)) ty e in
      let (found, typed, of_term) = given_parts (rows_where known gens (written_cond known b) []) (term_type known x) element over in
      (comp_fits k known d w x gens b found element (rows_where_parts known gens (written_cond known b) [] found typed).0 of_term good).1
  query_kept (qu.Agg a) ty e good f =
      let (side, typed, is) = given_parts (agg_side known a []) (λ side. Some side.ty) ty e in
      let r = out-Agg a in
      let same : roll-Agg r ≡ a = roll-out-Agg a in
      subst (λ z. k.Kept (agg_value d z [])) same ((agg_fits k known d w r.op r.gens r.cond r.term r.other [] [] side (ap (λ z. agg_side known z []) same ∙ typed) tt good.0 good.1).1 f)

  -- the row that a `some` finds has the types that it gives to what it binds
  pub least_fits : (q : Query) (types : List Ty) (r : Row) → query_row known q ≡ Some types → least_of_query d q ≡ Some r → RowFits k types r
  least_fits (qu.Quant true gens b) types r e is = absurd (cc)
  least_fits (qu.Quant false gens b) types r e is =
      let (typed, cond_is) = rows_where_parts known gens (written_cond known b) [] types e in
      rows_fit k known d w gens [] types [] r typed tt (of_rows d gens b [] r (least_there d gens b r is)).0
  least_fits (qu.Comp x gens b) types r e is = absurd (cc)
  least_fits (qu.Agg a) types r e is = absurd (cc)
