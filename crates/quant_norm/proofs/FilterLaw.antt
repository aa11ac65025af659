-- At each place of a plan the node of a condition has the rows of the place of which the condition holds.
use Rattle.std.specs.Prelude.{◌≡◌, ℕ, Bool, true, List}
use Rattle.std.specs.List.{filter}
use Rattle.da_values.specs.Order.{row_cmp}
use Rattle.da_values.proofs.Members.{Has-filter, of_filter}
use Rattle.da_values.proofs.OrderLaws.{row_order, same_from_row_cmp}
use Rattle.da_values.proofs.SetLaws.{Ascends-filter, one_list}
use Rattle.da_lang.specs.declared.query.Cond.{Cond}
use Rattle.da_lang.specs.declared.query.Node.{Node}
use Rattle.da_lang.specs.Matching.{Row}
use Rattle.da_lang.specs.Queries.{holds}
use Rattle.da_lang.specs.World.{Data}
use Rattle.query_plan.specs.Nodes.{node_rows}
use Rattle.query_plan.specs.Plans.{Place, norm}
use Rattle.quant_norm.specs.Filtering.{Filters, FiltersEach, seen}
use Rattle.quant_norm.specs.GoodPlaces.{Good}
use Rattle.quant_norm.proofs.NormLaw.{norm_law}
use Rattle.quant_norm.proofs.PlaceLaws.{Kept}
use Rattle.quant_norm.proofs.QueryLaw.{rows_up}

module _ (nodes : List Node) (at : Place) (good : Good nodes at) (b : Cond) (d : Data) where
  abbrev end : List Node × ℕ
  end = norm b at nodes

  abbrev test : Row → Bool
  test row = holds d b (seen at.vars row)

  abbrev before : List Row
  before = node_rows d nodes at.node

  kept : Kept d (λ row. test row ≡ true) nodes at end
  kept = norm_law d b nodes at good

  rows_are : node_rows d end.0 end.1 ≡ filter test before
  rows_are =
      one_list row_cmp row_order same_from_row_cmp (node_rows d end.0 end.1) (filter test before)
      (rows_up d end.0 end.1 kept.good.plan kept.good.there)
      (Ascends-filter row_cmp test before (rows_up d nodes at.node good.plan good.there))
      (λ row. (
        (λ h. let (there, e) = kept.from row h in Has-filter test before row there e),
        (λ h. let (there, e) = of_filter test before row h in kept.into row there e),
      ))

  filters : Filters nodes at b d
  filters = record { more = kept.grown.0; behind = kept.grown.1; there = kept.good.there; rows = rows_are }

pub filters_each : (nodes : List Node) → FiltersEach nodes
filters_each nodes at good b d = filters nodes at good b d
