use Rattle.std.proofs.Common.{◌∙◌, Some, ap, sym}
use Rattle.std.proofs.lemmas.Option.{slice_get-get_or}
use Rattle.query_plan.proofs.twins.twin_place.Goals as goal

pub returns-then-is_twin : goal.returns-then-is_twin
returns-then-is_twin c = (
  c.is_up_to.ensures c.if-not-is_up_to.false,
  slice_get-get_or c.args.nodes.now c.loop-t.t c.index-nodes-t.result c.loop-t-test.true ∙ ap Some (sym c.index-nodes-t.is ∙ c.is_twin.ensures c.if-is_twin.true),
)
