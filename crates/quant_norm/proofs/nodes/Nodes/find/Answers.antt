use Rattle.std.proofs.Common.{◌∙◌, List, ap, map, sym}
use Rattle.std.specs.Prelude.{position}
use Rattle.da_lang.specs.declared.query.Node.{Node}
use Rattle.query_plan.specs.Spelled.{same_node}
use Rattle.quant_norm.specs.Prints.{node_print}
use Rattle.quant_norm.proofs.nodes.Nodes.find.Goals as goal

pub found_at-requires-clause-prints : goal.found_at-requires-clause-prints
found_at-requires-clause-prints c = c.as_slice-2.ensures ∙ c.self.invariant ∙ sym (ap (map node_print) c.as_slice.ensures)

pub returns : goal.returns
returns c = c.found_at.ensures ∙ ap (λ (ns : List Node). position (same_node c.args.node.now) ns) (c.as_slice.ensures ∙ c.self.view_is)
