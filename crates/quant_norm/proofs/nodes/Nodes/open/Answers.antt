use Rattle.std.proofs.Common.{◌∷◌, ◌++◌, ◌∙◌, List, [], ap, map, sym}
use Rattle.da_lang.specs.declared.query.Node.{Node}
use Rattle.da_lang.specs.declared.query.Node.TheVariants as node
use Rattle.quant_norm.specs.Prints.{node_print}
use Rattle.quant_norm.proofs.nodes.Nodes.open.Goals as goal

pub push_both-requires-clause-prints : goal.push_both-requires-clause-prints
push_both-requires-clause-prints c = c.new-prints.ensures ∙ sym (ap (map node_print) c.new-list.ensures)

pub returns : goal.returns
returns c = c.in_ok-push_both.ensures.ok ∙ ap (λ (ns : List Node). ns ++ node.Root ∷ []) c.new-list.ensures
