use Rattle.std.proofs.Common.{◌∙◌, ap, map, sym}
use Rattle.quant_norm.specs.Prints.{node_print}
use Rattle.quant_norm.proofs.PrintLaws.{front_prints}
use Rattle.quant_norm.proofs.nodes.push_node.Goals as goal

pub returns-in-Ok-clause-prints : goal.returns-in-Ok-clause-prints
returns-in-Ok-clause-prints c = c.requires ∙ ap (map node_print) (sym c.in-Ok.ensures.ok)

pub returns-in-Err-clause-prints : goal.returns-in-Err-clause-prints
returns-in-Err-clause-prints c =
    c.truncate.ensures ∙ front_prints c.args.prints.now c.args.list.now c.args.node c.len-count.result c.requires c.len-count.ensures ∙ ap (map node_print) (sym c.in-Err.ensures.err)
