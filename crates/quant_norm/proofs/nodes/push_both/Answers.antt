use Rattle.std.proofs.Common.{◌∙◌}
use Rattle.quant_norm.proofs.PrintLaws.{next_prints}
use Rattle.quant_norm.proofs.nodes.push_both.Goals as goal

pub push_node-requires : goal.push_node-requires
push_node-requires c = next_prints c.args.prints.now c.push.new.self c.args.list.now c.args.node c.args.print c.in-Ok.ensures.ok c.requires.prints c.requires.print

pub returns-in-Err-clause-prints : goal.returns-in-Err-clause-prints
returns-in-Err-clause-prints c = c.in-Err.ensures.err ∙ c.requires.prints
