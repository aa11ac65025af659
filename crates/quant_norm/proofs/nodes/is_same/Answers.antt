use Rattle.quant_norm.proofs.PrintLaws.{prints_apart}
use Rattle.quant_norm.proofs.nodes.is_same.Goals as goal

pub returns-then-its-print : goal.returns-then-its-print
returns-then-its-print c = prints_apart c.args.other.now c.args.node.now c.args.its c.args.print c.requires.its c.requires.print c.if-its-print.true
