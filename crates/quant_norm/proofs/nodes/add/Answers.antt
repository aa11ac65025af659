use Rattle.quant_norm.proofs.nodes.add.Goals as goal

pub add_printed-requires : goal.add_printed-requires
add_printed-requires c = rw c.in-Ok.is at c.print-printed.ensures
