use Rattle.std.proofs.Common.{◌∙◌, ap}
use Rattle.quant_norm.specs.Prints.{print_from}
use Rattle.quant_norm.proofs.prints.print_node.Goals as goal

pub returns : goal.returns
returns c = c.print_text.ensures ∙ ap (print_from 0) (c.as_slice.ensures ∙ c.in_ok-text.ensures)
