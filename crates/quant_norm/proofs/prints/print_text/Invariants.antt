use Rattle.std.proofs.Common.{◌≡◌, drop}
use Rattle.quant_norm.specs.Prints.{print_from}
use Rattle.quant_norm.proofs.prints.print_text.Given as goal

abbrev pub invariant-loop-byte : goal.invariant-loop-byte
invariant-loop-byte l = print_from l.print (drop l.byte-index l.text) ≡ print_from 0 l.text
