use Rattle.std.specs.List.{sum_by}
use Rattle.std.proofs.Common.{◌≡◌, take}
use Rattle.quant_norm.specs.Making.{signed_asks}
use Rattle.quant_norm.proofs.counts.+operand_asks.Given as goal

abbrev pub invariant-asked_in_signed-loop-signed : goal.invariant-asked_in_signed-loop-signed
invariant-asked_in_signed-loop-signed l = l.count ≡ sum_by signed_asks (take l.signed-index l.operands)
