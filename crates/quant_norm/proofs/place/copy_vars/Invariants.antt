use Rattle.std.proofs.Common.{◌≡◌, take}
use Rattle.quant_norm.proofs.place.copy_vars.Given as goal

abbrev pub invariant-loop-part : goal.invariant-loop-part
invariant-loop-part l = l.copy ≡ take l.part-index l.vars
