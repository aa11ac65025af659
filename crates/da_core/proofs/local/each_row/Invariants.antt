use Rattle.std.proofs.Common.{◌≡◌, map, take}
use Rattle.da_values.specs.declared.val.Val.TheVariants.{Tuple}
use Rattle.da_core.proofs.local.each_row.Given as goal

abbrev pub invariant-loop-row : goal.invariant-loop-row
invariant-loop-row l = l.parts ≡ map Tuple (take l.row-index l.rows)
