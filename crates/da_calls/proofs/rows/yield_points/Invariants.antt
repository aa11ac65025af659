use Rattle.std.proofs.Common.{map}
use Rattle.da_calls.specs.CallMethods.{body_of}
use Rattle.da_calls.proofs.CallRows.{YieldsBelow}
use Rattle.da_calls.proofs.rows.yield_points.Given as goal

abbrev pub invariant-loop-number : goal.invariant-loop-number
invariant-loop-number l = YieldsBelow l.number (map body_of l.methods) l.points
