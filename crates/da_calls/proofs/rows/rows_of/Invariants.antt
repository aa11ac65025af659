use Rattle.std.proofs.Common.{◌≡◌, map, take}
use Rattle.da_calls.specs.CallMethods.{body_of}
use Rattle.da_calls.specs.CallNames.{number_in}
use Rattle.da_calls.specs.CallRows.{call_rows}
use Rattle.da_calls.proofs.rows.rows_of.Given as goal

abbrev pub invariant-loop-method : goal.invariant-loop-method
invariant-loop-method l = l.rows.items ≡ call_rows (number_in l.numbers) (map body_of (take l.method-index l.methods))
