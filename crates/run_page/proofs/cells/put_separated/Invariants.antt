use Rattle.std.proofs.Common.{◌≡◌, ◌++◌, map, take}
use Rattle.da_values.specs.Text.{separated, value_text}
use Rattle.da_values.specs.Value.{vals}
use Rattle.run_page.proofs.cells.put_separated.Given as goal

abbrev pub invariant-loop-place : goal.invariant-loop-place
invariant-loop-place l = l.out ≡ l.fn.out ++ separated (map value_text (vals (take l.place l.values)))
