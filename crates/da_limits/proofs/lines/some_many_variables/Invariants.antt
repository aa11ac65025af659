use Rattle.std.proofs.Common.{◌≡◌, drop}
use Rattle.std.specs.List.{list_any}
use Rattle.std.specs.Prelude.{nat_lt}
use Rattle.da_lang.specs.Limits.{most_variables}
use Rattle.da_limits.proofs.lines.some_many_variables.Given as goal

abbrev pub invariant-loop-size : goal.invariant-loop-size
invariant-loop-size l = list_any (λ d. nat_lt most_variables d.written.largest.variables) (drop l.size-index l.sizes) ≡ list_any (λ d. nat_lt most_variables d.written.largest.variables) l.sizes
