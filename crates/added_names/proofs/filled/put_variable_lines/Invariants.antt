use Rattle.std.proofs.Common.{◌≡◌}
use Rattle.added_names.specs.Filled.{variable_lines, types_after_variables}
use Rattle.added_names.proofs.FillLaws.{Lining}
use Rattle.added_names.proofs.filled.put_variable_lines.Given as goal

abbrev pub invariant-loop-variable : goal.invariant-loop-variable
invariant-loop-variable l = record {
  lining : Lining variable_lines types_after_variables l.variables l.initial.rest.types.now l.initial.out l.variable-index l.out l.rest.types.now;
  places : l.rest.places.now ≡ l.initial.rest.places.now;
}
