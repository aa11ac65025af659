use Rattle.std.proofs.Common.{length}
use Rattle.std.specs.Prelude.{◌↔◌}
use Rattle.da_values.specs.declared.value.Value.{Value}
use Rattle.schedule_hunt.specs.Shown.{AnyOf, PutsOut}
use Rattle.schedule_hunt.specs.ShownSteps.{IsOutput}
use Rattle.schedule_hunt.proofs.shown.first_output.Given as goal

abbrev pub invariant-actions : goal.invariant-actions
invariant-actions l = record {
  some : AnyOf IsOutput l.rest ↔ AnyOf IsOutput l.actions;
  each : (v : Value) → AnyOf (PutsOut v) l.rest → AnyOf (PutsOut v) l.actions;
}

abbrev pub decreases-actions : goal.decreases-actions
decreases-actions l = length l.rest
