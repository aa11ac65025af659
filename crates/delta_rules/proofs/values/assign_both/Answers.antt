use Rattle.std.proofs.Common.{ap, ◌∙◌}
use Rattle.da_values.specs.Value.{val_of}
use Rattle.da_values.specs.declared.value.Value.{Value}
use Rattle.da_lang.specs.World.{with_slot}
use Rattle.delta_rules.proofs.ElementIds.{on_any}
use Rattle.delta_rules.proofs.values.assign_both.Goals as goal

pub returns-clause-values : goal.returns-clause-values
returns-clause-values c = on_any c.assign.result _ (c.put_value.ensures ∙ ap (λ (w : Value). with_slot c.args.values.now c.args.s (val_of w)) c.in_ok-copy.ensures)
