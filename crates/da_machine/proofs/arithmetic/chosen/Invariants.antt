use Rattle.std.proofs.Common.{◌≡◌, take}
use Rattle.std.specs.List.{filter}
use Rattle.da_values.specs.Order.{val_cmp}
use Rattle.da_values.specs.Sets.{canon, set_has}
use Rattle.da_values.specs.Value.{vals}
use Rattle.da_machine.specs.Acts.{same}
use Rattle.da_machine.proofs.arithmetic.chosen.Given as goal

abbrev pub invariant-values : goal.invariant-values
invariant-values l = l.set ≡ canon val_cmp (filter (λ x. same l.fn.there (set_has val_cmp l.fn.ys x)) (vals (take l.value-index l.values)))
