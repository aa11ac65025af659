use Rattle.std.proofs.Common.{arith}
use Rattle.da_values.specs.declared.val.Val.{Val}
use Rattle.da_values.specs.Order.{val_cmp}
use Rattle.da_values.specs.Sets.{set_has}
use Rattle.da_machine.specs.Acts.{same}
use Rattle.da_machine.proofs.Numbers.{chosen_all, chosen_step}
use Rattle.da_machine.proofs.arithmetic.chosen.Goals as goal

pub values-preserved : goal.values-preserved
values-preserved c =
    chosen_step (λ (x : Val). same c.args.there (set_has val_cmp c.args.ys.now x)) _ _ _ _ c.value-item.result _ c.values.invariant (omega arith) c.value-item.is (cc) c.in_ok-put_if.ensures

pub returns : goal.returns
returns c =
    chosen_all (λ (x : Val). same c.args.there (set_has val_cmp c.args.ys.now x)) c.args.xs.now _ _ _ c.as_slice-values.ensures.ascends c.as_slice-values.ensures.items (omega arith) c.values.invariant
