use Rattle.std.proofs.Common.{◌∙◌, ◌∷◌, ◌++◌, [], ap, drop}
use Rattle.da_values.specs.declared.value.Value.{Value}
use Rattle.da_values.specs.Value.{val_of, vals}
use Rattle.da_machine.proofs.Stacks.{left_done, left_on}
use Rattle.da_machine.proofs.stack.copies_from.Goals as goal

pub loop-at-init : goal.loop-at-init
loop-at-init c = ap (λ row. row ++ vals (drop c.args.place c.args.values.now)) c.new-row.ensures

pub loop-at-preserved : goal.loop-at-preserved
loop-at-preserved c =
    left_on c.args.values.now c.loop-at.at c.index-values-at.result c.loop-at.row c.push.new.self (vals (drop c.args.place c.args.values.now))
    c.loop-at-test.true c.index-values-at.is c.loop-at.invariant (c.in_ok-push.ensures.ok ∙ ap (λ (x : Value). c.loop-at.row ++ val_of x ∷ []) c.in_ok-copy_value.ensures)

pub returns : goal.returns
returns c = left_done c.args.values.now c.args.place c.loop-at.at c.loop-at.row c.loop-at-test.false c.loop-at.invariant
