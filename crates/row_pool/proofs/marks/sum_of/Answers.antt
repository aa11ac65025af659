use Rattle.std.proofs.Common.{List, ap, refl, ◌∙◌}
use Rattle.std.proofs.lemmas.List.{take_all}
use Rattle.da_values.specs.Value.{vals}
use Rattle.da_values.specs.declared.value.Value.{Value}
use Rattle.row_pool.specs.Marks.{mark_of_set}
use Rattle.row_pool.proofs.KindLaws.{next_sum}
use Rattle.row_pool.proofs.marks.sum_of.Goals as goal

pub loop-element-init : goal.loop-element-init
loop-element-init c = refl

pub loop-element-preserved : goal.loop-element-preserved
loop-element-preserved c =
    next_sum c.args.elements.now c.loop-element.element-index _ c.loop-element.sum c.with_hash-sum.result c.hash_of.result c.loop-element-test.true c.element-item.is c.loop-element.invariant c.hash_of.ensures
    c.with_hash-sum.ensures

pub returns : goal.returns
returns c = c.loop-element.invariant ∙ ap (λ (vs : List Value). mark_of_set (vals vs)) (take_all c.loop-element.element-index c.args.elements.now c.loop-element-test.false)
