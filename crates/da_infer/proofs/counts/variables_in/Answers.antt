use Rattle.std.specs.Prelude.{length}
use Rattle.std.proofs.Common.{arith}
use Rattle.da_lang.specs.declared.tree.ClassTree.{ClassTree}
use Rattle.added_names.specs.Changes.{added_variables}
use Rattle.da_infer.proofs.SumLaws.{sum_on, sum_ends, sum_by}
use Rattle.da_infer.proofs.counts.variables_in.Goals as goal

pub loop-class-init : goal.loop-class-init
loop-class-init c = omega arith

pub loop-class-preserved : goal.loop-class-preserved
loop-class-preserved c =
    let l = c.loop-class in
    sum_on (λ (x : ClassTree). length (added_variables x)) c.args.classes.now l.class-index c.class-item.result _ _ c.loop-class-test.true c.class-item.is (sum_by added_variables _ _ _ _ _ c.in_ok-variables.ensures c.len.ensures c.in_ok-count.ensures) l.invariant

pub returns : goal.returns
returns c = let l = c.loop-class in sum_ends (λ (x : ClassTree). length (added_variables x)) c.args.classes.now l.class-index _ c.loop-class-test.false l.invariant
