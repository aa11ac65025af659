use Rattle.std.proofs.Common.{arith}
use Rattle.added_names.specs.declared.added.AddedTag.{AddedTag}
use Rattle.da_infer.proofs.SumLaws.{sum_on, sum_ends}
use Rattle.da_infer.proofs.counts.parts_of.Goals as goal

pub loop-tag-init : goal.loop-tag-init
loop-tag-init c = omega arith

pub loop-tag-preserved : goal.loop-tag-preserved
loop-tag-preserved c = let l = c.loop-tag in sum_on (λ (x : AddedTag). x.parts) c.args.tags.now l.tag-index c.tag-item.result _ _ c.loop-tag-test.true c.tag-item.is c.in_ok-parts.ensures l.invariant

pub returns : goal.returns
returns c = let l = c.loop-tag in sum_ends (λ (x : AddedTag). x.parts) c.args.tags.now l.tag-index _ c.loop-tag-test.false l.invariant
