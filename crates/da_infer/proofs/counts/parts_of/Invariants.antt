use Rattle.added_names.specs.declared.added.AddedTag.{AddedTag}
use Rattle.da_infer.proofs.SumLaws.{Summed}
use Rattle.da_infer.proofs.counts.parts_of.Given as goal

abbrev pub invariant-loop-tag : goal.invariant-loop-tag
invariant-loop-tag l = Summed (λ (x : AddedTag). x.parts) l.tags l.tag-index l.parts
