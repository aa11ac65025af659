use Rattle.std.specs.Prelude.{length}
use Rattle.da_lang.specs.declared.tree.ClassTree.{ClassTree}
use Rattle.added_names.specs.Changes.{added_variables}
use Rattle.da_infer.proofs.SumLaws.{Summed}
use Rattle.da_infer.proofs.counts.variables_in.Given as goal

abbrev pub invariant-loop-class : goal.invariant-loop-class
invariant-loop-class l = Summed (λ (c : ClassTree). length (added_variables c)) l.classes l.class-index l.count
