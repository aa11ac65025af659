use Rattle.std.proofs.Common.{◌∙◌, ◌∷◌, ◌++◌, ℕ, List, [], ap}
use Rattle.da_system.proofs.QueueLaws.{one_more}
use Rattle.da_system.proofs.counts.so_many_zeros.Goals as goal

pub loop-place-preserved : goal.loop-place-preserved
loop-place-preserved c = c.in_ok-push.ensures.ok ∙ ap (λ (zeros : List ℕ). zeros ++ 0 ∷ []) c.loop-place.invariant ∙ one_more {A = ℕ} c.loop-place._place 0
