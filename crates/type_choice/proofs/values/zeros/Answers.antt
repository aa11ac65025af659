use Rattle.std.proofs.Common.{◌∷◌, ◌++◌, [], ap, sym, ◌∙◌}
use Rattle.type_choice.proofs.MarkLaws.{replicate_more}
use Rattle.type_choice.proofs.values.zeros.Goals as goal

pub loop-i-preserved : goal.loop-i-preserved
loop-i-preserved c = c.in_ok-push.ensures.ok ∙ ap (λ z. z ++ 0 ∷ []) c.loop-i.invariant ∙ sym (replicate_more c.loop-i._i 0)
