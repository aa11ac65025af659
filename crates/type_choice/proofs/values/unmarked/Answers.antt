use Rattle.std.proofs.Common.{◌∷◌, ◌++◌, [], false, ap, sym, ◌∙◌}
use Rattle.type_choice.proofs.MarkLaws.{replicate_more}
use Rattle.type_choice.proofs.values.unmarked.Goals as goal

pub loop-i-preserved : goal.loop-i-preserved
loop-i-preserved c = c.in_ok-push.ensures.ok ∙ ap (λ z. z ++ false ∷ []) c.loop-i.invariant ∙ sym (replicate_more c.loop-i._i false)
