use Rattle.std.proofs.Common.{◌∷◌, ◌++◌, [], ap, sym, ◌∙◌}
use Rattle.type_choice.proofs.MarkLaws.{replicate_more}
use Rattle.type_choice.proofs.values.empty_lists.Goals as goal

pub loop-i-preserved : goal.loop-i-preserved
loop-i-preserved c = c.in_ok-push.ensures.ok ∙ ap (λ z. c.loop-i.lists ++ z ∷ []) c.new.ensures ∙ ap (λ z. z ++ [] ∷ []) c.loop-i.invariant ∙ sym (replicate_more c.loop-i._i [])
