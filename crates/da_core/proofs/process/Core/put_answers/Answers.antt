use Rattle.std.proofs.Common.{◌∙◌, ◌∷◌, ◌++◌, [], List, ap}
use Rattle.da_values.specs.declared.val.Val.{Val}
use Rattle.da_values.specs.declared.val.Val.TheVariants.{Tuple}
use Rattle.da_core.specs.LocalState.{sets_value}
use Rattle.da_core.proofs.LocalParts.{put_two}
use Rattle.da_core.proofs.process.Core.put_answers.Goals as goal

pub returns : goal.returns
returns c =
    put_two c.args.parts.now _ _ _ _ _ (c.in_ok-push.ensures.ok ∙ ap (λ (v : Val). c.args.parts.now ++ v ∷ []) (c.in_ok-slots.ensures ∙ ap (λ (slots : List Val). Tuple slots) c.slot_values.ensures)) c.in_ok-push-2.ensures.ok
    (c.in_ok-sets.ensures ∙ ap (λ (sets : List (List (List Val))). sets_value sets) c.in_ok-live.ensures)
