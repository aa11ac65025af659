use Rattle.std.proofs.Common.{◌∙◌, ◌∷◌, ◌++◌, [], ap}
use Rattle.da_values.specs.declared.val.Val.{Val}
use Rattle.da_core.proofs.local.put_number.Goals as goal

pub returns : goal.returns
returns c = c.in_ok-push.ensures.ok ∙ ap (λ (v : Val). c.args.parts.now ++ v ∷ []) c.number.ensures
