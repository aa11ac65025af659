use Rattle.std.proofs.Common.{Some, sym, ◌∙◌, ap}
use Rattle.da_values.specs.declared.val.Val.{Val}
use Rattle.da_core.proofs.local.is_fourth.Goals as goal

pub returns-in-Some : goal.returns-in-Some
returns-in-Some c = λ is. sym c.in-Some.ensures ∙ ap (λ (v : Val). Some v) (c.is_number.ensures is)
