use Rattle.type_demands.proofs.ExprsAgree.{expr_agrees}
use Rattle.type_demands.proofs.laws.expressions_agree.Goals as goal

pub returns : goal.returns
returns c = expr_agrees
