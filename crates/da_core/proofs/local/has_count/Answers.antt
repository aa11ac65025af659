use Rattle.std.proofs.Common.{sym, subst}
use Rattle.da_values.specs.declared.value.Value.{Value}
use Rattle.da_core.specs.LocalState.{HasCount}
use Rattle.da_core.proofs.local.has_count.Goals as goal

pub returns-in-Tuple : goal.returns-in-Tuple
returns-in-Tuple c = λ is. subst (λ (v : Value). HasCount v c.args.count) (sym c.in-Tuple.is) (c.is_fourth.ensures is)
