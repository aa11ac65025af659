use Rattle.da_machine.proofs.Numbers.{number_more}
use Rattle.da_machine.proofs.arithmetic.numbers.Goals as goal

pub numbers-preserved : goal.numbers-preserved
numbers-preserved c = number_more _ c.numbers.i _ _ _ c.numbers.invariant c.number_at.ensures c.in_ok-set_insert.ensures.ok
