use Rattle.arq_link.proofs.RunLaws.{all_arrive_in_order, all_remain}
use Rattle.arq_link.proofs.in_order.arrives_in_order.Goals as goal

pub returns-clause-prefix : goal.returns-clause-prefix
returns-clause-prefix c = all_arrive_in_order

pub returns-clause-remains : goal.returns-clause-remains
returns-clause-remains c = all_remain
