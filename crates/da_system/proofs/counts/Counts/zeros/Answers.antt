use Rattle.da_system.proofs.CountLaws.{few_zeros, zeros_are}
use Rattle.da_system.proofs.counts.Counts.zeros.Goals as goal

pub invariant_of-result : goal.invariant_of-result
invariant_of-result c = few_zeros c.in_ok-moves.moves c.args.count c.in_ok-moves.ensures

pub returns : goal.returns
returns c = zeros_are c.in_ok-moves.moves c.in_ok-deliveries.deliveries.items c.args.count c.in_ok-moves.ensures c.in_ok-deliveries.ensures
