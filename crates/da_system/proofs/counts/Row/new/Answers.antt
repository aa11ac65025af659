use Rattle.da_system.proofs.CountLaws.{tally_zeros}
use Rattle.da_system.proofs.counts.Row.new.Goals as goal

pub invariant_of-result : goal.invariant_of-result
invariant_of-result c = tally_zeros c.in_ok-counts.counts c.args.count c.requires c.in_ok-counts.ensures
