use Rattle.da_infer.proofs.KnownLaws.{lent_known}
use Rattle.da_infer.proofs.between.fit.Goals as goal

pub fitting-requires : goal.fitting-requires
fitting-requires c = lent_known c.args.count c.args.asked.now _ c.are_known.ensures c.if-are_known.true
