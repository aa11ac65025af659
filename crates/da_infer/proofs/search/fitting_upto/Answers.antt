use Rattle.da_infer.proofs.SearchLaws.{asked_known, fitting_is}
use Rattle.da_infer.proofs.search.fitting_upto.Goals as goal

pub fitting-requires : goal.fitting-requires
fitting-requires c = asked_known c.args.count c.args.line c.args.demands.now _ _ c.as_slice.ensures c.in_ok-asked.ensures c.requires

pub returns : goal.returns
returns c = fitting_is c.args.count c.args.line c.args.demands.now _ _ _ c.as_slice.ensures c.in_ok-asked.ensures c.fitting.ensures
