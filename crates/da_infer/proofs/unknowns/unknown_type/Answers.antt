use Rattle.da_infer.proofs.UnknownTypes.{is_unknown}
use Rattle.da_infer.proofs.unknowns.unknown_type.Goals as goal

pub returns : goal.returns
returns c = is_unknown c.args.number _ _ c.ranges.number.fits c.in_ok-inner.ensures c.in_ok-ty.ensures
