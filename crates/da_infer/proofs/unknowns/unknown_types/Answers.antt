use Rattle.da_infer.proofs.UnknownTypes.{unknowns_more, declarable_more}
use Rattle.da_infer.proofs.unknowns.unknown_types.Goals as goal

pub loop-number-preserved : goal.loop-number-preserved
loop-number-preserved c =
    let l = c.loop-number in
    record {
      unknowns = unknowns_more l.number _ _ _ l.invariant.unknowns c.in_ok-push.ensures.ok c.in_ok-ty.ensures.is;
      declarable = declarable_more _ _ _ l.invariant.declarable c.in_ok-push.ensures.ok c.in_ok-ty.ensures.may;
    }
