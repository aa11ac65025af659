use Rattle.std.proofs.Common.{rules}
use Rattle.da_outside.proofs.OutsideLemmas.{appends_more}
use Rattle.da_outside.proofs.transfer.write_all.Goals as goal

pub pieces-preserved : goal.pieces-preserved
pieces-preserved g c = record {
  within = search rules;
  taken = appends_more _ _ _ _ _ _ c.pieces.invariant.taken c.in_ok-place.ensures.took;
  faults = search rules;
}
