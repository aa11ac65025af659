use Rattle.da_core.proofs.LocalParts.{put_four}
use Rattle.da_core.proofs.process.Core.put_place.Goals as goal

pub returns : goal.returns
returns c =
    put_four c.args.parts.now _ _ _ _ _ _ _ _ _ _ c.in_ok-put_number.ensures c.in_ok-put_number-2.ensures c.in_ok-put_number-3.ensures c.place_kind.ensures c.in_ok-put_number-4.ensures c.alternatives_at.ensures
