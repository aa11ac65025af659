use Rattle.da_outside.proofs.OutsideLemmas.{prefix_whole}
use Rattle.schedule_hunt.proofs.SeekLemmas.{begun}
use Rattle.schedule_hunt.proofs.hunting.hunt.Goals as goal

pub returns-in-Ok-write_all-clause-prefix : goal.returns-in-Ok-write_all-clause-prefix
returns-in-Ok-write_all-clause-prefix g c = begun _ _ _ _ _ _ _ _ c.as_slice.ensures (rw c.in-Some.is at c.in-Ok.ensures) (prefix_whole _ _ _ c.in-Ok-write_all.ensures.ok)

pub returns-in-Err-Failed-clause-prefix : goal.returns-in-Err-Failed-clause-prefix
returns-in-Err-Failed-clause-prefix g c = begun _ _ _ _ _ _ _ _ c.as_slice.ensures (rw c.in-Some.is at c.in-Ok.ensures) c.in-Err-Failed.ensures.prefix

pub returns-clause-prefix : goal.returns-clause-prefix
returns-clause-prefix g c = begun _ _ _ _ _ _ _ _ c.as_slice.ensures (rw c.in-Some.is at c.in-Ok.ensures) c.in-Err-Memory.ensures.prefix
