use Rattle.da_outside.proofs.OutsideLemmas.{prefix_read}
use Rattle.da_outside.proofs.transfer.read_piece.Goals as goal

pub returns-clause-prefix : goal.returns-clause-prefix
returns-clause-prefix g c = λ front. prefix_read _ _ _ _ _ _ _ c.len.ensures c.in_ok-count.ensures.bound front c.in_ok-count.ensures.bytes c.in_ok-append.ensures.ok
