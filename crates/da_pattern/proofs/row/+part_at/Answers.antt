use Rattle.da_pattern.proofs.RowsAt.{lent_passed}
use Rattle.da_pattern.proofs.row.+part_at.Goals as goal

pub returns-in-None : goal.returns-in-None
returns-in-None t c = lent_passed _ _ _ _ c.in-Lent.is c.in-None.ensures c.len.ensures
