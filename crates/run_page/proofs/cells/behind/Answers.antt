use Rattle.run_page.proofs.CellLemmas.{behind_first, behind_none}
use Rattle.run_page.proofs.cells.behind.Goals as goal

pub returns-in-len1-up : goal.returns-in-len1-up
returns-in-len1-up c = behind_first c.args.names.now c.in-len1-up.len_at_least

pub returns-in-empty : goal.returns-in-empty
returns-in-empty c = behind_none c.args.names.now c.in-empty.len_below
