use Rattle.run_page.proofs.WalkLemmas.{first_cut, matched_first, no_first}
use Rattle.run_page.proofs.changes.split_first.Goals as goal

pub returns-in-len1-up : goal.returns-in-len1-up
returns-in-len1-up c = matched_first c.args.lists.now c.first-item.result c.as_slice.result.now _ (first_cut c.args.lists.now c.first-item.result c.in-len1-up.len_at_least c.first-item.is) c.as_slice.ensures

pub returns-in-empty : goal.returns-in-empty
returns-in-empty c = no_first c.args.lists.now c.in-empty.len_below
