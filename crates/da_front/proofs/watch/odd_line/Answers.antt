use Rattle.da_front.proofs.WatchLemmas.{odd_from, odd_none}
use Rattle.da_front.proofs.watch.odd_line.Goals as goal

pub returns-in_default : goal.returns-in_default
returns-in_default c = odd_none c.args.main.now c.in_default.len_below

pub returns : goal.returns
returns c = odd_from c.args.main.now _ c.line_of.result c.odd_among.result c.in-len1-up.len_at_least c.first-item.is c.line_of.ensures c.odd_among.ensures
