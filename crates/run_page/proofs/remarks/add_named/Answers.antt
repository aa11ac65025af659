use Rattle.run_page.proofs.RemarkLemmas.{named_all, named_next, nothing_left}
use Rattle.run_page.proofs.remarks.add_named.Goals as goal

pub bytes-preserved : goal.bytes-preserved
bytes-preserved c = named_next c.bytes.numbers c.add_here.new.numbers _ c.bytes.left.now c.in-len1-up.len_at_least c.in_ok-add_here.ensures c.bytes.invariant

pub returns : goal.returns
returns c = named_all c.bytes.numbers _ c.bytes.left.now (nothing_left c.bytes.left.now c.in_default.len_below) c.bytes.invariant
