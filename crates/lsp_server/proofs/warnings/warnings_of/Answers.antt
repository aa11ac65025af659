use Rattle.lsp_server.proofs.NoticeLemmas.{none_warned, warned_on}
use Rattle.lsp_server.proofs.warnings.warnings_of.Goals as goal

pub loop-remark-init : goal.loop-remark-init
loop-remark-init c = none_warned c.new-list.result.items c.new-list.ensures.items

pub loop-remark-preserved : goal.loop-remark-preserved
loop-remark-preserved c = warned_on c.loop-remark.list.items c.put_item.new.values.items c.in_ok-item.item c.in_ok-put_item.ensures c.loop-remark.invariant c.in_ok-item.ensures
