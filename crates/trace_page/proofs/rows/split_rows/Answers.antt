use Rattle.trace_page.proofs.RowLemmas.{split_end, split_first, split_on}
use Rattle.trace_page.proofs.rows.split_rows.Goals as goal

pub each-init : goal.each-init
each-init c = split_first c.args.actions _ _ _ c.reverse.ensures c.new-row.ensures c.new-rows.ensures

pub each-preserved : goal.each-preserved
each-preserved c = split_on c.args.actions c.each.left c.pop.new.self c.in-Some.action c.each.row c.add_action.new.row c.each.rows c.add_action.new.rows c.in-Some.ensures c.in_ok-add_action.ensures c.each.invariant

pub returns : goal.returns
returns c = split_end c.args.actions c.each.left c.each.row c.each.rows c.end_last.new.rows c.in_default.ensures.0 c.in_ok-end_last.ensures c.each.invariant
