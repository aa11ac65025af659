use Rattle.std.proofs.Common.{refl}
use Rattle.trace_page.proofs.SpotLemmas.{action_on, actions_end}
use Rattle.trace_page.proofs.spots.add_actions.Goals as goal

pub loop-action-preserved : goal.loop-action-preserved
loop-action-preserved c =
    let l = c.loop-action in
    action_on _ c.as_slice-action-items.result.now l.action-index c.action-item.result c.args.at.now.event l.line c.in_ok-below.below _ l.spots c.push.new.self
    c.loop-action-test.true c.action-item.is l.invariant c.in_ok-push.ensures.ok refl c.in_ok-below.ensures

pub returns : goal.returns
returns c =
    let l = c.loop-action in
    actions_end c.as_slice-action-items.result.now c.args.at.now.row.now.actions l.action-index c.args.at.now.event c.args.at.now.line l.line c.args.spots.now l.spots c.loop-action-test.false c.as_slice-action-items.ensures l.invariant
