use Rattle.std.proofs.Common.{rules}
use Rattle.node_run.specs.Gifts.{GainsSome}
use Rattle.node_run.specs.NodeRun.{gifts}
use Rattle.node_run.proofs.GivingLaws.{gave_on, gave_some}
use Rattle.node_run.proofs.TalkLaws.{carries_then}
use Rattle.node_run.proofs.giving.give_all.Goals as goal

pub returns-in_err-give-clause-prefix : goal.returns-in_err-give-clause-prefix
returns-in_err-give-clause-prefix g c =
    let some : GainsSome (g.L.Link.told c.args.link.now) (g.L.Link.told c.give.new.link) (gifts c.args.actions.now) =
    gave_some _ _ _ _ _ _ c.loop-action-test.true c.action-item.is c.loop-action.invariant.gave c.in_err-give.ensures.same c.in_err-give.ensures.some in
    search rules

pub returns-in_err-give-clause-carries : goal.returns-in_err-give-clause-carries
returns-in_err-give-clause-carries g c = carries_then _ _ _ c.loop-action.invariant.carries c.give.ensures.carries

pub loop-action-preserved : goal.loop-action-preserved
loop-action-preserved g c = record {
  gave = gave_on _ _ _ _ _ _ c.loop-action-test.true c.action-item.is c.loop-action.invariant.gave c.in_ok-give.ensures.given;
  carries = carries_then _ _ _ c.loop-action.invariant.carries c.give.ensures.carries;
  kept = search rules;
  faults = search rules;
}
