use Rattle.std.proofs.Common.{◌++◌, ap, arith}
use Rattle.query_plan.specs.Storing.{number_in, picked}
use Rattle.query_plan.proofs.KeepLaws.{picks_end, picks_next}
use Rattle.query_plan.proofs.storing.pick.Goals as goal

pub loop-i-init : goal.loop-i-init
loop-i-init c = ap (λ ns. ns ++ picked (number_in c.args.numbers.now) c.args.kept.now c.args.nodes.now) c.new-picks.ensures

pub loop-i-preserved : goal.loop-i-preserved
loop-i-preserved c =
    picks_next (number_in c.args.numbers.now) (picked (number_in c.args.numbers.now) c.args.kept.now c.args.nodes.now) c.loop-i.picks c.pick_one.new.picks c.args.kept.now c.args.nodes.now c.loop-i.i _ c.index-nodes-i.result
    c.loop-i-test.true c.requires c.index-nodes-i.is c.in_ok-pick_one.ensures c.loop-i.invariant

pub returns : goal.returns
returns c = picks_end (number_in c.args.numbers.now) c.loop-i.picks c.args.kept.now c.args.nodes.now c.loop-i.i (omega (arith, c.loop-i-test.false)) c.loop-i.invariant
