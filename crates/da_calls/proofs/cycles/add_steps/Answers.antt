use Rattle.std.proofs.Common.{◌<◌, length, get_or, arith}
use Rattle.std.proofs.lemmas.List.{get_or_default, take_more}
use Rattle.std.proofs.lemmas.List.Elements.{Contains-get_or}
use Rattle.da_calls.proofs.CallCycles.{adds_more}
use Rattle.da_calls.proofs.cycles.add_steps.Goals as goal

pub offset_bounds-graph-node : goal.offset_bounds-graph-node
offset_bounds-graph-node c =
    let within : get_or c.args.nodes.now c.loop-node.node-index 0 < length c.args.graph.now = c.requires _ (Contains-get_or c.args.nodes.now c.loop-node.node-index 0 c.loop-node-test.true) in
    omega (arith, within)

pub bounds-graph-node : goal.bounds-graph-node
bounds-graph-node c =
    let within : get_or c.args.nodes.now c.loop-node.node-index 0 < length c.args.graph.now = c.requires _ (Contains-get_or c.args.nodes.now c.loop-node.node-index 0 c.loop-node-test.true) in
    omega (arith, within)

pub loop-node-preserved : goal.loop-node-preserved
loop-node-preserved c =
    let below : get_or c.args.nodes.now c.loop-node.node-index 0 < length c.args.graph.now = c.requires _ (Contains-get_or c.args.nodes.now c.loop-node.node-index 0 c.loop-node-test.true) in
    let within : get_or c.args.nodes.now c.loop-node.node-index 0 < length c.loop-node.graph = omega (arith, below) in
    adds_more _ _ _ _ _ _ _ _ (take_more c.args.nodes.now c.loop-node.node-index 0 c.loop-node-test.true) within (get_or_default _ _ _ _ within) c.in_ok-push.ensures.ok c.loop-node.invariant
