use Rattle.std.proofs.Common.{◌≡◌, ◌+◌, ◌∙◌, ap, arith, false, length}
use Rattle.std.proofs.lemmas.List.{length_push}
use Rattle.query_plan.proofs.storing.none_kept.Goals as goal

pub loop-node-init : goal.loop-node-init
loop-node-init c = ap length c.new-kept.ensures

pub loop-node-preserved : goal.loop-node-preserved
loop-node-preserved c =
    let longer : length c.push.new.self ≡ length c.loop-node.kept + 1 = ap length c.in_ok-push.ensures.ok ∙ length_push c.loop-node.kept false in
    omega (arith, longer, c.loop-node.invariant)
