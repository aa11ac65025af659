use Rattle.std.proofs.Common.{◌≡◌, ◌+◌, ◌<◌, List, ℕ, Contains, length, subst, ap, sym, ◌∙◌, arith}
use Rattle.da_calls.specs.CallPaths.{next_in}
use Rattle.da_calls.specs.CallCycles.{AddsSteps}
use Rattle.da_calls.proofs.CallSearch.{row_read}
use Rattle.da_calls.proofs.CallCycles.{Turning, turning_more, turning_all, written_back}
use Rattle.da_calls.proofs.cycles.turned.Goals as goal

pub add_steps-requires : goal.add_steps-requires
add_steps-requires c = λ n has.
    let row : c.as_slice.result.now ≡ next_in c.args.graph.now c.loop-node.node = c.as_slice.ensures ∙ row_read _ _ _ c.loop-node-test.true c.index-graph-node.is in
    let within : n < length c.args.graph.now = c.requires c.loop-node.node n (subst (λ r. Contains r n) row has) in
    let same : length c.as_mut_slice.result.now ≡ length c.args.graph.now = ap length c.as_mut_slice.ensures.value ∙ c.loop-node.invariant.sized in
    omega (arith, within, same)

pub loop-node-preserved : goal.loop-node-preserved
loop-node-preserved c =
    let row : c.as_slice.result.now ≡ next_in c.args.graph.now c.loop-node.node = c.as_slice.ensures ∙ row_read _ _ _ c.loop-node-test.true c.index-graph-node.is in
    let to_new : List (List ℕ) → Type 0 = λ old. AddsSteps c.loop-node.node (next_in c.args.graph.now c.loop-node.node) old c.add_steps.new.graph in
    let added : to_new c.loop-node.back.items =
    subst to_new c.as_mut_slice.ensures.value (subst (λ r. AddsSteps c.loop-node.node r c.as_mut_slice.result.now c.add_steps.new.graph) row c.in_ok-add_steps.ensures) in
    subst (λ back. Turning c.args.graph.now (c.loop-node.node + 1) back)
    (sym (written_back _ _ _ c.loop-node.back.ok.0 added.sized))
    (turning_more _ _ _ _ added c.loop-node.invariant)

pub returns : goal.returns
returns c =
    let all : c.loop-node.node ≡ length c.args.graph.now = omega arith in
    turning_all _ _ (subst (λ k. Turning c.args.graph.now k c.loop-node.back.items) all c.loop-node.invariant)
