use Rattle.std.proofs.Common.{◌≡◌, ◌<◌, Contains, map, length, subst, ap, sym, ◌∙◌, arith}
use Rattle.da_calls.specs.CallCycles.{IsTurned}
use Rattle.da_calls.specs.CallMethods.{body_of, numbered}
use Rattle.da_calls.specs.CallNames.{number_in}
use Rattle.da_calls.specs.CallPaths.{MarksReached}
use Rattle.da_calls.specs.CallRows.{AreYieldPoints, call_rows}
use Rattle.da_calls.proofs.CallCycles.{turned_graph}
use Rattle.da_calls.proofs.CallTranslation.{made_graph, made_sized, made_tells, points_within, calls_within}
use Rattle.da_calls.proofs.graph.CallGraph.new.Goals as goal

pub turned-requires : goal.turned-requires
turned-requires c = made_graph c.args.class.now (numbered c.in_ok-methods.methods) (number_in c.in_ok-methods.methods.numbers) _ c.in_ok-methods.ensures
    (c.as_slice-graph.ensures.value ∙ c.in_ok-rows.ensures ∙ ap (λ l. call_rows (number_in c.in_ok-methods.methods.numbers) (map body_of l)) c.as_slice-list.ensures.value)

pub leaving_order-requires : goal.leaving_order-requires
leaving_order-requires c = made_graph c.args.class.now (numbered c.in_ok-methods.methods) (number_in c.in_ok-methods.methods.numbers) _ c.in_ok-methods.ensures
    (c.as_slice-graph.ensures.value ∙ c.in_ok-rows.ensures ∙ ap (λ l. call_rows (number_in c.in_ok-methods.methods.numbers) (map body_of l)) c.as_slice-list.ensures.value)

pub cycle_marks-requires-clause-graph : goal.cycle_marks-requires-clause-graph
cycle_marks-requires-clause-graph c = made_graph c.args.class.now (numbered c.in_ok-methods.methods) (number_in c.in_ok-methods.methods.numbers) _ c.in_ok-methods.ensures
    (c.as_slice-graph.ensures.value ∙ c.in_ok-rows.ensures ∙ ap (λ l. call_rows (number_in c.in_ok-methods.methods.numbers) (map body_of l)) c.as_slice-list.ensures.value)

pub reach_marks-requires-2-clause-graph : goal.reach_marks-requires-2-clause-graph
reach_marks-requires-2-clause-graph c = made_graph c.args.class.now (numbered c.in_ok-methods.methods) (number_in c.in_ok-methods.methods.numbers) _ c.in_ok-methods.ensures
    (c.as_slice-graph.ensures.value ∙ c.in_ok-rows.ensures ∙ ap (λ l. call_rows (number_in c.in_ok-methods.methods.numbers) (map body_of l)) c.as_slice-list.ensures.value)

pub reach_marks-requires-clause-graph : goal.reach_marks-requires-clause-graph
reach_marks-requires-clause-graph c = turned_graph c.as_slice-graph.result.now _ (subst (λ b. IsTurned c.as_slice-graph.result.now b) (sym c.as_slice-back.ensures.value) c.in_ok-turned_rows.ensures)

pub reach_marks-requires-clause-starts : goal.reach_marks-requires-clause-starts
reach_marks-requires-clause-starts c = λ k has.
    let points : AreYieldPoints (numbered c.in_ok-methods.methods) c.in_ok-points.points = subst (λ l. AreYieldPoints (map body_of l) c.in_ok-points.points) c.as_slice-list.ensures.value c.in_ok-points.ensures in
    let within : k < length (numbered c.in_ok-methods.methods) =
    points_within c.args.class.now (numbered c.in_ok-methods.methods) (number_in c.in_ok-methods.methods.numbers) c.in_ok-methods.ensures c.in_ok-points.points points k (subst (λ l. Contains l k) c.as_slice-2.ensures has) in
    let back : IsTurned c.as_slice-graph.result.now c.as_slice-back.result.now = subst (λ b. IsTurned c.as_slice-graph.result.now b) (sym c.as_slice-back.ensures.value) c.in_ok-turned_rows.ensures in
    let sized : length c.as_slice-graph.result.now ≡ length (numbered c.in_ok-methods.methods) = made_sized (numbered c.in_ok-methods.methods) (number_in c.in_ok-methods.methods.numbers) _ (c.as_slice-graph.ensures.value ∙ c.in_ok-rows.ensures ∙ ap (λ l. call_rows (number_in c.in_ok-methods.methods.numbers) (map body_of l)) c.as_slice-list.ensures.value) in
    omega (arith, within, back.sized, sized)

pub reach_marks-requires-2-clause-starts : goal.reach_marks-requires-2-clause-starts
reach_marks-requires-2-clause-starts c = λ k has.
    let within : k < length (numbered c.in_ok-methods.methods) =
    calls_within c.args.class.now (numbered c.in_ok-methods.methods) (number_in c.in_ok-methods.methods.numbers) c.in_ok-methods.ensures _ k (subst (λ l. Contains l k) (c.as_slice-3.ensures ∙ c.in_ok-starts.ensures) has) in
    let sized : length c.as_slice-graph.result.now ≡ length (numbered c.in_ok-methods.methods) = made_sized (numbered c.in_ok-methods.methods) (number_in c.in_ok-methods.methods.numbers) _ (c.as_slice-graph.ensures.value ∙ c.in_ok-rows.ensures ∙ ap (λ l. call_rows (number_in c.in_ok-methods.methods.numbers) (map body_of l)) c.as_slice-list.ensures.value) in
    omega (arith, within, sized)

pub returns-clause-graph : goal.returns-clause-graph
returns-clause-graph c = made_tells c.args.class.now (numbered c.in_ok-methods.methods) (number_in c.in_ok-methods.methods.numbers) c.as_slice-graph.result.now c.as_slice-back.result.now _ c.in_ok-points.points c.in_ok-starts.starts _ _ _ (record {
  numbers = c.in_ok-methods.ensures;
  rows = (c.as_slice-graph.ensures.value ∙ c.in_ok-rows.ensures ∙ ap (λ l. call_rows (number_in c.in_ok-methods.methods.numbers) (map body_of l)) c.as_slice-list.ensures.value);
  turned = subst (λ b. IsTurned c.as_slice-graph.result.now b) (sym c.as_slice-back.ensures.value) c.in_ok-turned_rows.ensures;
  leaves = c.in_ok-order.ensures;
  marks = c.in_ok-cycles.ensures;
  holding = subst (λ l. AreYieldPoints (map body_of l) c.in_ok-points.points) c.as_slice-list.ensures.value c.in_ok-points.ensures;
  from_points = subst (λ p. MarksReached c.as_slice-back.result.now p c.in_ok-yielding.yielding.items) c.as_slice-2.ensures c.in_ok-yielding.ensures;
  starting = c.in_ok-starts.ensures;
  from_starts = subst (λ s. MarksReached c.as_slice-graph.result.now s c.in_ok-reached.reached.items) c.as_slice-3.ensures c.in_ok-reached.ensures;
})
