use Rattle.std.proofs.Common.{◌≡◌, ◌<◌, ◌+◌, Some, slice_set, [], ◌∷◌, length, ap, sym, subst, ◌++◌, ◌∙◌, arith}
use Rattle.std.specs.Option.{is_none}
use Rattle.da_calls.proofs.CallSearch.{begins, skips, marks_it, ends, taken_within, fewer_left, left, row_read, none_from_test, mark_from_test, Marking}
use Rattle.da_calls.proofs.search.mark_from.Goals as goal

pub loop-node-init : goal.loop-node-init
loop-node-init c = subst (λ w. Marking c.args.graph.now c.args.from c.args.marks.now c.args.marks.now w) (sym (c.in_ok-push.ensures.ok ∙ ap (λ w. w ++ c.args.from ∷ []) c.new-work.ensures)) (begins _ _ _ c.requires.from)

pub offset_bounds-marks-node : goal.offset_bounds-marks-node
offset_bounds-marks-node c = omega (arith, taken_within _ _ _ _ _ _ _ c.in-Some.ensures c.loop-node.invariant)

pub bounds-marks-node : goal.bounds-marks-node
bounds-marks-node c = omega (arith, taken_within _ _ _ _ _ _ _ c.in-Some.ensures c.loop-node.invariant)

pub offset_bounds-marks-node-then-is_none : goal.offset_bounds-marks-node-then-is_none
offset_bounds-marks-node-then-is_none c = omega (arith, taken_within _ _ _ _ _ _ _ c.in-Some.ensures c.loop-node.invariant)

pub bounds-marks-node-then-is_none : goal.bounds-marks-node-then-is_none
bounds-marks-node-then-is_none c = omega (arith, taken_within _ _ _ _ _ _ _ c.in-Some.ensures c.loop-node.invariant)

pub offset_bounds-graph-node : goal.offset_bounds-graph-node
offset_bounds-graph-node c = omega (arith, taken_within _ _ _ _ _ _ _ c.in-Some.ensures c.loop-node.invariant)

pub bounds-graph-node : goal.bounds-graph-node
bounds-graph-node c = taken_within _ _ _ _ _ _ _ c.in-Some.ensures c.loop-node.invariant

pub loop-node-preserved-in-Continue-branch-2 : goal.loop-node-preserved-in-Continue-branch-2
loop-node-preserved-in-Continue-branch-2 c =
    let within : c.in-Some.node < length c.args.graph.now = taken_within _ _ _ _ _ _ _ c.in-Some.ensures c.loop-node.invariant in
    subst (λ w. Marking c.args.graph.now c.args.from c.args.marks.now (slice_set c.loop-node.marks c.in-Some.node (Some c.args.from)) w)
    (sym (c.in_ok-push_all.ensures ∙ ap (λ w. c.pop.new.self ++ w) (c.as_slice.ensures ∙ row_read _ _ _ within c.index-graph-node.is)))
    (marks_it _ _ _ _ _ _ _ c.requires.graph c.requires.marks c.in-Some.ensures (none_from_test _ c.if-is_none.ensures) c.loop-node.invariant)

pub loop-node-smaller-in-Continue-branch-2 : goal.loop-node-smaller-in-Continue-branch-2
loop-node-smaller-in-Continue-branch-2 c =
    let within : c.in-Some.node < length c.args.graph.now = taken_within _ _ _ _ _ _ _ c.in-Some.ensures c.loop-node.invariant in
    let sized : length c.loop-node.marks ≡ length c.args.graph.now = c.loop-node.auto.marks ∙ c.requires.marks in
    subst (λ w. length w + left is_none (slice_set c.loop-node.marks c.in-Some.node (Some c.args.from)) c.args.graph.now < length c.loop-node.work + left is_none c.loop-node.marks c.args.graph.now)
    (sym (c.in_ok-push_all.ensures ∙ ap (λ w. c.pop.new.self ++ w) (c.as_slice.ensures ∙ row_read _ _ _ within c.index-graph-node.is)))
    (fewer_left _ _ _ _ _ c.args.from c.in-Some.ensures (omega arith) sized (none_from_test _ c.if-is_none.ensures))

pub loop-node-preserved : goal.loop-node-preserved
loop-node-preserved c = skips _ _ _ _ _ _ _ c.in-Some.ensures (mark_from_test _ c.if-is_none.ensures) c.loop-node.invariant

pub returns : goal.returns
returns c = ends _ _ _ _ _ c.in_default.ensures.0 c.loop-node.invariant
