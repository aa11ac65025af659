use Rattle.std.proofs.Common.{◌++◌, ◌∷◌, [], length, map, reverse, ap, sym, subst, ◌∙◌}
use Rattle.da_calls.specs.declared.order.Visit.TheVariants.{Enter, Leave}
use Rattle.da_calls.proofs.CallOrder.{Walk, starts, step_leaves, step_passes, step_enters, step_fewer, all_left}
use Rattle.da_calls.proofs.order.leaving_order.Goals as goal

pub loop-task-init : goal.loop-task-init
loop-task-init c =
    subst (λ d. Walk c.args.graph.now (length c.args.graph.now) c.in_ok-entered.entered.items (reverse c.in_ok-work.work) d) (sym (ap reverse c.new-order.ensures))
    (starts _ _ _ c.in_ok-entered.ensures c.in_ok-work.ensures)

pub loop-task-preserved-in-Continue-branch-3 : goal.loop-task-preserved-in-Continue-branch-3
loop-task-preserved-in-Continue-branch-3 c = step_leaves _ _ _ _ _ _ _ _ _ c.in-Some.ensures c.in-Leave.is c.in_ok-push-in-Leave.ensures.ok c.loop-task.invariant

pub loop-task-preserved-in-Continue-branch-5 : goal.loop-task-preserved-in-Continue-branch-5
loop-task-preserved-in-Continue-branch-5 c = step_enters _ _ _ _ _ _ _ _ _ _ c.index-graph-node.result c.requires
    (record {
      taken = c.in-Some.ensures;
      enters = c.in-Enter.is;
      read = c.index.ensures;
      new = c.if-not-index.true;
      row_is = c.index-graph-node.is;
      becomes = c.in_ok-enter_all-in-Enter.ensures ∙ ap (λ w. w ++ map Enter c.as_slice.result.now) c.in_ok-push-in-Enter.ensures.ok
          ∙ ap (λ r. (c.pop.new.self ++ Leave c.in-Enter.node ∷ []) ++ map Enter r) c.as_slice.ensures;
    })
    c.loop-task.invariant

pub loop-task-smaller-in-Continue-branch-5 : goal.loop-task-smaller-in-Continue-branch-5
loop-task-smaller-in-Continue-branch-5 c = step_fewer _ _ _ _ _ _ _ _ _ _ c.index-graph-node.result
    (record {
      taken = c.in-Some.ensures;
      enters = c.in-Enter.is;
      read = c.index.ensures;
      new = c.if-not-index.true;
      row_is = c.index-graph-node.is;
      becomes = c.in_ok-enter_all-in-Enter.ensures ∙ ap (λ w. w ++ map Enter c.as_slice.result.now) c.in_ok-push-in-Enter.ensures.ok
          ∙ ap (λ r. (c.pop.new.self ++ Leave c.in-Enter.node ∷ []) ++ map Enter r) c.as_slice.ensures;
    })
    c.loop-task.invariant

pub loop-task-preserved : goal.loop-task-preserved
loop-task-preserved c = step_passes _ _ _ _ _ _ _ _ _ c.in-Some.ensures c.in-Enter.is c.index.ensures c.if-not-index.false c.loop-task.invariant

pub returns : goal.returns
returns c = all_left _ _ _ _ (ap reverse c.in_default.ensures.0) c.loop-task.invariant
