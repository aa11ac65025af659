use Rattle.std.specs.Prelude.{refl}
use Rattle.query_plan.specs.Questions.{item_met}
use Rattle.quant_norm.specs.Making.{alt_met, branch_met}
use Rattle.quant_norm.proofs.QuerySteps.{label_put, pass_put, item_further, met_further, met_ended}
use Rattle.quant_norm.proofs.FullPlans.{put_halted, item_over, met_over, if_over, call_over, await_over}
use Rattle.quant_norm.proofs.PutOn.{assign_ends, add_ends, del_ends, output_ends, send_ends, if_ends, while_ends, for_ends, call_ends, await_alone, await_ends, block_ends, block_over, branch_ends, alt_ends, alt_over}
use Rattle.quant_norm.proofs.classes.+items.Goals as goal

pub put_items-loop-item-preserved : goal.put_items-loop-item-preserved
put_items-loop-item-preserved t c = item_further _ _ _ _ _ _ c.loop-item.invariant c.loop-item-test.true c.item-item.is c.in_ok-further.ensures

pub put_items-returns : goal.put_items-returns
put_items-returns t c = met_ended item_met _ _ _ _ c.loop-item.invariant c.loop-item-test.false

pub put_branches-loop-branch-preserved : goal.put_branches-loop-branch-preserved
put_branches-loop-branch-preserved t c = met_further branch_met _ _ _ _ _ _ c.loop-branch.invariant c.loop-branch-test.true c.branch-item.is c.in_ok-further.ensures

pub put_branches-returns : goal.put_branches-returns
put_branches-returns t c = met_ended branch_met _ _ _ _ c.loop-branch.invariant c.loop-branch-test.false

pub put_alts-loop-alt-preserved : goal.put_alts-loop-alt-preserved
put_alts-loop-alt-preserved t c = met_further alt_met _ _ _ _ _ _ c.loop-alt.invariant c.loop-alt-test.true c.alt-item.is c.in_ok-further.ensures

pub put_alts-returns : goal.put_alts-returns
put_alts-returns t c = met_ended alt_met _ _ _ _ c.loop-alt.invariant c.loop-alt-test.false

pub put_items-returns-in_err-further : goal.put_items-returns-in_err-further
put_items-returns-in_err-further t c = put_halted _ _ _ _ c.from_residual.ensures.1 (λ e. item_over _ _ _ _ _ c.loop-item.invariant c.loop-item-test.true c.item-item.is (c.in_err-further.ensures e))

pub put_branches-returns-in_err-further : goal.put_branches-returns-in_err-further
put_branches-returns-in_err-further t c = put_halted _ _ _ _ c.from_residual.ensures.1 (λ e. met_over branch_met _ _ _ _ _ c.loop-branch.invariant c.loop-branch-test.true c.branch-item.is (c.in_err-further.ensures e))

pub put_alts-returns-in_err-further : goal.put_alts-returns-in_err-further
put_alts-returns-in_err-further t c = put_halted _ _ _ _ c.from_residual.ensures.1 (λ e. met_over alt_met _ _ _ _ _ c.loop-alt.invariant c.loop-alt-test.true c.alt-item.is (c.in_err-further.ensures e))

pub put_kind-returns-in-Label : goal.put_kind-returns-in-Label
put_kind-returns-in-Label t c = label_put _ _ _ _ c.in-Label.is

pub put_kind-returns-in-Pass : goal.put_kind-returns-in-Pass
put_kind-returns-in-Pass t c = pass_put _ _ _ c.in-Pass.is

pub put_kind-returns-in-Assign : goal.put_kind-returns-in-Assign
put_kind-returns-in-Assign t c = assign_ends _ _ _ _ _ _ _ _ c.in-Assign.is c.get.ensures c.put_expr.ensures

pub put_kind-returns-in-Add : goal.put_kind-returns-in-Add
put_kind-returns-in-Add t c = add_ends _ _ _ _ _ _ _ _ c.in-Add.is c.get-in-Add.ensures c.put_expr-in-Add.ensures

pub put_kind-returns-in-Del : goal.put_kind-returns-in-Del
put_kind-returns-in-Del t c = del_ends _ _ _ _ _ _ _ _ c.in-Del.is c.get-in-Del.ensures c.put_expr-in-Del.ensures

pub put_kind-returns-in-Output : goal.put_kind-returns-in-Output
put_kind-returns-in-Output t c = output_ends _ _ _ _ _ _ _ c.in-Output.is c.get-in-Output.ensures c.put_expr-in-Output.ensures

pub put_kind-returns-in-Send : goal.put_kind-returns-in-Send
put_kind-returns-in-Send t c = send_ends _ _ _ _ _ _ _ _ _ c.in-Send.is c.get-in-Send.ensures c.get-in-Send-2.ensures c.put_both.ensures

pub put_kind-returns-in_ok-middle-in-If : goal.put_kind-returns-in_ok-middle-in-If
put_kind-returns-in_ok-middle-in-If t c = if_ends _ _ _ _ _ _ _ _ _ _ c.in-If.is c.as_slice.ensures c.as_slice-in-If.ensures c.in_ok-middle-in-If.ensures c.put_items.ensures

pub put_kind-returns-in-While : goal.put_kind-returns-in-While
put_kind-returns-in-While t c = while_ends _ _ _ _ _ _ _ _ _ c.in-While.is c.get-in-While.ensures c.as_slice-in-While.ensures c.put_block.ensures

pub put_kind-returns-in-For : goal.put_kind-returns-in-For
put_kind-returns-in-For t c = for_ends _ _ _ _ _ _ _ _ _ _ c.in-For.is c.get-in-For.ensures c.as_slice-in-For.ensures c.put_block-in-For.ensures

pub put_kind-returns-in_ok-middle-in-Call : goal.put_kind-returns-in_ok-middle-in-Call
put_kind-returns-in_ok-middle-in-Call t c = call_ends _ _ _ _ _ _ _ _ _ _ c.in-Call.is c.as_slice-in-Call.ensures c.as_slice-in-Call-2.ensures c.in_ok-middle-in-Call.ensures c.put_items-in-Call.ensures

pub put_kind-returns-in-None : goal.put_kind-returns-in-None
put_kind-returns-in-None t c = await_alone _ _ _ _ _ _ _ _ c.in-Await.is c.as_slice-in-Await.ensures c.in-None.is c.in_ok-middle-in-Await.ensures

pub put_kind-returns-in-Some : goal.put_kind-returns-in-Some
put_kind-returns-in-Some t c = await_ends _ _ _ _ _ _ _ _ _ _ _ _ c.in-Await.is c.as_slice-in-Await.ensures c.in-Some.is c.as_slice-in-Some.ensures c.in_ok-middle-in-Await.ensures c.put_items-in-Some.ensures

pub put_kind-returns-in_err-middle-in-If : goal.put_kind-returns-in_err-middle-in-If
put_kind-returns-in_err-middle-in-If t c = put_halted _ _ _ _ c.from_residual.ensures.1 (λ e. if_over _ _ _ _ _ _ c.in-If.is c.as_slice.ensures (c.in_err-middle-in-If.ensures e))

pub put_kind-returns-in_err-middle-in-Call : goal.put_kind-returns-in_err-middle-in-Call
put_kind-returns-in_err-middle-in-Call t c = put_halted _ _ _ _ c.from_residual-in_err-middle-in-Call.ensures.1 (λ e. call_over _ _ _ _ _ _ _ c.in-Call.is c.as_slice-in-Call.ensures refl (c.in_err-middle-in-Call.ensures e))

pub put_kind-returns-in_err-middle-in-Await : goal.put_kind-returns-in_err-middle-in-Await
put_kind-returns-in_err-middle-in-Await t c = put_halted _ _ _ _ c.from_residual-in_err-middle-in-Await.ensures.1 (λ e. await_over _ _ _ _ _ _ _ c.in-Await.is c.as_slice-in-Await.ensures (c.in_err-middle-in-Await.ensures e))

pub put_block-returns : goal.put_block-returns
put_block-returns t c = block_ends _ _ _ _ _ _ _ c.in_ok-middle.ensures c.put_items.ensures

pub put_block-returns-in_err-middle : goal.put_block-returns-in_err-middle
put_block-returns-in_err-middle t c = put_halted _ _ _ _ c.from_residual.ensures.1 (λ e. block_over _ _ _ _ (c.in_err-middle.ensures e))

pub put_branch-returns : goal.put_branch-returns
put_branch-returns t c = branch_ends _ _ _ _ _ _ _ c.get.ensures c.as_slice.ensures c.put_block.ensures

pub put_alt-returns : goal.put_alt-returns
put_alt-returns t c = alt_ends _ _ _ _ _ _ _ _ c.get.ensures c.as_slice.ensures c.in_ok-middle.ensures c.put_items.ensures

pub put_alt-returns-in_err-middle : goal.put_alt-returns-in_err-middle
put_alt-returns-in_err-middle t c = put_halted _ _ _ _ c.from_residual.ensures.1 (λ e. alt_over _ _ _ _ c.get.ensures (c.in_err-middle.ensures e))
