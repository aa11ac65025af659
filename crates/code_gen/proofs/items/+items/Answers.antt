use Rattle.std.proofs.Common.{◌≡◌, List, [], ◌∷◌, ◌++◌, Option, Some, ap, map, refl, subst, sym, take, ◌∙◌}
use Rattle.std.proofs.lemmas.Result.{on_ok_weaker}
use Rattle.da_lang.specs.declared.code.Instr.TheVariants as op
use Rattle.da_lang.specs.declared.program.Item.{Item}
use Rattle.da_lang.specs.declared.program.ItemKind.TheViews.{out-Alt}
use Rattle.da_lang.specs.Turns.{slot_of_arg, value_of_arg}
use Rattle.code_gen.specs.Made.{Awaiting, MadeBlock, MadeBranches, MadeExpr, MadeExprs, MadeFound, MadeStores, filled}
use Rattle.code_gen.proofs.ItemCode.{blocks_all, blocks_next, branches_whole, made_branch, made_branches_next, made_items_next, made_no_branch}
use Rattle.code_gen.proofs.PointCode.{await_entered, made_await}
use Rattle.code_gen.proofs.WorkCode.{await_ends, await_with, made_call, made_if, made_loop, made_pass, made_send, made_while}
use Rattle.code_gen.proofs.items.+items.Goals as goal

pub emit_while-returns : goal.emit_while-returns
emit_while-returns t c =
    made_while _ _ _ _ _ _ _ _ _ _ _ _ _ c.here-start.ensures c.in_ok-put.ensures c.in_ok-emit_expr.ensures c.len-test.ensures c.in_ok-put-2.ensures c.in_ok-emit_block.ensures c.in_ok-put-3.ensures c.here-exit.ensures c.patch.ensures

pub emit_loop-returns : goal.emit_loop-returns
emit_loop-returns t c =
    made_loop _ _ _ _ _ _ _ _ _ _ _ _ c.here-start.ensures c.in_ok-put.ensures c.len-hole.ensures c.in_ok-put-2.ensures c.in_ok-emit_block.ensures c.in_ok-put-3.ensures c.here-done.ensures c.patch.ensures

pub emit_branch-returns : goal.emit_branch-returns
emit_branch-returns t c =
    made_branch _ _ _ _ _ _ _ c.args.branch.now _ _ _ (subst (MadeExpr _ _) c.get.ensures c.in_ok-emit_expr.ensures) c.len-test.ensures c.in_ok-put.ensures
    (subst (MadeFound _ _ _) c.as_slice.ensures c.in_ok-emit_found.ensures) (subst (MadeBlock _ _) c.as_slice-2.ensures c.in_ok-emit_block.ensures) c.len-leave.ensures c.in_ok-put-2.ensures c.here-next.ensures c.patch.ensures

pub emit_branches-parts-init : goal.emit_branches-parts-init
emit_branches-parts-init t c = made_no_branch _ _ c.new-leaves.ensures

pub emit_branches-parts-preserved : goal.emit_branches-parts-preserved
emit_branches-parts-preserved t c =
    made_branches_next _ _ _ c.args.branches.now c.parts.branch-index _ _ _ c.branch-item.result c.parts-test.true c.branch-item.is c.parts.invariant c.in_ok-emit_branch.ensures c.in_ok-push.ensures.ok

pub emit_branches-returns : goal.emit_branches-returns
emit_branches-returns t c = branches_whole _ _ c.args.branches.now c.parts.branch-index _ c.parts-test.false c.parts.invariant

pub emit_alts-bodies-init : goal.emit_alts-bodies-init
emit_alts-bodies-init t c = c.in_ok-begun.ensures

pub emit_alts-bodies-preserved : goal.emit_alts-bodies-preserved
emit_alts-bodies-preserved t c =
    subst (λ l. Awaiting c.args.code.now c.emit_entered.new.code l c.emit_entered.new.begun) (sym (blocks_next c.args.alts.now c.bodies.alt-index c.alt-item.result c.bodies-test.true c.alt-item.is))
    (subst (λ b. Awaiting c.args.code.now c.emit_entered.new.code (map (λ a. (out-Alt a).body) (take c.bodies.alt-index c.args.alts.now) ++ b ∷ []) c.emit_entered.new.begun) c.as_slice.ensures
    (c.in_ok-emit_entered.ensures _ _ c.bodies.invariant))

pub emit_alts-returns : goal.emit_alts-returns
emit_alts-returns t c = subst (λ l. Awaiting c.args.code.now c.bodies.code l c.bodies.begun) (blocks_all c.args.alts.now c.bodies.alt-index c.bodies-test.false) c.bodies.invariant

pub emit_timeout-returns : goal.emit_timeout-returns
emit_timeout-returns t c = λ old bodies awaiting. made_await _ _ _ _ _ (c.in_ok-emit_entered.ensures old bodies awaiting) c.end_await.ensures

pub emit_entered-returns : goal.emit_entered-returns
emit_entered-returns t c = λ old bodies awaiting.
    on_ok_weaker _ (λ put. await_entered _ _ _ _ _ _ _ _ _ _ c.here.ensures c.in_ok-emit_block.ensures c.len.ensures put refl c.in_ok-push.ensures.ok c.in_ok-push-2.ensures.ok awaiting) c.put.ensures

pub emit_block-statements-preserved : goal.emit_block-statements-preserved
emit_block-statements-preserved t c =
    made_items_next _ _ _ c.args.items.now c.statements.item-index c.item-item.result c.statements-test.true c.item-item.is c.statements.invariant c.in_ok-emit_item.ensures

pub emit_item-returns-in_ok-emit_expr-in-Send-2 : goal.emit_item-returns-in_ok-emit_expr-in-Send-2
emit_item-returns-in_ok-emit_expr-in-Send-2 t c =
    let message = subst (MadeExpr _ _) c.get-in-Send.ensures c.in_ok-emit_expr-in-Send.ensures in
    let to = subst (MadeExpr _ _) c.get-in-Send-2.ensures c.in_ok-emit_expr-in-Send-2.ensures in
    on_ok_weaker _ (made_send _ _ _ _ _ c.args.item.now _ _ c.in-Send.is c.in_ok-put-in-Send.ensures message to) c.put-in-Send.ensures

pub emit_item-returns-in_ok-emit_block-in-If : goal.emit_item-returns-in_ok-emit_block-in-If
emit_item-returns-in_ok-emit_block-in-If t c =
    let branches = subst (λ bs. MadeBranches c.put-in-If.new.code c.emit_branches.new.code bs c.in_ok-leaves-in-If.leaves) c.as_slice.ensures c.in_ok-leaves-in-If.ensures in
    let block = subst (MadeBlock _ _) c.as_slice-in-If.ensures c.in_ok-emit_block-in-If.ensures in
    let filled_so = c.fill_jumps.ensures ∙ ap (λ l. filled c.emit_block.new.code l (op.Jump c.here-exit.result)) c.as_slice-in-If-2.ensures in
    made_if _ _ _ _ _ c.args.item.now _ _ _ _ c.in-If.is c.in_ok-put-in-If.ensures branches block c.here-exit.ensures filled_so

pub emit_item-returns-in_ok-emit_bound-in-Call : goal.emit_item-returns-in_ok-emit_bound-in-Call
emit_item-returns-in_ok-emit_bound-in-Call t c =
    let values = subst (λ l. MadeExprs c.put-in-Call.new.code c.emit_values.new.code (map value_of_arg l)) c.as_slice-in-Call.ensures c.in_ok-emit_values-in-Call.ensures in
    let stores = subst (λ l. MadeStores c.emit_values.new.code c.emit_bound.new.code (map slot_of_arg l)) c.as_slice-in-Call-2.ensures c.in_ok-emit_bound-in-Call.ensures in
    on_ok_weaker _ (λ (block : MadeBlock c.emit_bound.new.code c.emit_block-in-Call.new.code c.as_slice-in-Call-3.result.now). made_call _ _ _ _ _ c.args.item.now _ _ c.in-Call.is c.in_ok-put-in-Call.ensures values stores (subst (MadeBlock _ _) c.as_slice-in-Call-3.ensures block)) c.emit_block-in-Call.ensures

pub emit_item-returns-in-Pass : goal.emit_item-returns-in-Pass
emit_item-returns-in-Pass t c =
    on_ok_weaker _ (made_pass _ _ c.args.item.now c.in-Pass.is) c.put-in-Pass.ensures

pub emit_item-returns-in-None : goal.emit_item-returns-in-None
emit_item-returns-in-None t c =
    let begun = subst (λ l. Awaiting c.args.code.now c.emit_alts.new.code (map (λ a. (out-Alt a).body) l) c.in_ok-begun-in-Await.begun) c.as_slice-in-Await.ensures c.in_ok-begun-in-Await.ensures in
    await_ends _ _ _ c.args.item.now _ _ _ _ c.in-Await.is c.in-None.is begun c.end_await.ensures

pub emit_item-returns-in-Some : goal.emit_item-returns-in-Some
emit_item-returns-in-Some t c =
    let begun = subst (λ l. Awaiting c.args.code.now c.emit_alts.new.code (map (λ a. (out-Alt a).body) l) c.in_ok-begun-in-Await.begun) c.as_slice-in-Await.ensures c.in_ok-begun-in-Await.ensures in
    let some : ◌≡◌ {A = Option (List Item)} c.in-Await.timeout (Some c.as_slice-in-Some.result.now) = c.in-Some.is ∙ ap Some (sym c.as_slice-in-Some.ensures) in
    on_ok_weaker _ (await_with _ _ c.args.item.now _ _ _ _ c.in-Await.is some) (c.emit_timeout.ensures _ _ begun)
