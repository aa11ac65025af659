use Rattle.std.proofs.Common.{◌∙◌, [], ◌∷◌, ◌++◌, ap, sym, map}
use Rattle.std.specs.Prelude.{unwrap_or}
use Rattle.da_lang.specs.declared.program.Alt.{out-Alt}
use Rattle.da_core.specs.Waits.{all_taken, alt_take, alts_taken, branch_take, items_take, kind_take, next_flag}
use Rattle.da_core.proofs.WaitForms.{alts_on, await_alone, await_parts, branch_layer, came_on, handed_on, if_parts, item_layer, nothing_more, take-Add, take-Assign, take-Del, take-Output, take-Pass, take-Send}
use Rattle.da_core.proofs.waits.+waits.Goals as goal

pub add_items-loop-item-preserved : goal.add_items-loop-item-preserved
add_items-loop-item-preserved t c =
    came_on _ _ _ _ _ _ _ _ _ _ _ c.loop-item-test.true c.item-item.is (item_layer c.item-item.result) c.loop-item.invariant c.in_ok-add_kind.ensures.waits c.in_ok-add_kind.ensures.left

pub add_branches-loop-branch-preserved : goal.add_branches-loop-branch-preserved
add_branches-loop-branch-preserved t c =
    came_on _ _ _ _ _ _ _ _ _ _ _ c.loop-branch-test.true c.branch-item.is (branch_layer c.branch-item.result ∙ ap items_take (sym c.as_slice.ensures)) c.loop-branch.invariant
    c.in_ok-add_items.ensures.waits c.in_ok-add_items.ensures.left

pub alternatives-loop-alt-preserved : goal.alternatives-loop-alt-preserved
alternatives-loop-alt-preserved t c =
    let x = c.alt-item.result in
    let left = c.loop-alt.flags.rest.now in
    let items = c.as_slice-in-loop-alt.result.now in
    let pushed = ap (λ flag. c.loop-alt.own ++ record { flag = flag; found = (out-Alt x).found; binds = c.in_ok-copy_slots.field-0 } ∷ []) c.next.ensures.flag in
    let bound = ap (λ slots. c.loop-alt.own ++ record { flag = next_flag left; found = (out-Alt x).found; binds = slots } ∷ []) (c.in_ok-copy_slots.ensures ∙ c.as_slice.ensures) in
    alts_on _ _ _ items _ _ _ _ _ _ _ _ c.loop-alt-test.true c.alt-item.is c.as_slice-in-loop-alt.ensures c.loop-alt.invariant (c.in_ok-push.ensures.ok ∙ pushed ∙ bound)
    (c.in_ok-add_items.ensures.waits ∙ ap (λ flags. c.loop-alt.inside ++ (items_take items flags).waits) c.next.ensures.left)
    (c.in_ok-add_items.ensures.left ∙ ap (λ flags. (items_take items flags).left) c.next.ensures.left)

pub add_kind-returns-in_ok-add_branches-in-If-clause-waits : goal.add_kind-returns-in_ok-add_branches-in-If-clause-waits
add_kind-returns-in_ok-add_branches-in-If-clause-waits t c =
    let flags = c.args.flags.now.rest.now in
    let first = (all_taken (map branch_take c.as_slice.result.now) flags).waits in
    let rest = (items_take c.as_slice-in-If.result.now c.add_branches.new.flags.rest.now).waits in
    handed_on c.add_items.result c.args.waits.now c.add_branches.new.waits c.add_items.new.waits first rest (kind_take c.args.kind.now flags).waits c.add_items.ensures.waits
    c.in_ok-add_branches-in-If.ensures.waits
    (if_parts c.args.kind.now c.in-If.branches c.as_slice.result.now c.in-If.other c.as_slice-in-If.result.now flags c.add_branches.new.flags.rest.now c.in-If.is c.as_slice.ensures c.as_slice-in-If.ensures
    c.in_ok-add_branches-in-If.ensures.left)

pub add_kind-returns-in-None-clause-waits : goal.add_kind-returns-in-None-clause-waits
add_kind-returns-in-None-clause-waits t c =
    let flags = c.args.flags.now.rest.now in
    let alts = c.as_slice-in-Await.result.now in
    let made = c.in_ok-own-in-Await.ensures in
    await_alone c.args.kind.now c.in-Await.alts alts c.in-Await.timeout c.in-Await.label c.in_ok-own-in-Await.own c.is_some.result c.alternatives.new.inside c.args.waits.now c.put_await.new.waits flags
    c.in-Await.is c.as_slice-in-Await.ensures c.in-None.is c.is_some.ensures made.own (made.inside ∙ ap (λ w. w ++ (alts_taken (map alt_take alts) flags).inside) c.new-inside.ensures)
    c.in_ok-put_await-in-Await.ensures

pub add_kind-returns-in-Some-clause-waits : goal.add_kind-returns-in-Some-clause-waits
add_kind-returns-in-Some-clause-waits t c =
    let flags = c.args.flags.now.rest.now in
    let alts = c.as_slice-in-Await.result.now in
    let body = c.as_slice-in-Some.result.now in
    let own = c.in_ok-own-in-Await.own in
    let made = c.in_ok-own-in-Await.ensures in
    let inside = c.alternatives.new.inside in
    let left = c.alternatives.new.flags.rest.now in
    handed_on c.add_items-in-Some.result c.args.waits.now c.put_await.new.waits c.add_items-in-Some.new.waits (record { alternatives = own; has_timeout = c.is_some.result; label = c.in-Await.label } ∷ inside) (items_take body left).waits
    (kind_take c.args.kind.now flags).waits c.add_items-in-Some.ensures.waits c.in_ok-put_await-in-Await.ensures
    (await_parts c.args.kind.now c.in-Await.alts alts c.in-Await.timeout body c.in-Await.label own c.is_some.result inside flags left c.in-Await.is c.as_slice-in-Await.ensures
    (ap (λ t. unwrap_or t []) c.in-Some.is ∙ sym c.as_slice-in-Some.ensures) c.is_some.ensures made.own (made.inside ∙ ap (λ w. w ++ (alts_taken (map alt_take alts) flags).inside) c.new-inside.ensures) made.left)

pub add_kind-returns-in-Assign-clause-waits : goal.add_kind-returns-in-Assign-clause-waits
add_kind-returns-in-Assign-clause-waits t c = let flags = c.args.flags.now.rest.now in nothing_more c.args.waits.now flags (kind_take c.args.kind.now flags) (ap (λ k. kind_take k flags) c.in-Assign.is ∙ take-Assign flags _ _)

pub add_kind-returns-in-Add-clause-waits : goal.add_kind-returns-in-Add-clause-waits
add_kind-returns-in-Add-clause-waits t c = let flags = c.args.flags.now.rest.now in nothing_more c.args.waits.now flags (kind_take c.args.kind.now flags) (ap (λ k. kind_take k flags) c.in-Add.is ∙ take-Add flags _ _)

pub add_kind-returns-in-Del-clause-waits : goal.add_kind-returns-in-Del-clause-waits
add_kind-returns-in-Del-clause-waits t c = let flags = c.args.flags.now.rest.now in nothing_more c.args.waits.now flags (kind_take c.args.kind.now flags) (ap (λ k. kind_take k flags) c.in-Del.is ∙ take-Del flags _ _)

pub add_kind-returns-in-Send-clause-waits : goal.add_kind-returns-in-Send-clause-waits
add_kind-returns-in-Send-clause-waits t c = let flags = c.args.flags.now.rest.now in nothing_more c.args.waits.now flags (kind_take c.args.kind.now flags) (ap (λ k. kind_take k flags) c.in-Send.is ∙ take-Send flags _ _)

pub add_kind-returns-in-Output-clause-waits : goal.add_kind-returns-in-Output-clause-waits
add_kind-returns-in-Output-clause-waits t c = let flags = c.args.flags.now.rest.now in nothing_more c.args.waits.now flags (kind_take c.args.kind.now flags) (ap (λ k. kind_take k flags) c.in-Output.is ∙ take-Output flags _)

pub add_kind-returns-in-Pass-clause-waits : goal.add_kind-returns-in-Pass-clause-waits
add_kind-returns-in-Pass-clause-waits t c = let flags = c.args.flags.now.rest.now in nothing_more c.args.waits.now flags (kind_take c.args.kind.now flags) (ap (λ k. kind_take k flags) c.in-Pass.is ∙ take-Pass flags)
