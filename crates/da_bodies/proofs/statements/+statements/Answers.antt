use Rattle.std.proofs.Common.{◌≡◌, ◌∙◌, sym, ap, ◌-◌, length, drop, take}
use Rattle.da_lang.specs.ExprNames.{Local, found_names}
use Rattle.da_bodies.specs.Told.{entered_each}
use Rattle.da_bodies.proofs.ToldExprs.{pushed}
use Rattle.da_bodies.proofs.ToldLines.{told_block-nil, after_stmts-nil, told_block-more, after_stmts-more, left_after_stmts}
use Rattle.da_bodies.proofs.statements.+statements.Goals as goal

pub check_block-loop-stmt-init : goal.check_block-loop-stmt-init
check_block-loop-stmt-init t c = record {
  told = sym (told_block-nil c.args.names.now c.args.least.now);
  entered = sym (after_stmts-nil c.args.names.now);
}

pub check_block-loop-stmt-preserved : goal.check_block-loop-stmt-preserved
check_block-loop-stmt-preserved t c =
    let l = c.loop-stmt in
    record {
      told = told_block-more c.args.names.now l.names c.args.least.now l.least c.check_stmt.new.least c.args.body.now l.stmt-index c.stmt-item.result c.loop-stmt-test.true c.stmt-item.is l.invariant.told l.invariant.entered c.in_ok-check_stmt.ensures.told;
      entered = after_stmts-more c.args.names.now l.names c.check_stmt.new.names c.args.body.now l.stmt-index c.stmt-item.result c.loop-stmt-test.true c.stmt-item.is l.invariant.entered c.in_ok-check_stmt.ensures.entered;
    }

pub check_block-returns-clause-same : goal.check_block-returns-clause-same
check_block-returns-clause-same t c =
    let old = c.args.names.now in
    let l = c.loop-stmt in
    c.leave_to.ensures ∙ ap (λ n. drop (length l.names - n) l.names) c.len-outside.ensures
    ∙ ap (λ s. drop (length s - length old) s) l.invariant.entered ∙ left_after_stmts old (take l.stmt-index c.args.body.now)

pub check_branch-returns-clause-same : goal.check_branch-returns-clause-same
check_branch-returns-clause-same t c =
    let old = c.args.names.now in
    let outside = c.check_expr.new.names in
    let inside : c.check_block.new.names ≡ entered_each Local (found_names c.get-2.result.now) outside = c.in_ok-check_block.ensures.same ∙ c.in_ok-enter_found.ensures in
    c.leave_to.ensures ∙ ap (λ n. drop (length c.check_block.new.names - n) c.check_block.new.names) c.len-outside.ensures
    ∙ ap (λ s. drop (length s - length outside) s) inside ∙ pushed Local (found_names c.get-2.result.now) outside ∙ c.in_ok-check_expr.ensures.same
