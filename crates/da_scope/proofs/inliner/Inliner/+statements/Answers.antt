use Rattle.da_lang.specs.BodyMeaning.{Guarded, copies}
use Rattle.da_scope.proofs.StatementsAt.{items_step, came_step, part_step, after_step}
use Rattle.da_scope.proofs.inliner.Inliner.+statements.Goals as goal

pub block-loop-stmt-preserved : goal.block-loop-stmt-preserved
block-loop-stmt-preserved g t c =
    let copy = copies c.args.self.now.most c.args.self.now.home.now.class.now in
    let s = c.loop-stmt.invariant in
    let here = c.in_ok-statement.ensures in
    record {
      items = items_step copy c.args.stmts.now _ c.stmt-item.result c.args.scope.now c.loop-stmt.inner c.loop-stmt.label c.args.tables.now c.loop-stmt.tables _ _ _ c.loop-stmt-test.true c.stmt-item.is s.items s.came here.item c.in_ok-push.ensures.ok;
      came = came_step copy c.args.stmts.now _ c.stmt-item.result c.args.scope.now c.loop-stmt.inner _ c.loop-stmt.label _ c.args.tables.now c.loop-stmt.tables _ c.loop-stmt-test.true c.stmt-item.is s.came (c.label_of-label.ensures _ _ _) here.scope here.tables;
    }

pub branches-loop-branch-preserved : goal.branches-loop-branch-preserved
branches-loop-branch-preserved g t c =
    let copy = copies c.args.self.now.most c.args.self.now.home.now.class.now in
    let s = c.loop-branch.invariant in
    let here = c.in_ok-branch.ensures in
    record {
      found = part_step (λ (b : Guarded). b.branch) copy c.args.branches.now _ c.branch-item.result c.args.scope.now c.args.tables.now c.loop-branch.tables _ _ _ c.loop-branch-test.true c.branch-item.is s.found s.tables here.branch c.in_ok-push.ensures.ok;
      tables = after_step (λ (b : Guarded). b.branch) copy c.args.branches.now _ c.branch-item.result c.args.scope.now c.args.tables.now c.loop-branch.tables _ c.loop-branch-test.true c.branch-item.is s.tables here.tables;
    }

pub alternatives-loop-alt-preserved : goal.alternatives-loop-alt-preserved
alternatives-loop-alt-preserved g t c =
    let copy = copies c.args.self.now.most c.args.self.now.home.now.class.now in
    let s = c.loop-alt.invariant in
    let here = c.in_ok-alternative.ensures in
    record {
      found = part_step (λ (b : Guarded). b.alt) copy c.args.alts.now _ c.alt-item.result c.args.scope.now c.args.tables.now c.loop-alt.tables _ _ _ c.loop-alt-test.true c.alt-item.is s.found s.tables here.alt c.in_ok-push.ensures.ok;
      tables = after_step (λ (b : Guarded). b.alt) copy c.args.alts.now _ c.alt-item.result c.args.scope.now c.args.tables.now c.loop-alt.tables _ c.loop-alt-test.true c.alt-item.is s.tables here.tables;
    }
