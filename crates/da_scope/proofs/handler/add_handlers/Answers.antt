use Rattle.da_scope.proofs.ClassAt.{handlers_step, handler_tables_step}
use Rattle.da_scope.proofs.handler.add_handlers.Goals as goal

pub loop-member-preserved : goal.loop-member-preserved
loop-member-preserved c =
    let s = c.loop-member.invariant in
    let members = c.as_slice-member-items.result.now in
    let here = c.in_ok-add_handler.ensures in
    record {
      found = handlers_step c.args.home.now.class.now members _ c.member-item.result c.args.tables.now c.loop-member.tables c.args.found.now c.loop-member.found _ c.loop-member-test.true c.member-item.is s.found s.tables here.handlers;
      tables = handler_tables_step c.args.home.now.class.now members _ c.member-item.result c.args.tables.now c.loop-member.tables _ c.loop-member-test.true c.member-item.is s.tables here.tables;
    }
