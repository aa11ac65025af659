use Rattle.da_scope.proofs.SlotLaws.{members_scope, members_tables}
use Rattle.da_scope.proofs.slots.declare_variables.Goals as goal

pub loop-member-preserved : goal.loop-member-preserved
loop-member-preserved c =
    let s = c.loop-member.invariant in
    let here = c.in_ok-declare_variable.ensures in
    record {
      scope = members_scope c.args.members.now _ c.member-item.result c.args.tables.now c.loop-member.tables c.args.scope.now c.loop-member.scope _ c.loop-member-test.true c.member-item.is s.scope s.tables here.scope;
      tables = members_tables c.args.members.now _ c.member-item.result c.args.tables.now c.loop-member.tables _ c.loop-member-test.true c.member-item.is s.tables here.tables;
    }
