use Rattle.std.proofs.Common.{◌∙◌}
use Rattle.da_meaning.proofs.OutsideAt.{values_step, tables_step, links_step, link_tables_step}
use Rattle.da_meaning.proofs.expr.+outside.Goals as goal

pub all_outside-loop-x-preserved : goal.all_outside-loop-x-preserved
all_outside-loop-x-preserved t c = record {
  found = values_step _ _ _ c.args.scope.now c.args.tables.now _ _ _ _ c.loop-x-test.true c.x-item.is c.loop-x.invariant.found c.loop-x.invariant.tables c.in_ok-outside.ensures.value c.in_ok-push.ensures.ok;
  tables = tables_step _ _ _ c.args.scope.now c.args.tables.now _ _ c.loop-x-test.true c.x-item.is c.loop-x.invariant.tables c.in_ok-outside.ensures.tables;
  slots = c.in_ok-outside.ensures.slots ∙ c.loop-x.invariant.slots;
}

pub links_outside-loop-link-preserved : goal.links_outside-loop-link-preserved
links_outside-loop-link-preserved t c = record {
  found = links_step _ _ _ _ c.args.scope.now c.args.tables.now _ _ _ _ c.loop-link-test.true c.link-item.is c.loop-link.invariant.found c.loop-link.invariant.tables c.get.ensures c.in_ok-operand.ensures.value c.in_ok-push.ensures.ok;
  tables = link_tables_step _ _ _ _ c.args.scope.now c.args.tables.now _ _ c.loop-link-test.true c.link-item.is c.loop-link.invariant.tables c.get.ensures c.in_ok-operand.ensures.tables;
  slots = c.in_ok-operand.ensures.slots ∙ c.loop-link.invariant.slots;
}

pub outside-alone-requires : goal.outside-alone-requires
outside-alone-requires t c = record {
  no_or = c.in_default.not-Or;
  no_and = c.in_default.not-And;
  no_not = c.in_default.not-Not;
  no_cmp = c.in_default.not-Cmp;
  no_member = c.in_default.not-Member;
  no_chain = c.in_default.not-Chain;
  no_range = c.in_default.not-Range;
  no_tuple = c.in_default.not-Tuple;
  no_set = c.in_default.not-SetOf;
}
