use Rattle.std.proofs.Common.{◌∙◌, sym}
use Rattle.da_scope.proofs.ArgumentLaws.{binds_step, left_step, binds_end}
use Rattle.da_scope.proofs.arguments.bind_args.Goals as goal

pub loop-slot-preserved : goal.loop-slot-preserved
loop-slot-preserved c = record {
  binds = binds_step c.args.slots.now _ c.args.args c.loop-slot.left c.remove.result _ _ _ c.loop-slot-test.true c.loop-slot.invariant.binds c.loop-slot.invariant.left c.remove.ensures.value c.in_ok-value.ensures c.in_ok-push.ensures.ok;
  left = left_step _ c.args.args c.loop-slot.left _ c.loop-slot.invariant.left c.remove.ensures.rest;
}

pub returns-then-len-eq0 : goal.returns-then-len-eq0
returns-then-len-eq0 c = binds_end c.args.slots.now _ c.args.args c.loop-slot.left _ c.loop-slot.invariant.binds c.loop-slot.invariant.left (sym c.len.ensures ∙ c.if-len-eq0.true)
