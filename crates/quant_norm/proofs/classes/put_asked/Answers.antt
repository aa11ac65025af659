use Rattle.std.proofs.Common.{inr, arith}
use Rattle.quant_norm.proofs.QuerySteps.{asked_further, asked_ends}
use Rattle.quant_norm.proofs.FullPlans.{put_halted, asked_over}
use Rattle.quant_norm.proofs.classes.put_asked.Goals as goal

pub loop-left-preserved : goal.loop-left-preserved
loop-left-preserved c = asked_further _ c.loop-left.left c.loop-left.next c.args.queries.now _ _ _ c.loop-left.invariant (omega arith) (omega arith) c.index-queries-next.is c.in_ok-put_query.ensures

pub returns-in_err-put_query : goal.returns-in_err-put_query
returns-in_err-put_query c = put_halted _ _ _ _ c.from_residual.ensures.1 (λ e. asked_over _ c.loop-left.left c.loop-left.next c.args.queries.now _ _ c.loop-left.invariant (omega arith) (omega arith) c.index-queries-next.is (c.in_err-put_query.ensures e))

pub returns-else-next-queries : goal.returns-else-next-queries
returns-else-next-queries c = asked_ends _ c.loop-left.left c.loop-left.next c.args.queries.now _ c.loop-left.invariant (inr (omega arith))
