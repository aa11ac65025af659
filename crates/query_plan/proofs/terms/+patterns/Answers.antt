use Rattle.std.proofs.Common.{arith}
use Rattle.query_plan.proofs.PlanTextAt.{none_yet, none_behind, no_text, no_parts, wrote_pattern, grown_by_pattern, wrote_patterns, grown_by_patterns}
use Rattle.query_plan.proofs.terms.+patterns.Goals as goal

pub put_patterns-loop-pattern-init : goal.put_patterns-loop-pattern-init
put_patterns-loop-pattern-init t c = (none_yet _ _, none_behind _)

pub put_patterns-loop-pattern-preserved : goal.put_patterns-loop-pattern-preserved
put_patterns-loop-pattern-preserved t c = (
  wrote_pattern _ _ _ _ _ _ _ _ _ c.pattern-item.is c.loop-pattern-test.true c.loop-pattern.invariant.0 c.loop-pattern.invariant.1 c.in_ok-append-in-len1-up.ensures.ok c.in_ok-behind-in-len1-up-2.ensures.text,
  grown_by_pattern _ _ _ _ _ _ c.pattern-item.is c.loop-pattern-test.true c.loop-pattern.invariant.1 c.in_ok-behind-in-len1-up-2.ensures.behind,
)

pub put_patterns-returns-in-empty-clause-text : goal.put_patterns-returns-in-empty-clause-text
put_patterns-returns-in-empty-clause-text t c = no_text _ _ _ c.in-empty.len_below

pub put_patterns-returns-in-empty-clause-behind : goal.put_patterns-returns-in-empty-clause-behind
put_patterns-returns-in-empty-clause-behind t c = no_parts _ _ c.in-empty.len_below

pub put_patterns-returns-after-loop-pattern-clause-text : goal.put_patterns-returns-after-loop-pattern-clause-text
put_patterns-returns-after-loop-pattern-clause-text t c =
    wrote_patterns _ _ _ _ _ _ _ _ c.in-len1-up.len_at_least c.first-item.is (omega (arith, c.loop-pattern-test.false)) c.in_ok-behind-in-len1-up.ensures.behind c.in_ok-behind-in-len1-up.ensures.text c.loop-pattern.invariant.0

pub put_patterns-returns-after-loop-pattern-clause-behind : goal.put_patterns-returns-after-loop-pattern-clause-behind
put_patterns-returns-after-loop-pattern-clause-behind t c =
    grown_by_patterns _ _ _ _ _ _ c.in-len1-up.len_at_least c.first-item.is (omega (arith, c.loop-pattern-test.false)) c.in_ok-behind-in-len1-up.ensures.behind c.loop-pattern.invariant.1
