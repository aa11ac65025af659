use Rattle.sched_text.proofs.FieldLaws.{lacks_route, not_empty}
use Rattle.sched_text.proofs.reading.last_route.Goals as goal

pub returns-else-is_empty-clause-none : goal.returns-else-is_empty-clause-none
returns-else-is_empty-clause-none c =
    lacks_route c.in_ok-route.route.first c.in_ok-route.route.second c.in_ok-route.route.time c.args.rest.now c.in_ok-route.rest.now
    c.in_ok-route.ensures.some.0 c.in_ok-route.ensures.some.1 c.in_ok-route.ensures.some.2 (not_empty c.in_ok-route.rest.now c.if-is_empty.ensures)
