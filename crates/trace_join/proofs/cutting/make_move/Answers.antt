-- A timeout, or the move of the number.
use Rattle.trace_join.proofs.CuttingLaws.{moved_on, timed_out}
use Rattle.trace_join.proofs.cutting.make_move.Goals as goal

pub returns-then-asks_timeout-clause-step : goal.returns-then-asks_timeout-clause-step
returns-then-asks_timeout-clause-step c =
    timed_out c.args.core.now c.make_timeout.new.self c.args.k c.asks_timeout.result c.args.told.now c.make_timeout.new.out
    c.asks_timeout.ensures c.make_timeout.result c.how_made.result
    c.if-asks_timeout.true c.make_timeout.ensures.moves c.make_timeout.ensures.forbidden c.how_made.ensures

pub returns-else-asks_timeout-clause-step : goal.returns-else-asks_timeout-clause-step
returns-else-asks_timeout-clause-step c =
    moved_on c.args.core.now c.make_move.new.self c.args.k c.asks_timeout.result c.args.told.now c.make_move.new.out
    c.asks_timeout.ensures c.make_move.result c.how_made-else-asks_timeout.result
    c.if-asks_timeout.false c.make_move.ensures.moves c.make_move.ensures.forbidden c.how_made-else-asks_timeout.ensures
