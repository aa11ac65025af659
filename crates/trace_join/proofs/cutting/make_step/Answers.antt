-- The step by the form of the action.
use Rattle.trace_join.proofs.CuttingLaws.{got_asked, took_asked}
use Rattle.trace_join.proofs.cutting.make_step.Goals as goal

pub returns-in-Took-clause-step : goal.returns-in-Took-clause-step
returns-in-Took-clause-step c =
    took_asked c.args.core.now c.make_move.new.core c.args.asked.now c.args.told.now c.make_move.new.told
    _ c.in-Took.k c.in-Took.is c.make_move.result c.make_move.ensures.step

pub returns-in-Got-clause-step : goal.returns-in-Got-clause-step
returns-in-Got-clause-step c =
    got_asked c.args.core.now c.take_in.new.core c.args.asked.now c.args.told.now c.take_in.new.told
    _ c.in-Got.p c.in-Got.t c.in-Got.v c.in-Got.is c.take_in.result c.take_in.ensures.step
