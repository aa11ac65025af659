use Rattle.arq_link.proofs.GiveLaws.{more_given, cut_there}
use Rattle.arq_link.proofs.ResultLaws.{on_err, no_rise}
use Rattle.arq_link.proofs.endpoint.give_again.Goals as goal

pub returns-in_err-give_first-clause-cut : goal.returns-in_err-give_first-clause-cut
returns-in_err-give_first-clause-cut g c = on_err c.from_residual.result _
    (cut_there c.args.me _ c.loop-place.place c.index-sessions-place.result c.loop-place-test.true c.index-sessions-place.is _ _ _ _ _ _ _
    c.loop-place.invariant c.in_err-give_first.ensures.cut)

pub loop-place-preserved : goal.loop-place-preserved
loop-place-preserved g c = more_given c.args.me _ c.loop-place.place c.index-sessions-place.result c.loop-place-test.true c.index-sessions-place.is _ _ _ _
    _ _ _ _ _
    c.loop-place.invariant c.in_ok-give_first.ensures.given c.in_ok-give_first.ensures.count (no_rise _ _ _ c.in_ok-give_first.ensures.cause)
