-- Before any event the search is ready.
use Rattle.trace_join.proofs.OpeningLaws.{ready_first}
use Rattle.trace_join.proofs.search.Search.new.Goals as goal

pub returns-clause-ready : goal.returns-clause-ready
returns-clause-ready c =
    ready_first _ c.requires.compiled c.requires.traces c.args.cuts.now c.args.repeats.now c.requires.cut c.requires.repeat
    c.in_ok-tracks_of.ensures.left c.in_ok-tracks_of.ensures.pieces c.in_ok-tracks_of.ensures.repeats c.in_ok-none_waits.ensures c.in_ok-new.ensures
    c.new-2.ensures
