-- With its copy there is one message more, and both ways it leaves as it should.
use Rattle.trace_join.proofs.FetchLaws.{copy_fetched, last_fetched, longer_by}
use Rattle.trace_join.proofs.fetch.fetch_doubling.Goals as goal

pub deliver-requires : goal.deliver-requires
deliver-requires c = longer_by c.args.wanted.now c.args.queue.now c.args.queue.now c.args.events.now c.args.events.now c.in-Some.place
    c.in-Some.ensures.there c.double.new.queue c.in-Some.ensures.within c.in_ok-double.ensures.queue

pub returns-then-wanted : goal.returns-then-wanted
returns-then-wanted c =
    copy_fetched c.args.wanted.now c.args.queue.now c.deliver.new.queue c.args.events.now c.deliver.new.events c.in-Some.place c.in-Some.ensures.there
    c.double.new.queue c.double.new.events c.if-wanted.true
    c.in_ok-double.ensures.queue c.in_ok-double.ensures.events c.in_ok-deliver.ensures.queue c.in_ok-deliver.ensures.events

pub returns : goal.returns
returns c =
    last_fetched c.args.wanted.now c.args.queue.now c.deliver-2.new.queue c.args.events.now c.deliver-2.new.events c.in-Some.place c.in-Some.ensures.there
    c.if-wanted.false c.in_ok-deliver-2.ensures.queue c.in_ok-deliver-2.ensures.events
