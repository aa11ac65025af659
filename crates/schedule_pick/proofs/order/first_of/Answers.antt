use Rattle.std.proofs.Common.{◌∙◌, sym}
use Rattle.std.proofs.lemmas.List.Elements.{All-more}
use Rattle.schedule_pick.specs.OrderSteps.{HasNone}
use Rattle.schedule_pick.proofs.OrderLemmas.{first_here, none_first}
use Rattle.schedule_pick.proofs.order.first_of.Goals as goal

pub loop-place-preserved : goal.loop-place-preserved
loop-place-preserved c =
    All-more (HasNone c.args.events.now) c.args.order.now c.loop-place.place _ c.loop-place-test.true c.loop-place.invariant (sym c.has_one.ensures ∙ c.if-has_one.false)

pub returns-then-has_one-clause-first : goal.returns-then-has_one-clause-first
returns-then-has_one-clause-first c = first_here c.args.events.now c.args.order.now c.loop-place.place _ _ c.loop-place-test.true c.has_one.ensures c.if-has_one.true c.loop-place.invariant

pub returns-clause-first : goal.returns-clause-first
returns-clause-first c = none_first c.args.events.now c.args.order.now c.loop-place.place c.loop-place-test.false c.loop-place.invariant
