use Rattle.std.proofs.Common.{◌∙◌, sym}
use Rattle.schedule_walk.proofs.AllowedLemmas.{none_added, one_added}
use Rattle.schedule_pick.specs.Orders.{is_of}
use Rattle.schedule_pick.proofs.order.add_of.Goals as goal

pub returns-then-not-is_of : goal.returns-then-not-is_of
returns-then-not-is_of c = none_added (is_of c.args.actor) c.args.event.now c.args.out.now (sym c.is_of.ensures ∙ c.if-not-is_of.true)

pub returns : goal.returns
returns c = one_added (is_of c.args.actor) c.args.event.now c.args.out.now c.push.new.self (sym c.is_of.ensures ∙ c.if-not-is_of.false) c.in_ok-push.ensures.ok
