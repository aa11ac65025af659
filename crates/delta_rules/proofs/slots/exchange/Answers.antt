use Rattle.std.proofs.Common.{arith}
use Rattle.delta_rules.proofs.ElementIds.{out_none, out_past, out_there}
use Rattle.delta_rules.proofs.SlotIds.{counts_put, values_put}
use Rattle.delta_rules.proofs.slots.exchange.Goals as goal

pub returns-then-place-len-clause-values : goal.returns-then-place-len-clause-values
returns-then-place-len-clause-values c pool =
    values_put c.args.ids.now _ c.args.s c.in-Some.place c.args.id (omega (arith, c.in-Some.ensures.0, c.in-Some.ensures.1, c.from.ensures)) c.replace.ensures.put pool

pub returns-then-place-len-clause-same : goal.returns-then-place-len-clause-same
returns-then-place-len-clause-same c = counts_put c.args.ids.now _ c.in-Some.place c.args.id c.replace.result c.replace.ensures.value c.replace.ensures.put

pub returns-then-place-len-clause-out : goal.returns-then-place-len-clause-out
returns-then-place-len-clause-out c old is =
    out_there c.args.ids.now c.args.s c.in-Some.place c.replace.result old (omega (arith, c.in-Some.ensures.0, c.in-Some.ensures.1, c.from.ensures)) c.replace.ensures.value is

pub returns-else-place-len-clause-out : goal.returns-else-place-len-clause-out
returns-else-place-len-clause-out c old is =
    out_past c.args.ids.now c.args.s c.in-Some.place c.args.id old (omega (arith, c.in-Some.ensures.0, c.in-Some.ensures.1, c.from.ensures)) (omega (arith, c.if-place-len.false)) is

pub returns-in-None-clause-out : goal.returns-in-None-clause-out
returns-in-None-clause-out c old is = out_none c.args.ids.now c.args.s c.args.id old (omega (arith, c.in-None.ensures, c.from.ensures)) is
