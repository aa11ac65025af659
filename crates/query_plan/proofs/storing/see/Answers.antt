use Rattle.std.proofs.Common.{◌∙◌, ap, map}
use Rattle.query_plan.specs.Storing.{number_in, renumbered_test}
use Rattle.query_plan.proofs.KeepLaws.{seen_kept, seen_told}
use Rattle.query_plan.proofs.storing.see.Goals as goal

pub returns-then-stays : goal.returns-then-stays
returns-then-stays c = seen_kept (number_in c.args.numbers.now) c.args.stays c.args.i c.number_of.result c.args.entry.now c.itself.result c.if-stays.true c.number_of.ensures c.itself.ensures

pub returns : goal.returns
returns c =
    seen_told (number_in c.args.numbers.now) c.args.stays c.args.i c.number_of-node.result c.args.entry.now c.in_ok-tests.tests c.if-stays.false c.number_of-node.ensures
    (c.in_ok-tests.ensures ∙ ap (map (renumbered_test (number_in c.args.numbers.now))) c.as_slice.ensures)
