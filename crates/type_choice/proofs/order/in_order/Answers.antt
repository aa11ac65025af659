use Rattle.std.proofs.Common.{length, refl, arith}
use Rattle.type_table.specs.Values.{types_of}
use Rattle.type_choice.proofs.OrderLaws.{steps_left, ends}
use Rattle.type_choice.proofs.VisitLaws.{walk_begins}
use Rattle.type_choice.proofs.order.in_order.Goals as goal

pub visit_all-requires-clause-walked : goal.visit_all-requires-clause-walked
visit_all-requires-clause-walked c = walk_begins c.args.forms.now _ (length c.args.forms.now) (length c.args.forms.now) refl refl c.in_ok-unmarked.ensures c.in_ok-empty_lists.ensures c.new.ensures

pub loop-at-smaller : goal.loop-at-smaller
loop-at-smaller c = steps_left c.args.forms.now c.loop-at.at c.loop-at.walk c.loop-at.invariant (omega (arith, c.loop-at-test.true, c.len.ensures))

pub returns : goal.returns
returns c = ends c.args.forms.now c.loop-at.at c.loop-at.walk c.loop-at.invariant c.requires.table (types_of c.args.forms.now) c.requires.fits (omega (arith, c.loop-at-test.false, c.len.ensures))
