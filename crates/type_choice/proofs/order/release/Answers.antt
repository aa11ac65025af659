use Rattle.std.proofs.Common.{refl, arith}
use Rattle.type_choice.proofs.OrderLaws.{pair_inside, pair_marked, pair_more, released_all}
use Rattle.type_choice.proofs.VisitLaws.{released_number, release_begins}
use Rattle.type_choice.proofs.order.release.Goals as goal

pub replace-waiting-requires : goal.replace-waiting-requires
replace-waiting-requires c = (released_number c.args.forms.now c.args.at c.args.walk.now c.requires.walked c.as_slice.result.now _ c.as_slice.ensures c.requires.at refl).1

pub loop-pair-init : goal.loop-pair-init
loop-pair-init c =
    release_begins c.args.forms.now c.args.at c.args.walk.now c.requires.walked c.as_slice.result.now _ c.as_slice.ensures c.requires.at refl
    _ c.replace-waiting.result c.as_slice-pair-items.result.now c.new.ensures c.replace-waiting.ensures.value c.as_slice-pair-items.ensures _ c.replace-waiting.ensures.put refl refl

pub visit-requires-clause-sizes : goal.visit-requires-clause-sizes
visit-requires-clause-sizes c = c.loop-pair.invariant.walked.sizes

pub visit-requires-clause-number : goal.visit-requires-clause-number
visit-requires-clause-number c = pair_inside c.args.forms.now c.args.at c.as_slice-pair-items.result.now c.loop-pair.pair-index _ c.loop-pair-test.true c.loop-pair.walk c.loop-pair.invariant

pub visit-requires-clause-from : goal.visit-requires-clause-from
visit-requires-clause-from c = pair_marked c.args.forms.now c.args.at c.as_slice-pair-items.result.now c.loop-pair.pair-index _ c.loop-pair-test.true c.loop-pair.walk c.loop-pair.invariant

pub loop-pair-preserved : goal.loop-pair-preserved
loop-pair-preserved c = pair_more c.args.forms.now c.args.at c.as_slice-pair-items.result.now c.loop-pair.pair-index _ c.loop-pair-test.true c.loop-pair.walk c.loop-pair.invariant c.visit.new.walk c.in_ok-visit.ensures

pub returns : goal.returns
returns c = released_all c.args.forms.now c.args.at c.as_slice-pair-items.result.now c.loop-pair.pair-index c.loop-pair.walk (omega (arith, c.loop-pair-test.false)) c.loop-pair.invariant
