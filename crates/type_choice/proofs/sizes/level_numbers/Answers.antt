use Rattle.std.proofs.Common.{length, refl, arith}
use Rattle.type_choice.specs.Looks.{few_levels, few_levels_step, number_at}
use Rattle.type_choice.proofs.CountLaws.{levels_follow, read_number}
use Rattle.type_choice.proofs.SeenLaws.{item_inside, seen_none, seen_goes, seen_all}
use Rattle.type_choice.proofs.sizes.level_numbers.Goals as goal

pub loop-number-init : goal.loop-number-init
loop-number-init c = seen_none few_levels few_levels_step c.args.forms.now c.args.order.now (length c.args.forms.now) 0 _ refl c.in_ok-levels.ensures

pub form_in-requires : goal.form_in-requires
form_in-requires c = item_inside c.args.forms.now c.args.order.now c.requires.order c.loop-number.number-index c.loop-number-test.true

pub set-requires : goal.set-requires
set-requires c = omega (arith, c.loop-number.invariant.size, item_inside c.args.forms.now c.args.order.now c.requires.order c.loop-number.number-index c.loop-number-test.true)

pub loop-number-preserved : goal.loop-number-preserved
loop-number-preserved c =
    seen_goes few_levels few_levels_step c.args.forms.now c.args.order.now levels_follow c.requires.fits c.requires.order number_at read_number c.loop-number.number-index _ c.loop-number.levels c.as_slice.result.now c.set.new.self c.form_levels-count.result
    c.loop-number-test.true c.form_in.ensures c.as_slice.ensures c.form_levels-count.ensures c.set.ensures c.loop-number.invariant

pub returns : goal.returns
returns c = seen_all few_levels few_levels_step c.args.forms.now c.args.order.now c.loop-number.number-index c.loop-number.levels (omega (arith, c.loop-number-test.false)) c.requires.order c.loop-number.invariant
