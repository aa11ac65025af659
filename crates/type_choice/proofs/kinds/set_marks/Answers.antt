use Rattle.std.proofs.Common.{false, length, refl, arith}
use Rattle.da_lang.specs.Types.{is_set}
use Rattle.type_choice.specs.Looks.{set_step}
use Rattle.type_table.specs.Settling.{is_marked}
use Rattle.type_choice.proofs.CountLaws.{read_mark, sets_follow}
use Rattle.type_choice.proofs.SeenLaws.{item_inside, seen_none, seen_goes, seen_all}
use Rattle.type_choice.proofs.kinds.set_marks.Goals as goal

pub loop-number-init : goal.loop-number-init
loop-number-init c = seen_none is_set set_step c.args.forms.now c.args.order.now (length c.args.forms.now) false _ refl c.in_ok-marks.ensures

pub form_in-requires : goal.form_in-requires
form_in-requires c = item_inside c.args.forms.now c.args.order.now c.requires.order c.loop-number.number-index c.loop-number-test.true

pub set-requires : goal.set-requires
set-requires c = omega (arith, c.loop-number.invariant.size, item_inside c.args.forms.now c.args.order.now c.requires.order c.loop-number.number-index c.loop-number-test.true)

pub loop-number-preserved : goal.loop-number-preserved
loop-number-preserved c =
    seen_goes is_set set_step c.args.forms.now c.args.order.now sets_follow c.requires.fits c.requires.order is_marked read_mark c.loop-number.number-index _ c.loop-number.marks c.as_slice.result.now c.set.new.self c.is_set_form-mark.result
    c.loop-number-test.true c.form_in.ensures c.as_slice.ensures c.is_set_form-mark.ensures c.set.ensures c.loop-number.invariant

pub returns : goal.returns
returns c = seen_all is_set set_step c.args.forms.now c.args.order.now c.loop-number.number-index c.loop-number.marks (omega (arith, c.loop-number-test.false)) c.requires.order c.loop-number.invariant
