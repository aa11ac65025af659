use Rattle.std.proofs.Common.{◌∙◌, sym}
use Rattle.run_page.proofs.RemarkLemmas.{digits_all, digits_on, digits_stop}
use Rattle.run_page.proofs.remarks.digits_of.Goals as goal

pub loop-place-preserved : goal.loop-place-preserved
loop-place-preserved c = digits_on c.args.text.now c.loop-place.place _ c.loop-place-test.true (sym c.is_digit.ensures ∙ c.if-not-is_digit.false) c.loop-place.invariant

pub returns-then-not-is_digit : goal.returns-then-not-is_digit
returns-then-not-is_digit c = digits_stop c.args.text.now c.loop-place.place _ c.loop-place-test.true (sym c.is_digit.ensures ∙ c.if-not-is_digit.true) c.loop-place.invariant

pub returns : goal.returns
returns c = digits_all c.args.text.now c.loop-place.place c.loop-place-test.false c.loop-place.invariant
