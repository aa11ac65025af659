use Rattle.quant_norm.specs.Making.{place_of}
use Rattle.quant_norm.proofs.PlanSteps.{all_further, all_ended, any_further, test_none, signed_further, signed_ended}
use Rattle.quant_norm.proofs.FullNodes.{halted, bind_halted, cmp_over_left, cmp_over_right, all_over, right_over, both_over, chain_over_first, chain_over_others, signed_over}
use Rattle.quant_norm.proofs.HandedOn.{truth_ends, cmp_ends, not_ends, and_ends, or_ends, quant_ends, compared_ends, anti_ends, anti_over, any_ends, each_ends, each_over_rows, some_ends, some_over_rows, rows_made, rows_over_gens, rows_over_test, none_ends, none_over_gens, test_ends, never_ends, denied_ends, term_ends, part_ends, chain_ends, chained_ends, last_ends, agg_ends, agg_over_rows}
use Rattle.quant_norm.proofs.conditions.+norm.Goals as goal

pub norm_cond-returns-in_err-left-in-Cmp : goal.norm_cond-returns-in_err-left-in-Cmp
norm_cond-returns-in_err-left-in-Cmp t c = halted _ _ _ _ c.from_residual-in_err-left-in-Cmp.ensures.1 (λ e. cmp_over_left _ _ _ _ _ _ _ _ c.in-Cmp.is c.get.ensures c.in_ok-last-in-Cmp.ensures (c.in_err-left-in-Cmp.ensures e))

pub norm_cond-returns-in_err-right-in-Cmp : goal.norm_cond-returns-in_err-right-in-Cmp
norm_cond-returns-in_err-right-in-Cmp t c = halted _ _ _ _ c.from_residual-in_err-right-in-Cmp.ensures.1 (λ e. cmp_over_right _ _ _ _ _ _ _ _ _ _ _ _ c.in-Cmp.is c.get.ensures c.get-in-Cmp.ensures c.in_ok-last-in-Cmp.ensures c.in_ok-left-in-Cmp.ensures (c.in_err-right-in-Cmp.ensures e))

pub norm_all-loop-cond-preserved : goal.norm_all-loop-cond-preserved
norm_all-loop-cond-preserved t c = all_further _ _ _ _ _ _ _ _ c.loop-cond.invariant c.loop-cond-test.true c.cond-item.is c.in_ok-number.ensures

pub norm_all-returns : goal.norm_all-returns
norm_all-returns t c = all_ended _ _ _ _ _ c.loop-cond.invariant c.loop-cond-test.false

pub norm_all-returns-in_err-number : goal.norm_all-returns-in_err-number
norm_all-returns-in_err-number t c = halted _ _ _ _ c.from_residual-in_err-number.ensures.1 (λ e. all_over _ _ _ _ _ _ c.loop-cond.invariant c.loop-cond-test.true c.cond-item.is (c.in_err-number.ensures e))

pub test_on-returns-in-None : goal.test_on-returns-in-None
test_on-returns-in-None t c = test_none _ _ _ c.in-None.is

pub bind_signed-loop-signed-preserved : goal.bind_signed-loop-signed-preserved
bind_signed-loop-signed-preserved t c = signed_further _ _ _ _ _ _ _ _ _ _ _ _ c.loop-signed.invariant c.loop-signed-test.true c.signed-item.is c.get.ensures c.in_ok-operand.ensures c.in_ok-push.ensures.ok

pub bind_signed-returns : goal.bind_signed-returns
bind_signed-returns t c = signed_ended _ _ _ _ _ _ c.loop-signed.invariant c.loop-signed-test.false

pub bind_signed-returns-in_err-operand : goal.bind_signed-returns-in_err-operand
bind_signed-returns-in_err-operand t c = bind_halted _ _ _ _ c.from_residual.ensures.1 (λ e. signed_over _ _ _ _ _ _ _ _ c.loop-signed.invariant c.loop-signed-test.true c.signed-item.is c.get.ensures (c.in_err-operand.ensures e))

pub norm_any-loop-cond-preserved : goal.norm_any-loop-cond-preserved
norm_any-loop-cond-preserved t c = any_further _ _ _ _ _ _ _ _ _ _ _ c.loop-cond.invariant c.loop-cond-test.true c.cond-item.is c.in_ok-right.ensures c.in_ok-both.ensures

pub norm_any-returns-in_err-right : goal.norm_any-returns-in_err-right
norm_any-returns-in_err-right t c = halted _ _ _ _ c.from_residual.ensures.1 (λ e. right_over _ _ _ _ _ _ _ c.loop-cond.invariant c.loop-cond-test.true c.cond-item.is (c.in_err-right.ensures e))

pub norm_any-returns-in_err-both : goal.norm_any-returns-in_err-both
norm_any-returns-in_err-both t c = halted _ _ _ _ c.from_residual-in_err-both.ensures.1 (λ e. both_over _ _ _ _ _ _ _ _ _ c.loop-cond.invariant c.loop-cond-test.true c.cond-item.is c.in_ok-right.ensures (c.in_err-both.ensures e))

pub norm_cond-returns-in-Truth : goal.norm_cond-returns-in-Truth
norm_cond-returns-in-Truth t c = truth_ends _ _ _ _ _ _ c.in-Truth.is c.truth_on.ensures

pub norm_cond-returns-in_ok-right-in-Cmp : goal.norm_cond-returns-in_ok-right-in-Cmp
norm_cond-returns-in_ok-right-in-Cmp t c = cmp_ends _ _ _ _ _ _ _ _ _ _ c.in-Cmp.is c.get.ensures c.get-in-Cmp.ensures (compared_ends _ _ _ _ _ _ _ _ _ _ _ _ _ _ c.in_ok-last-in-Cmp.ensures c.in_ok-left-in-Cmp.ensures c.in_ok-right-in-Cmp.ensures c.compare_both.ensures)

pub norm_cond-returns-in-Not : goal.norm_cond-returns-in-Not
norm_cond-returns-in-Not t c = not_ends _ _ _ _ _ _ _ c.in-Not.is c.get-in-Not.ensures c.not_on.ensures

pub norm_cond-returns-in-And : goal.norm_cond-returns-in-And
norm_cond-returns-in-And t c = and_ends _ _ _ _ _ _ _ c.in-And.is c.as_slice.ensures c.norm_all.ensures

pub norm_cond-returns-in-Or : goal.norm_cond-returns-in-Or
norm_cond-returns-in-Or t c = or_ends _ _ _ _ _ _ _ c.in-Or.is c.as_slice-in-Or.ensures c.norm_any.ensures

pub norm_cond-returns-in-Quant : goal.norm_cond-returns-in-Quant
norm_cond-returns-in-Quant t c = quant_ends _ _ _ _ _ _ _ _ _ c.in-Quant.is c.as_slice-in-Quant.ensures c.quant_on.ensures

pub not_on-returns : goal.not_on-returns
not_on-returns t c = anti_ends _ (place_of c.args.at.now) _ _ _ _ c.in_ok-child.ensures c.anti_on.ensures

pub not_on-returns-in_err-child : goal.not_on-returns-in_err-child
not_on-returns-in_err-child t c = halted _ _ _ _ c.from_residual.ensures.1 (λ e. anti_over _ (place_of c.args.at.now) (c.in_err-child.ensures e))

pub norm_any-returns : goal.norm_any-returns
norm_any-returns t c = any_ends _ _ _ _ _ _ _ _ c.loop-cond.invariant c.loop-cond-test.false c.any_on.ensures

pub quant_on-returns-in_ok-child : goal.quant_on-returns-in_ok-child
quant_on-returns-in_ok-child t c = each_ends _ _ _ _ _ _ _ _ _ c.if-each.true c.in_ok-child.ensures c.anti_on.ensures

pub quant_on-returns-in_err-child : goal.quant_on-returns-in_err-child
quant_on-returns-in_err-child t c = halted _ _ _ _ c.from_residual.ensures.1 (λ e. each_over_rows _ _ _ _ _ c.if-each.true (c.in_err-child.ensures e))

pub quant_on-returns-in_ok-rows : goal.quant_on-returns-in_ok-rows
quant_on-returns-in_ok-rows t c = some_ends _ _ _ _ _ _ _ _ _ c.if-each.false c.in_ok-rows.ensures c.semi_on.ensures

pub quant_on-returns-in_err-rows : goal.quant_on-returns-in_err-rows
quant_on-returns-in_err-rows t c = halted _ _ _ _ c.from_residual-in_err-rows.ensures.1 (λ e. some_over_rows _ _ _ _ _ c.if-each.false (c.in_err-rows.ensures e))

pub rows_on-returns : goal.rows_on-returns
rows_on-returns t c = rows_made c.args.cond.now c.args.gens.now (place_of c.args.at.now) _ c.args.nodes.now _ _ _ c.in_ok-rows.ensures c.in_ok-child.ensures

pub rows_on-returns-in_err-rows : goal.rows_on-returns-in_err-rows
rows_on-returns-in_err-rows t c = halted _ _ _ _ c.from_residual.ensures.1 (λ e. rows_over_gens c.args.cond.now c.args.gens.now (place_of c.args.at.now) c.args.nodes.now (c.in_err-rows.ensures e))

pub rows_on-returns-in_err-child : goal.rows_on-returns-in_err-child
rows_on-returns-in_err-child t c = halted _ _ _ _ c.from_residual-in_err-child.ensures.1 (λ e. rows_over_test c.args.cond.now c.args.gens.now (place_of c.args.at.now) _ c.args.nodes.now _ c.in_ok-rows.ensures (c.in_err-child.ensures e))

pub none_on-returns : goal.none_on-returns
none_on-returns t c = none_ends c.args.cond.now c.args.gens.now (place_of c.args.at.now) _ c.args.nodes.now _ _ _ c.in_ok-last.ensures c.denied_on.ensures

pub none_on-returns-in_err-last : goal.none_on-returns-in_err-last
none_on-returns-in_err-last t c = halted _ _ _ _ c.from_residual.ensures.1 (λ e. none_over_gens c.args.cond.now c.args.gens.now (place_of c.args.at.now) c.args.nodes.now (c.in_err-last.ensures e))

pub test_on-returns-in-Some : goal.test_on-returns-in-Some
test_on-returns-in-Some t c = test_ends _ _ _ _ _ _ _ c.in-Some.is c.get.ensures c.norm_cond.ensures

pub denied_on-returns-in-None : goal.denied_on-returns-in-None
denied_on-returns-in-None t c = never_ends _ _ _ _ _ c.in-None.is c.never_on.ensures

pub denied_on-returns-in-Some : goal.denied_on-returns-in-Some
denied_on-returns-in-Some t c = denied_ends _ _ _ _ _ _ _ c.in-Some.is c.get.ensures c.not_on.ensures

pub bind_operand-returns-in-Term : goal.bind_operand-returns-in-Term
bind_operand-returns-in-Term t c = term_ends _ _ _ _ _ c.in-Term.is c.bound_term.ensures

pub bind_operand-returns-in-Agg : goal.bind_operand-returns-in-Agg
bind_operand-returns-in-Agg t c = part_ends _ _ _ _ _ _ _ c.in-Agg.is c.get.ensures c.bind_part.ensures

pub bind_operand-returns-in_ok-others-in-Chain : goal.bind_operand-returns-in_ok-others-in-Chain
bind_operand-returns-in_ok-others-in-Chain t c = chain_ends _ _ _ _ _ _ _ _ _ c.in-Chain.is c.get-in-Chain.ensures c.as_slice.ensures (chained_ends _ _ _ _ _ _ _ _ _ _ _ c.in_ok-first-in-Chain.ensures c.in_ok-others-in-Chain.ensures c.chained.ensures)

pub bind_operand-returns-in_err-first-in-Chain : goal.bind_operand-returns-in_err-first-in-Chain
bind_operand-returns-in_err-first-in-Chain t c = bind_halted _ _ _ _ c.from_residual.ensures.1 (λ e. chain_over_first _ _ _ _ _ _ c.in-Chain.is c.get-in-Chain.ensures (c.in_err-first-in-Chain.ensures e))

pub bind_operand-returns-in_err-others-in-Chain : goal.bind_operand-returns-in_err-others-in-Chain
bind_operand-returns-in_err-others-in-Chain t c = bind_halted _ _ _ _ c.from_residual-in_err-others-in-Chain.ensures.1 (λ e. chain_over_others _ _ _ _ _ _ _ _ _ _ c.in-Chain.is c.get-in-Chain.ensures c.as_slice.ensures c.in_ok-first-in-Chain.ensures (c.in_err-others-in-Chain.ensures e))

pub bind_part-returns : goal.bind_part-returns
bind_part-returns t c = last_ends _ _ _ _ _ _ c.in_ok-bind_agg.ensures c.last_part.ensures

pub bind_part-returns-in_err-bind_agg : goal.bind_part-returns-in_err-bind_agg
bind_part-returns-in_err-bind_agg t c = bind_halted _ _ _ _ c.from_residual.ensures.1 c.in_err-bind_agg.ensures

pub bind_agg-returns : goal.bind_agg-returns
bind_agg-returns t c = agg_ends _ _ _ _ _ _ _ _ c.as_slice.ensures c.in_ok-rows.ensures c.bind_rows.ensures

pub bind_agg-returns-in_err-rows : goal.bind_agg-returns-in_err-rows
bind_agg-returns-in_err-rows t c = bind_halted _ _ _ _ c.from_residual.ensures.1 (λ e. agg_over_rows _ _ _ _ c.as_slice.ensures (c.in_err-rows.ensures e))
