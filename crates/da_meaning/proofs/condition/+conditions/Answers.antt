use Rattle.std.proofs.Common.{◌∙◌, sym}
use Rattle.da_meaning.proofs.CondsAt.{comp_range, condition_others, ok_as, operand_others, quant_is, range_as, range_others, signed_step}
use Rattle.da_meaning.proofs.condition.+conditions.Goals as goal

pub condition-returns-in_ok-rows-in-Quant : goal.condition-returns-in_ok-rows-in-Quant
condition-returns-in_ok-rows-in-Quant t c =
    quant_is _ _ _ _ c.args.scope.now _ _ _ c.in-Quant.is c.in_ok-rows-in-Quant.ensures.gens c.in_ok-rows-in-Quant.ensures.cond c.quantified.ensures

pub condition-returns-in_default : goal.condition-returns-in_default
condition-returns-in_default t c =
    ok_as c.truth.result _ _ (sym (condition_others c.args.x.now c.args.scope.now c.in_default.not-Quant c.in_default.not-Or c.in_default.not-And c.in_default.not-Not c.in_default.not-Cmp)) c.truth.ensures

pub operand-returns-in_default : goal.operand-returns-in_default
operand-returns-in_default t c =
    ok_as c.sided.result _ _ (sym (operand_others c.args.x.now c.args.scope.now c.in_default.not-Chain c.in_default.not-Count c.in_default.not-Sum c.in_default.not-Min c.in_default.not-Max)) c.sided.ensures

pub range-returns-in_ok-rows-in-Comp : goal.range-returns-in_ok-rows-in-Comp
range-returns-in_ok-rows-in-Comp t c =
    let rows = c.in_ok-rows-in-Comp in
    range_as c.with_term.result _ _ (comp_range _ _ _ _ _ c.args.scope.now rows.rows.inner rows.rows.gens rows.rows.cond c.in-Comp.is c.get.ensures rows.ensures.gens rows.ensures.cond rows.ensures.inner) c.with_term.ensures

pub range-returns-in_default : goal.range-returns-in_default
range-returns-in_default t c = c.no_rows.ensures ∙ sym (range_others c.args.x.now c.args.scope.now c.in_default.not-Name c.in_default.not-Comp)

pub signed_operands-loop-link-preserved : goal.signed_operands-loop-link-preserved
signed_operands-loop-link-preserved t c =
    signed_step _ _ _ _ c.args.scope.now _ _ _ _ c.loop-link-test.true c.link-item.is c.loop-link.invariant c.is_minus.ensures c.get.ensures c.in_ok-operand.ensures c.in_ok-push.ensures.ok
