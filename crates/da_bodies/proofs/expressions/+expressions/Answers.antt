use Rattle.std.proofs.Common.{◌≡◌, ◌∙◌, sym, ap, ◌-◌, length, drop}
use Rattle.std.specs.List.{fold}
use Rattle.std.specs.Option.{option_to_list}
use Rattle.da_lang.specs.ExprNames.{QueryVariable, pattern_part, gen_part}
use Rattle.da_bodies.specs.Told.{behind_all, told_all, told_expr}
use Rattle.da_bodies.proofs.PartLaws.{gen_steady, pattern_steady}
use Rattle.da_bodies.proofs.ToldParts.{told_all-more, behind_all-more}
use Rattle.da_bodies.proofs.ToldExprs.{left_after_gens, told_expr-Comp}
use Rattle.da_bodies.proofs.expressions.+expressions.Goals as goal

pub check_expr-returns-in_ok-check_condition-in-Quant-clause-same :
    goal.check_expr-returns-in_ok-check_condition-in-Quant-clause-same
check_expr-returns-in_ok-check_condition-in-Quant-clause-same t c =
    let old = c.args.names.now in
    let inside : c.check_condition.new.names ≡ behind_all gen_part QueryVariable old c.in-Quant.gens =
    c.in_ok-check_condition-in-Quant.ensures.same ∙ c.in_ok-enter_gens-in-Quant.ensures.entered ∙ ap (behind_all gen_part QueryVariable old) c.as_slice.ensures in
    c.leave_to.ensures ∙ ap (λ n. drop (length c.check_condition.new.names - n) c.check_condition.new.names) c.len-outside.ensures
    ∙ ap (λ s. drop (length s - length old) s) inside ∙ left_after_gens old c.in-Quant.gens

pub check_expr-returns-in_ok-check_expr-in-Comp-clause-told :
    goal.check_expr-returns-in_ok-check_expr-in-Comp-clause-told
check_expr-returns-in_ok-check_expr-in-Comp-clause-told t c =
    let old = c.args.names.now in
    let first = c.args.least.now in
    let line = c.args.line in
    let q = c.in-Comp in
    let within = behind_all gen_part QueryVariable old q.gens in
    let entered : c.enter_gens-in-Comp.new.names ≡ within = c.in_ok-enter_gens-in-Comp.ensures.entered ∙ ap (behind_all gen_part QueryVariable old) c.as_slice-in-Comp.ensures in
    let gens : c.enter_gens-in-Comp.new.least ≡ told_all gen_part line QueryVariable old first q.gens = c.in_ok-enter_gens-in-Comp.ensures.told ∙ ap (told_all gen_part line QueryVariable old first) c.as_slice-in-Comp.ensures in
    let conditioned : c.check_condition-in-Comp.new.least ≡ fold (told_expr line within) (told_all gen_part line QueryVariable old first q.gens) (option_to_list q.cond) =
    c.in_ok-check_condition-in-Comp.ensures.told ∙ ap (λ s. fold (told_expr line s) c.enter_gens-in-Comp.new.least (option_to_list q.cond)) entered ∙ ap (λ f. fold (told_expr line within) f (option_to_list q.cond)) gens in
    c.in_ok-check_expr-in-Comp.ensures.told
    ∙ ap (λ s. told_expr line s c.check_condition-in-Comp.new.least c.get.result.now) (c.in_ok-check_condition-in-Comp.ensures.same ∙ entered)
    ∙ ap (λ f. told_expr line within f c.get.result.now) conditioned
    ∙ ap (told_expr line within (fold (told_expr line within) (told_all gen_part line QueryVariable old first q.gens) (option_to_list q.cond))) c.get.ensures
    ∙ sym (ap (told_expr line old first) q.is ∙ told_expr-Comp line old first q.term q.gens q.cond)

pub check_expr-returns-in_ok-check_expr-in-Comp-clause-same :
    goal.check_expr-returns-in_ok-check_expr-in-Comp-clause-same
check_expr-returns-in_ok-check_expr-in-Comp-clause-same t c =
    let old = c.args.names.now in
    let inside : c.check_expr.new.names ≡ behind_all gen_part QueryVariable old c.in-Comp.gens =
    c.in_ok-check_expr-in-Comp.ensures.same ∙ c.in_ok-check_condition-in-Comp.ensures.same ∙ c.in_ok-enter_gens-in-Comp.ensures.entered ∙ ap (behind_all gen_part QueryVariable old) c.as_slice-in-Comp.ensures in
    c.leave_to-in-Comp.ensures ∙ ap (λ n. drop (length c.check_expr.new.names - n) c.check_expr.new.names) c.len-outside-in-Comp.ensures
    ∙ ap (λ s. drop (length s - length old) s) inside ∙ left_after_gens old c.in-Comp.gens

pub enter_gens-loop-generator-preserved : goal.enter_gens-loop-generator-preserved
enter_gens-loop-generator-preserved t c =
    let l = c.loop-generator in
    record {
      told = told_all-more gen_part gen_steady c.args.line QueryVariable c.args.names.now l.names c.args.least.now l.least c.enter_gen.new.least c.args.gens.now l.generator-index c.generator-item.result c.loop-generator-test.true c.generator-item.is l.invariant.told l.invariant.entered c.in_ok-enter_gen.ensures.told;
      entered = behind_all-more gen_part gen_steady QueryVariable c.args.names.now l.names c.enter_gen.new.names c.args.gens.now l.generator-index c.generator-item.result c.loop-generator-test.true c.generator-item.is l.invariant.entered c.in_ok-enter_gen.ensures.entered;
    }

pub enter_patterns-loop-pattern-preserved : goal.enter_patterns-loop-pattern-preserved
enter_patterns-loop-pattern-preserved t c =
    let l = c.loop-pattern in
    record {
      told = told_all-more pattern_part pattern_steady c.args.line QueryVariable c.args.names.now l.names c.args.least.now l.least c.enter_pattern.new.least c.args.patterns.now l.pattern-index c.pattern-item.result c.loop-pattern-test.true c.pattern-item.is l.invariant.told l.invariant.entered c.in_ok-enter_pattern.ensures.told;
      entered = behind_all-more pattern_part pattern_steady QueryVariable c.args.names.now l.names c.enter_pattern.new.names c.args.patterns.now l.pattern-index c.pattern-item.result c.loop-pattern-test.true c.pattern-item.is l.invariant.entered c.in_ok-enter_pattern.ensures.entered;
    }
