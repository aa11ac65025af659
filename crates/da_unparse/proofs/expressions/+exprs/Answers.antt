use Rattle.std.proofs.Common.{codes, ◌≡◌, ◌++◌, ◌∙◌, ap, sym, rules, append_assoc}
use Rattle.da_unparse.specs.Expressions.{either}
use Rattle.da_unparse.specs.Texts.{expr_text, text_at, gen_text, separated, quantifier_text, condition_text}
use Rattle.da_unparse.proofs.TextsAt.{expr_text-Quant, expr_text-Or, expr_text-And, expr_text-Not, expr_text-Cmp, expr_text-Member, expr_text-Int, expr_text-Text, expr_text-Truth, expr_text-Me, expr_text-Name, expr_text-Clock, expr_text-Range, expr_text-Tuple, expr_text-SetOf, expr_text-Comp, expr_text-Min, expr_text-Max, gen_text_of, pattern_text-Wild, pattern_text-Name, pattern_text-Int, pattern_text-Text, pattern_text-Truth, pattern_text-Me, pattern_text-Equal}
use Rattle.da_unparse.proofs.TextRules.{seen, told, two_parts, three_parts, comp_parts, expr_text-count, expr_text-sum, expr_text-no_link, expr_text-first_link}
use Rattle.da_unparse.proofs.expressions.+exprs.Goals as goal

pub put_expr-returns-in_ok-put_gens_after-in-Quant : goal.put_expr-returns-in_ok-put_gens_after-in-Quant
put_expr-returns-in_ok-put_gens_after-in-Quant t c =
    let q = c.in-Quant in
    let before = c.args.out.now in
    let gens = separated (codes ", ") gen_text q.gens in
    let begun : c.put_gens_after.new.out ≡ before ++ (quantifier_text q.each ++ gens) =
    c.in_ok-put_gens_after-in-Quant.ensures
    ∙ ap (λ u. before ++ (u ++ separated (codes ", ") gen_text c.as_slice.result.now)) c.quantifier.ensures
    ∙ ap (λ gs. before ++ (quantifier_text q.each ++ separated (codes ", ") gen_text gs)) c.as_slice.ensures in
    seen c.put_condition.result before c.put_gens_after.new.out c.put_condition.new.out (condition_text q.cond) (expr_text c.args.x.now) c.put_condition.ensures
    (two_parts before c.put_gens_after.new.out (quantifier_text q.each ++ gens) (condition_text q.cond) (expr_text c.args.x.now) begun (ap expr_text q.is ∙ expr_text-Quant q.each q.gens q.cond))

pub put_expr-returns-in-Or : goal.put_expr-returns-in-Or
put_expr-returns-in-Or t c = search (rules, expr_text-Or)

pub put_expr-returns-in-And : goal.put_expr-returns-in-And
put_expr-returns-in-And t c = search (rules, expr_text-And)

pub put_expr-returns-in-Not : goal.put_expr-returns-in-Not
put_expr-returns-in-Not t c = search (rules, expr_text-Not)

pub put_expr-returns-in_ok-put_at-in-Cmp : goal.put_expr-returns-in_ok-put_at-in-Cmp
put_expr-returns-in_ok-put_at-in-Cmp t c = search (rules, append_assoc, expr_text-Cmp)

pub put_expr-returns-in_ok-put_at-in-Member : goal.put_expr-returns-in_ok-put_at-in-Member
put_expr-returns-in_ok-put_at-in-Member t c = search (rules, append_assoc, expr_text-Member)

pub put_expr-returns-in-empty : goal.put_expr-returns-in-empty
put_expr-returns-in-empty t c =
    told c.put_expr.result c.args.out.now c.put_expr.new.out (expr_text c.get-in-empty.result.now) (expr_text c.args.x.now) c.put_expr.ensures
    (ap expr_text c.get-in-empty.ensures ∙ sym (ap expr_text c.in-Chain.is ∙ expr_text-no_link c.in-Chain.first c.in-Chain.links (rw c.as_slice-in-Chain.ensures at c.in-empty.len_below)))

pub put_expr-returns-in_ok-put_at-in-len1-up : goal.put_expr-returns-in_ok-put_at-in-len1-up
put_expr-returns-in_ok-put_at-in-len1-up t c =
    let text = expr_text-first_link c.in-Chain.first c.in-Chain.links c.link-item.result (rw c.as_slice-in-Chain.ensures at c.in-len1-up.len_at_least) (rw c.as_slice-in-Chain.ensures at c.link-item.is) in
    search (rules, append_assoc, text)

pub put_expr-returns-in-Int : goal.put_expr-returns-in-Int
put_expr-returns-in-Int t c = search (rules, expr_text-Int)

pub put_expr-returns-in-Text : goal.put_expr-returns-in-Text
put_expr-returns-in-Text t c = search (rules, expr_text-Text)

pub put_expr-returns-in-Truth : goal.put_expr-returns-in-Truth
put_expr-returns-in-Truth t c = search (rules, expr_text-Truth)

pub put_expr-returns-in-Me : goal.put_expr-returns-in-Me
put_expr-returns-in-Me t c = search (rules, expr_text-Me)

pub put_expr-returns-in-Name : goal.put_expr-returns-in-Name
put_expr-returns-in-Name t c = search (rules, expr_text-Name)

pub put_expr-returns-in-Clock : goal.put_expr-returns-in-Clock
put_expr-returns-in-Clock t c = told c.append-in-Clock.result c.args.out.now c.append-in-Clock.new.self (codes "logical_time()") (expr_text c.args.x.now) c.append-in-Clock.ensures.ok (sym (ap expr_text c.in-Clock.is ∙ expr_text-Clock))

pub put_expr-returns-in_ok-put_behind-in-Range : goal.put_expr-returns-in_ok-put_behind-in-Range
put_expr-returns-in_ok-put_behind-in-Range t c = search (rules, append_assoc, expr_text-Range)

pub put_expr-returns-in-Tuple : goal.put_expr-returns-in-Tuple
put_expr-returns-in-Tuple t c = search (rules, expr_text-Tuple)

pub put_expr-returns-in-SetOf : goal.put_expr-returns-in-SetOf
put_expr-returns-in-SetOf t c = search (rules, expr_text-SetOf)

pub put_expr-returns-in_ok-put_gens_after-in-Comp : goal.put_expr-returns-in_ok-put_gens_after-in-Comp
put_expr-returns-in_ok-put_gens_after-in-Comp t c =
    let q = c.in-Comp in
    let before = c.args.out.now in
    let term = text_at either q.term in
    let gens = separated (codes ", ") gen_text q.gens in
    let first = c.put_behind-in-Comp.new.out in
    let second = c.put_gens_after-in-Comp.new.out in
    let one : first ≡ before ++ (codes "{" ++ term) = c.in_ok-put_behind-in-Comp.ensures ∙ ap (λ x. before ++ (codes "{" ++ text_at either x)) c.get-in-Comp.ensures in
    let two : second ≡ first ++ (codes ": " ++ gens) = c.in_ok-put_gens_after-in-Comp.ensures ∙ ap (λ gs. first ++ (codes ": " ++ separated (codes ", ") gen_text gs)) c.as_slice-in-Comp.ensures in
    seen c.put_last_condition.result before second c.put_last_condition.new.out (condition_text q.cond ++ codes "}") (expr_text c.args.x.now) c.put_last_condition.ensures
    (three_parts before first second (codes "{" ++ term) (codes ": " ++ gens) (condition_text q.cond ++ codes "}") (expr_text c.args.x.now) one two
    (ap expr_text q.is ∙ expr_text-Comp q.term q.gens q.cond ∙ comp_parts (codes "{" ++ term) (codes ": ") gens (condition_text q.cond) (codes "}")))

pub put_expr-returns-in-Count : goal.put_expr-returns-in-Count
put_expr-returns-in-Count t c = search (rules, expr_text-count)

pub put_expr-returns-in-Sum : goal.put_expr-returns-in-Sum
put_expr-returns-in-Sum t c = search (rules, expr_text-sum)

pub put_expr-returns-in_ok-put_behind-in-Min : goal.put_expr-returns-in_ok-put_behind-in-Min
put_expr-returns-in_ok-put_behind-in-Min t c = search (rules, append_assoc, expr_text-Min)

pub put_expr-returns-in_ok-put_behind-in-Max : goal.put_expr-returns-in_ok-put_behind-in-Max
put_expr-returns-in_ok-put_behind-in-Max t c = search (rules, append_assoc, expr_text-Max)

pub put_gen-returns : goal.put_gen-returns
put_gen-returns t c = search (rules, append_assoc, gen_text_of)

pub put_pattern-returns-in-Wild : goal.put_pattern-returns-in-Wild
put_pattern-returns-in-Wild t c = search (rules, pattern_text-Wild)

pub put_pattern-returns-in-Name : goal.put_pattern-returns-in-Name
put_pattern-returns-in-Name t c = search (rules, pattern_text-Name)

pub put_pattern-returns-in-Int : goal.put_pattern-returns-in-Int
put_pattern-returns-in-Int t c = search (rules, pattern_text-Int)

pub put_pattern-returns-in-Text : goal.put_pattern-returns-in-Text
put_pattern-returns-in-Text t c = search (rules, pattern_text-Text)

pub put_pattern-returns-in-Truth : goal.put_pattern-returns-in-Truth
put_pattern-returns-in-Truth t c = search (rules, pattern_text-Truth)

pub put_pattern-returns-in-Me : goal.put_pattern-returns-in-Me
put_pattern-returns-in-Me t c = search (rules, pattern_text-Me)

pub put_pattern-returns-in-Equal : goal.put_pattern-returns-in-Equal
put_pattern-returns-in-Equal t c = search (rules, pattern_text-Equal)
