use Rattle.std.proofs.Common.{◌≡◌, ◌∙◌, ap, sym, map}
use Rattle.std.specs.Option.{option_map}
use Rattle.std.specs.Prelude.{option_to_list}
use Rattle.da_lang.specs.Written.{chain_written, gen_written, of, pattern_written, writing}
use Rattle.da_limits.specs.Writings.{as_query, beside, seen}
use Rattle.da_limits.proofs.WritingRules.{all_step, expr-Comp, link-beside}
use Rattle.da_limits.proofs.written.+writing.Goals as goal

pub expr_written-returns-in-Comp : goal.expr_written-returns-in-Comp
expr_written-returns-in-Comp t c =
    let q = c.in-Comp in
    let gens : c.gens_written-in-Comp.result ≡ seen (of (map gen_written q.gens)) = c.gens_written-in-Comp.ensures ∙ ap (λ gs. seen (of (map gen_written gs))) c.as_slice-in-Comp.ensures in
    let term : c.expr_written-in-Comp.result ≡ seen (writing q.term) = c.expr_written-in-Comp.ensures ∙ ap (λ x. seen (writing x)) c.get-in-Comp.ensures in
    let cond = seen (of (option_to_list (option_map writing q.cond))) in
    let front : c.beside-in-Comp.result ≡ beside (seen (of (map gen_written q.gens))) cond =
    c.beside-in-Comp.ensures ∙ ap (λ y. beside y c.guard_written-in-Comp.result) gens ∙ ap (λ y. beside (seen (of (map gen_written q.gens))) y) c.guard_written-in-Comp.ensures in
    c.as_query-in-Comp.ensures
    ∙ ap as_query (c.beside-in-Comp-2.ensures ∙ ap (λ y. beside y c.expr_written-in-Comp.result) front ∙ ap (λ y. beside (beside (seen (of (map gen_written q.gens))) cond) y) term)
    ∙ sym (ap (λ x. seen (writing x)) q.is ∙ expr-Comp q.term q.gens q.cond)

pub all_written-loop-x-preserved : goal.all_written-loop-x-preserved
all_written-loop-x-preserved t c = all_step writing _ _ _ _ _ c.loop-x-test.true c.x-item.is c.loop-x.invariant (c.beside-all.ensures ∙ ap (λ y. beside c.loop-x.all y) c.expr_written.ensures)

pub gens_written-loop-g-preserved : goal.gens_written-loop-g-preserved
gens_written-loop-g-preserved t c = all_step gen_written _ _ _ _ _ c.loop-g-test.true c.g-item.is c.loop-g.invariant (c.beside-all.ensures ∙ ap (λ y. beside c.loop-g.all y) c.gen_written.ensures)

pub links_written-loop-link-preserved : goal.links_written-loop-link-preserved
links_written-loop-link-preserved t c =
    all_step chain_written _ _ c.link-item.result _ _ c.loop-link-test.true c.link-item.is c.loop-link.invariant
    (c.beside-all.ensures ∙ ap (λ y. beside c.loop-link.all y) (c.expr_written.ensures ∙ ap (λ x. seen (writing x)) c.get.ensures) ∙ sym (link-beside c.link-item.result c.loop-link.all))

pub patterns_written-loop-pattern-preserved : goal.patterns_written-loop-pattern-preserved
patterns_written-loop-pattern-preserved t c = all_step pattern_written _ _ _ _ _ c.loop-pattern-test.true c.pattern-item.is c.loop-pattern.invariant (c.beside-all.ensures ∙ ap (λ y. beside c.loop-pattern.all y) c.pattern_written.ensures)
