use Rattle.std.proofs.Common.{◌+◌, List, Option, ℕ, length, get_or, take, subst, ap, sym, ◌∙◌}
use Rattle.std.proofs.lemmas.List.{take_more, take_all}
use Rattle.std.proofs.lemmas.List.Elements.{Contains-get_or}
use Rattle.da_calls.specs.CallPaths.{MarkedFrom}
use Rattle.da_calls.proofs.CallCycles.{written_back}
use Rattle.da_calls.proofs.CallReached.{Reaching, reaching_none, reaching_more, reaching_all}
use Rattle.da_calls.proofs.search.reach_marks.Goals as goal

pub loop-start-init : goal.loop-start-init
loop-start-init c = reaching_none _ _ c.in_ok-marks.ensures

pub mark_from-requires-clause-marks : goal.mark_from-requires-clause-marks
mark_from-requires-clause-marks c = ap length c.as_mut_slice.ensures.value ∙ c.loop-start.invariant.sized

pub mark_from-requires-clause-from : goal.mark_from-requires-clause-from
mark_from-requires-clause-from c = c.requires.starts _ (Contains-get_or c.args.starts.now c.loop-start.start-index 0 c.loop-start-test.true)

pub loop-start-preserved : goal.loop-start-preserved
loop-start-preserved c =
    let start : ℕ = get_or c.args.starts.now c.loop-start.start-index 0 in
    let to_new : List (Option ℕ) → Type 0 = λ old. MarkedFrom c.args.graph.now start old c.mark_from.new.marks in
    let marked : to_new c.loop-start.marks.items = subst to_new c.as_mut_slice.ensures.value c.in_ok-mark_from.ensures in
    subst (λ new. Reaching c.args.graph.now (take (c.loop-start.start-index + 1) c.args.starts.now) new)
    (sym (written_back _ _ _ c.loop-start.marks.ok.0 marked.sized))
    (reaching_more _ _ _ _ _ _ (take_more c.args.starts.now c.loop-start.start-index 0 c.loop-start-test.true) marked c.loop-start.invariant)

pub returns : goal.returns
returns c = reaching_all _ _ _ (subst (λ s. Reaching c.args.graph.now s c.loop-start.marks.items) (take_all c.loop-start.start-index c.args.starts.now c.loop-start-test.false) c.loop-start.invariant)
