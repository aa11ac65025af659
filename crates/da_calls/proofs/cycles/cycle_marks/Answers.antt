use Rattle.std.proofs.Common.{◌≡◌, ◌∷◌, ◌<◌, ◌-◌, length, reverse, take, get_or, ap, sym, subst, ◌∙◌, arith}
use Rattle.std.proofs.lemmas.List.{take_all}
use Rattle.da_calls.specs.CallPaths.{MarkedFrom}
use Rattle.da_calls.proofs.CallCycles.{Cycling, cycles_begin, cycles_end, front_cycles, next_cycles, turned_graph, written_back}
use Rattle.da_calls.proofs.cycles.cycle_marks.Goals as goal

pub loop-left-init : goal.loop-left-init
loop-left-init c = (
  omega arith,
  subst (λ o. Cycling c.args.graph.now (reverse o) c.in_ok-marks.marks.items) (sym (take_all (length c.args.order.now) c.args.order.now (omega arith)))
      (cycles_begin _ _ _ c.in_ok-marks.ensures c.requires.order),
)

pub mark_from-requires-clause-graph : goal.mark_from-requires-clause-graph
mark_from-requires-clause-graph c = turned_graph _ _ c.requires.back

pub mark_from-requires-clause-marks : goal.mark_from-requires-clause-marks
mark_from-requires-clause-marks c = ap length c.as_mut_slice.ensures.value ∙ c.loop-left.invariant.1.sized ∙ sym c.requires.back.sized

pub mark_from-requires-clause-from : goal.mark_from-requires-clause-from
mark_from-requires-clause-from c =
    let front : Cycling c.args.graph.now (get_or c.args.order.now (c.loop-left.left - 1) 0 ∷ reverse (take (c.loop-left.left - 1) c.args.order.now)) c.loop-left.marks.items =
    front_cycles _ _ _ 0 _ c.loop-left-test.true c.loop-left.invariant.0 c.loop-left.invariant.1 in
    let within : get_or c.args.order.now (c.loop-left.left - 1) 0 < length c.args.graph.now = front.left.0.within in
    omega (arith, within, c.requires.back.sized)

pub loop-left-preserved : goal.loop-left-preserved
loop-left-preserved c =
    let marked : MarkedFrom c.args.back.now (get_or c.args.order.now (c.loop-left.left - 1) 0) c.loop-left.marks.items c.mark_from.new.marks =
    subst (λ old. MarkedFrom c.args.back.now (get_or c.args.order.now (c.loop-left.left - 1) 0) old c.mark_from.new.marks) c.as_mut_slice.ensures.value c.in_ok-mark_from.ensures in (
      omega arith,
      subst (λ new. Cycling c.args.graph.now (reverse (take (c.loop-left.left - 1) c.args.order.now)) new)
          (sym (written_back _ _ _ c.loop-left.marks.ok.0 marked.sized))
          (next_cycles _ _ _ _ _ _ _ c.requires.graph c.requires.back c.loop-left-test.true c.loop-left.invariant.0 marked c.loop-left.invariant.1),
    )

pub returns : goal.returns
returns c =
    let none : c.loop-left.left ≡ 0 = omega arith in
    cycles_end _ _ _ (ap (λ k. reverse (take k c.args.order.now)) none) c.loop-left.invariant.1
