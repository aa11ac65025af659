use Rattle.std.proofs.Common.{◌≡◌, ◌++◌, take, drop}
use Rattle.type_demands.specs.Demands.{at_line}
use Rattle.type_demands.specs.ExprLists.{elements_in, further_in, parts_in, sames_in, syms_in, truths_in}
use Rattle.type_demands.specs.KnownView.{context_of}
use Rattle.type_demands.specs.Syms.{demands_in, schemes_in}
use Rattle.type_demands.proofs.expressions.+expressions.Given as goal

abbrev pub invariant-truths-loop-x : goal.invariant-truths-loop-x
invariant-truths-loop-x l = l.demands ≡ l.fn.demands ++ at_line l.known.line (truths_in (context_of l.known) l.known.queries.now (take l.x-index l.xs))

abbrev pub invariant-exprs_demands-loop-x : goal.invariant-exprs_demands-loop-x
invariant-exprs_demands-loop-x l =
    (l.schemes ≡ schemes_in (syms_in (context_of l.known) l.known.queries.now (take l.x-index l.xs)))
    × (l.demands ≡ l.fn.demands ++ at_line l.known.line (demands_in (syms_in (context_of l.known) l.known.queries.now (take l.x-index l.xs))))

abbrev pub invariant-others_demands-loop-other : goal.invariant-others_demands-loop-other
invariant-others_demands-loop-other l = l.demands ≡ l.fn.demands ++ at_line l.known.line (sames_in (context_of l.known) l.known.queries.now l.asked (take l.other-index l.others))

abbrev pub invariant-further-loop-part : goal.invariant-further-loop-part
invariant-further-loop-part l = l.demands ≡ l.fn.demands ++ at_line l.known.line (further_in (context_of l.known) l.known.queries.now l.first (take l.part-index l.more))

abbrev pub invariant-elements_demands-loop-x : goal.invariant-elements_demands-loop-x
invariant-elements_demands-loop-x l = l.demands ≡ l.fn.demands ++ at_line l.known.line (elements_in (context_of l.known) l.known.queries.now l.element (take l.x-index l.xs))

abbrev pub invariant-parts_demands-loop-x : goal.invariant-parts_demands-loop-x
invariant-parts_demands-loop-x l =
    (l.at ≡ l.x-index)
    × (l.demands ++ at_line l.known.line (parts_in (context_of l.known) l.known.queries.now l.at l.count l.asked (drop l.x-index l.xs)) ≡ l.fn.demands ++ at_line l.known.line (parts_in (context_of l.known) l.known.queries.now 0 l.count l.asked l.xs))
