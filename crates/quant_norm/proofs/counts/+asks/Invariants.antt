use Rattle.std.specs.List.{sum_by}
use Rattle.std.proofs.Common.{◌≡◌, take}
use Rattle.query_plan.specs.Questions.{asks}
use Rattle.quant_norm.specs.Making.{part_asks}
use Rattle.quant_norm.proofs.counts.+asks.Given as goal

abbrev pub invariant-asked_in_all-loop-expr : goal.invariant-asked_in_all-loop-expr
invariant-asked_in_all-loop-expr l = l.count ≡ sum_by asks (take l.expr-index l.exprs)

abbrev pub invariant-asked_in_chain-loop-part : goal.invariant-asked_in_chain-loop-part
invariant-asked_in_chain-loop-part l = l.count ≡ sum_by part_asks (take l.part-index l.parts)
