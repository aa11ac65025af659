use Rattle.std.proofs.Common.{◌≡◌, drop, map}
use Rattle.query_plan.specs.Plans.{all_bound, all_on, any_on, norm, signed_bound}
use Rattle.quant_norm.specs.Either.{any_from}
use Rattle.quant_norm.specs.Making.{place_of}
use Rattle.quant_norm.proofs.PlanSteps.{with_bound}
use Rattle.quant_norm.proofs.conditions.+norm.Given as goal

abbrev pub invariant-norm_all-loop-cond : goal.invariant-norm_all-loop-cond
invariant-norm_all-loop-cond l = all_on (map norm l.conds) (place_of l.fn.at) l.fn.nodes ≡ all_on (map norm (drop l.cond-index l.conds)) (place_of l.last) l.nodes

abbrev pub invariant-norm_any-loop-cond : goal.invariant-norm_any-loop-cond
invariant-norm_any-loop-cond l = any_on (map norm l.conds) (place_of l.at) l.fn.nodes ≡ any_from l.left (map norm (drop l.cond-index l.conds)) (place_of l.at) l.nodes

abbrev pub invariant-bind_signed-loop-signed : goal.invariant-bind_signed-loop-signed
invariant-bind_signed-loop-signed l = all_bound (map signed_bound l.operands) (place_of l.fn.at) l.fn.nodes ≡ with_bound l.made (all_bound (map signed_bound (drop l.signed-index l.operands)) (place_of l.at) l.nodes)
