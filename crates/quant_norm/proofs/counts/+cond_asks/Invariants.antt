use Rattle.std.specs.List.{sum_by}
use Rattle.std.proofs.Common.{◌≡◌, take}
use Rattle.query_plan.specs.Questions.{cond_asks}
use Rattle.quant_norm.proofs.counts.+cond_asks.Given as goal

abbrev pub invariant-asked_in_conds-loop-cond : goal.invariant-asked_in_conds-loop-cond
invariant-asked_in_conds-loop-cond l = l.count ≡ sum_by cond_asks (take l.cond-index l.conds)
