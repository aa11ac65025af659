use Rattle.std.proofs.Common.{◌≡◌, drop}
use Rattle.da_limits.specs.LimitWalk.{wide_params}
use Rattle.da_limits.proofs.members.has_wide_param.Given as goal

abbrev pub invariant-loop-param : goal.invariant-loop-param
invariant-loop-param l = wide_params (drop l.param-index l.params) ≡ wide_params l.params
