use Rattle.std.specs.List.{sum_by}
use Rattle.std.proofs.Common.{◌≡◌, take}
use Rattle.da_lang.specs.declared.program.BindArg.{BindArg}
use Rattle.query_plan.specs.Questions.{asks}
use Rattle.quant_norm.proofs.counts.asked_in_args.Given as goal

abbrev pub invariant-loop-arg : goal.invariant-loop-arg
invariant-loop-arg l = l.count ≡ sum_by (λ (arg : BindArg). asks arg.value) (take l.arg-index l.args)
