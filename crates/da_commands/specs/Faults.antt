-- The refusal of a text that gets no declarations.
use Rattle.da_infer.specs.declared.top.InferFault.{InferFault}
use Rattle.da_infer.specs.declared.top.InferFault.TheVariants as infer
use Rattle.da_front.specs.declared.refusal.ProgramFault.{ProgramFault}
use Rattle.da_front.specs.declared.refusal.ProgramFault.TheVariants.{Refused, Memory}
use Rattle.da_front.specs.declared.refusal.RefusedKind.TheVariants.{Infer}
use Rattle.da_front.specs.Verdict.{kind_of_limit, kind_of_name}

abbrev pub after_infer : InferFault → ProgramFault
after_infer (infer.Name kind line) = Refused (kind_of_name kind) line
after_infer (infer.Limit which line) = Refused (kind_of_limit which) line
after_infer (infer.NoTypes line) = Refused Infer line
after_infer infer.Memory = Memory
