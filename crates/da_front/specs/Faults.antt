-- The refusal of a text, from that of its names, limits, types or plans.
use Rattle.da_scope.specs.declared.top.ScopeFault.{ScopeFault}
use Rattle.da_scope.specs.declared.top.ScopeFault.TheVariants as scope
use Rattle.da_types.specs.declared.top.TypeFault.{TypeFault}
use Rattle.quant_norm.specs.declared.top.PlanFault.{PlanFault}
use Rattle.quant_norm.specs.declared.top.PlanFault.TheVariants as plan
use Rattle.da_types.specs.declared.top.TypeFault.TheVariants as types
use Rattle.da_front.specs.declared.refusal.ProgramFault.{ProgramFault}
use Rattle.da_front.specs.declared.refusal.ProgramFault.TheVariants.{Refused, Memory}
use Rattle.da_front.specs.declared.refusal.RefusedKind.TheVariants.{Nodes, Types}
use Rattle.da_front.specs.Verdict.{kind_of_limit, kind_of_name}

abbrev pub after_names : ScopeFault → ProgramFault
after_names (scope.Refused kind line) = Refused (kind_of_name kind) line
after_names (scope.Limit which line) = Refused (kind_of_limit which) line
after_names scope.Memory = Memory

abbrev pub after_types : TypeFault → ProgramFault
after_types (types.Refused line) = Refused Types line
after_types types.Memory = Memory

abbrev pub after_plans : PlanFault → ProgramFault
after_plans (plan.TooMany line) = Refused Nodes line
after_plans plan.Memory = Memory
