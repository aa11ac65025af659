use Rattle.std.proofs.Common.{◌≡◌, take}
use Rattle.da_lang.specs.declared.refusal.ScopeKind.TheVariants.{Yield}
use Rattle.da_lang.specs.NameRules.{yields_by, lines_where}
use Rattle.da_lang.specs.Scopes.{at_lines}
use Rattle.da_calls.specs.CallGraph.{class_in}
use Rattle.da_names.specs.DeedView.{deeds_in}
use Rattle.da_bodies.specs.Telling.{telling}
use Rattle.da_names.proofs.call_rules.tell_yields.Given as goal

abbrev pub invariant-loop-deed : goal.invariant-loop-deed
invariant-loop-deed l = l.least ≡ telling l.initial.least (at_lines Yield (lines_where (λ d. yields_by (class_in l.graph) d.does) (deeds_in (take l.deed-index l.deeds))))
