use Rattle.std.proofs.Common.{◌≡◌, take}
use Rattle.da_lang.specs.declared.refusal.ScopeKind.TheVariants.{Arity}
use Rattle.da_lang.specs.NameRules.{misfits, lines_where}
use Rattle.da_lang.specs.Scopes.{at_lines}
use Rattle.da_calls.specs.CallGraph.{class_in}
use Rattle.da_names.specs.DeedView.{deeds_in}
use Rattle.da_bodies.specs.Telling.{telling}
use Rattle.da_names.proofs.call_rules.tell_misfits.Given as goal

abbrev pub invariant-loop-deed : goal.invariant-loop-deed
invariant-loop-deed l = l.least ≡ telling l.initial.least (at_lines Arity (lines_where (λ d. misfits (class_in l.graph) d d.does) (deeds_in (take l.deed-index l.deeds))))
