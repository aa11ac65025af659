use Rattle.std.proofs.Common.{◌≡◌, take}
use Rattle.da_lang.specs.declared.refusal.ScopeKind.TheVariants.{Recursive}
use Rattle.da_lang.specs.NameRules.{leads_back, lines_where}
use Rattle.da_lang.specs.Scopes.{at_lines}
use Rattle.da_calls.specs.CallGraph.{class_in}
use Rattle.da_names.specs.DeedView.{deeds_in}
use Rattle.da_bodies.specs.Telling.{telling}
use Rattle.da_names.proofs.call_rules.tell_round.Given as goal

abbrev pub invariant-loop-deed : goal.invariant-loop-deed
invariant-loop-deed l = l.least ≡ telling l.initial.least (at_lines Recursive (lines_where (λ d. leads_back (class_in l.graph) l.holder d.does) (deeds_in (take l.deed-index l.deeds))))
