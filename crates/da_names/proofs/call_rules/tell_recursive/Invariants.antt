use Rattle.std.proofs.Common.{◌≡◌, flat_map, map, take}
use Rattle.da_lang.specs.declared.refusal.ScopeKind.TheVariants.{Recursive}
use Rattle.da_lang.specs.NameRules.{recursive_in}
use Rattle.da_lang.specs.Scopes.{at_lines}
use Rattle.da_calls.specs.CallGraph.{class_in}
use Rattle.da_bodies.specs.Telling.{telling}
use Rattle.da_names.proofs.RecursiveLaws.{name_of}
use Rattle.da_names.proofs.call_rules.tell_recursive.Given as goal

abbrev pub invariant-loop-method : goal.invariant-loop-method
invariant-loop-method l = l.least ≡ telling l.initial.least (at_lines Recursive (flat_map (recursive_in (class_in l.graph)) (map name_of (take l.method-index l.method-items))))
