use Rattle.std.proofs.Common.{◌≡◌, take}
use Rattle.std.specs.Prelude.{◌||◌}
use Rattle.std.specs.List.{list_any}
use Rattle.da_lang.specs.declared.refusal.ScopeKind.TheVariants.{Setup}
use Rattle.da_lang.specs.NameRules.{acts, lines_where}
use Rattle.da_lang.specs.Scopes.{at_lines}
use Rattle.da_lang.specs.Written.{asks}
use Rattle.da_names.specs.DeedView.{deeds_in}
use Rattle.da_bodies.specs.Telling.{telling}
use Rattle.da_names.proofs.deed_rules.tell_early.Given as goal

abbrev pub invariant-loop-deed : goal.invariant-loop-deed
invariant-loop-deed l = l.least ≡ telling l.initial.least (at_lines Setup (lines_where (λ d. acts d.does || list_any asks d.says) (deeds_in (take l.deed-index l.deeds))))
