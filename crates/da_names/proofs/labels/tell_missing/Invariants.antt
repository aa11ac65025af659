use Rattle.std.proofs.Common.{◌≡◌, flat_map, take}
use Rattle.da_lang.specs.declared.refusal.ScopeKind.TheVariants.{Unknown}
use Rattle.da_lang.specs.Scopes.{at_lines}
use Rattle.da_bodies.specs.BodyView.{body_view}
use Rattle.da_bodies.specs.Repeats.{is_seen}
use Rattle.da_bodies.specs.Telling.{telling}
use Rattle.da_names.specs.ClassRules.{missing_at}
use Rattle.da_names.proofs.labels.tell_missing.Given as goal

abbrev pub invariant-loop-body : goal.invariant-loop-body
invariant-loop-body l = l.least ≡ telling l.initial.least (flat_map (λ b. at_lines Unknown (missing_at (is_seen l.seen) (body_view b))) (take l.body-index l.bodies))
