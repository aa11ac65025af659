use Rattle.std.proofs.Common.{◌≡◌, take}
use Rattle.da_lang.specs.declared.refusal.ScopeKind.TheVariants.{Twice}
use Rattle.da_lang.specs.Scopes.{at_lines}
use Rattle.da_names.specs.ClassRules.{bodies_in, has_some, is_once, lines_after}
use Rattle.da_bodies.specs.Telling.{telling}
use Rattle.da_names.proofs.classes.tell_after.Given as goal

abbrev pub invariant-loop-body : goal.invariant-loop-body
invariant-loop-body l = record {
  told : l.least ≡ telling l.initial.least (at_lines Twice (lines_after (is_once l.part) (bodies_in (take l.body-index l.bodies))));
  some : l.seen ≡ has_some (is_once l.part) (bodies_in (take l.body-index l.bodies));
}
